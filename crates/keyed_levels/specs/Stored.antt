-- What is stored of the levels that stand for comparisons.
use Rattle.std.specs.Prelude.{◌≡◌, ℕ, ◌+◌, ◌<◌, ◌≤◌, List, All, length, Option, Some, slice_get, slice_index_or}
use Rattle.rsml_meaning.specs.Cells.{cells}
use Rattle.rsml_ground.specs.Truths.{Grounded}
use Rattle.world_levels.specs.Spelling.{WorldLevels, free_from}
use Rattle.keyed_levels.specs.declared.keyed.Keyed.{Keyed}
use Rattle.keyed_levels.specs.Keyed.{Beside, KeyedWorlds, AreKeyed, IsKeyOf, PhraseFits, key_at, phrases_of}

-- phrases, levels and keys
abbrev pub with_parts : Grounded → Beside → WorldLevels → List Keyed → KeyedWorlds
with_parts base beside levels keyed = record { base = base; beside = beside; slots = levels.slots; keyed = keyed }

-- each pair is the level and the phrase at its place
pub record IsPaired (levels phrases : List ℕ) (keyed : List Keyed) : Type 0 where
  pub few : length keyed ≤ length levels
  pub few_phrases : length keyed ≤ length phrases
  pub level : (i : ℕ) → i < length keyed → (key_at keyed i).level ≡ slice_index_or levels i 0
  pub phrase : (i : ℕ) → i < length keyed → (key_at keyed i).phrase ≡ slice_index_or phrases i 0

-- The keys have the first free levels, and those that stay are of phrases that stay.
pub record AreFirst (base : Grounded) (beside : Beside) (levels : List ℕ) (keyed : List Keyed) : Type 0 where
  pub few : length keyed ≤ length levels
  pub level : (i : ℕ) → i < length keyed → (key_at keyed i).level ≡ slice_index_or levels i 0
  pub few_keys : beside.first_keys ≤ length keyed
  pub few_phrases : beside.first_phrases ≤ length beside.phrases
  pub phrase : (i : ℕ) → i < beside.first_keys → (key_at keyed i).phrase < length base.phrases + beside.first_phrases

-- Levels of the specification; comparisons beside its phrases; keys of them; and for phrases the places of their keys, where they
-- are stored.
pub record AreStored (base : Grounded) (beside : Beside) (levels : WorldLevels) (keyed : List Keyed) (places : List (Option ℕ)) : Type 0 where
  pub same : levels.spec ≡ base.spec
  pub fit : All (PhraseFits (length (cells base.spec))) beside.phrases
  pub keyed_are : AreKeyed (with_parts base beside levels keyed)
  pub first : AreFirst base beside (free_from levels.slots 0) keyed
  pub places_are : (phrase place : ℕ) → slice_get places phrase ≡ Some (Some place) → (place < beside.first_keys) × IsKeyOf keyed phrase place

-- the next key that is free, for the next phrase
pub record IsNextKey (k : KeyedWorlds) (x : Keyed) : Type 0 where
  pub there : length k.keyed < length (free_from k.slots 0)
  pub level : x.level ≡ slice_index_or (free_from k.slots 0) (length k.keyed) 0
  pub phrase : x.phrase ≡ length (phrases_of k)
