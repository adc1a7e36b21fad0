-- Levels that stand for comparisons, and functions of levels that tell truths of worlds where each such level has the truth of
-- its comparison.
use Rattle.std.specs.Prelude.{◌≡◌, ℕ, ◌<◌, ◌≤◌, ◌++◌, Bool, false, List, Option, Some, length, take, slice_get, slice_index_or}
use Rattle.rsml_syntax.specs.declared.world.World.{World}
use Rattle.rsml_syntax.specs.rules.Relations.{compare}
use Rattle.rsml_ground.specs.declared.phrases.GroundPhrase.{GroundPhrase}
use Rattle.rsml_ground.specs.declared.phrases.GroundPhrase.TheVariants as phrases
use Rattle.rsml_ground.specs.Rests.{SumFits}
use Rattle.rsml_ground.specs.Truths.{Grounded, sum_number}
use Rattle.bdd_core.specs.Diagram.{Diagram, IsRef, meaning}
use Rattle.spelled_numbers.specs.declared.slot.Slot.{Slot}
use Rattle.spelled_numbers.specs.declared.slot.Slot.TheVariants.{Free}
use Rattle.world_levels.specs.Spelling.{IsLayout, world_of}
use Rattle.free_levels.specs.Keys.{Keys, IsLawful}
use Rattle.keyed_levels.specs.declared.keyed.Keyed.{Keyed}

-- a comparison of sums over so many cells
abbrev pub PhraseFits : ℕ → GroundPhrase → Type 0
PhraseFits cells (phrases.Compare left relation right) = SumFits cells left × SumFits cells right
PhraseFits cells _ = ⊥

-- Comparisons beside the phrases of a specification. So many of these, and so many of the keys, stay when bounds are taken back.
pub record Beside : Type 0 where
  pub phrases : List GroundPhrase
  pub first_phrases : ℕ
  pub first_keys : ℕ

-- The phrases of a specification and comparisons beside them, the slots of the levels, and the levels that stand for comparisons.
pub record KeyedWorlds : Type 0 where
  pub base : Grounded
  pub beside : Beside
  pub slots : List Slot
  pub keyed : List Keyed

-- all phrases, by their numbers
abbrev pub phrases_of : KeyedWorlds → List GroundPhrase
phrases_of k = k.base.phrases ++ k.beside.phrases

-- the world that the values of the levels spell
abbrev pub world_at : KeyedWorlds → (ℕ → Bool) → World
world_at k values = world_of k.base.spec k.slots values

-- whether a comparison holds in a world; another phrase does not
abbrev pub comparison : World → Option GroundPhrase → Bool
comparison w (Some (phrases.Compare left relation right)) = compare relation (sum_number w.cells left) (sum_number w.cells right)
comparison w _ = false

-- what stands past the last key
abbrev pub no_key : Keyed
no_key = record { level = 0; phrase = 0 }

-- the key at a place
abbrev pub key_at : List Keyed → ℕ → Keyed
key_at keyed place = slice_index_or keyed place no_key

-- each level stands for its comparison, in the world that the values spell
abbrev pub keys_of : KeyedWorlds → Keys
keys_of k = record {
  count = length k.keyed;
  level = λ i. (key_at k.keyed i).level;
  function = λ i values. comparison (world_at k values) (slice_get (phrases_of k) (key_at k.keyed i).phrase);
}

-- Levels for the worlds of the specification. Each key has a free level of its own and a phrase that there is.
pub record AreKeyed (k : KeyedWorlds) : Type 0 where
  pub layout : IsLayout k.base.spec k.slots
  pub differ : (i j : ℕ) → i < length k.keyed → j < length k.keyed → (key_at k.keyed i).level ≡ (key_at k.keyed j).level → i ≡ j
  pub free : (i : ℕ) → i < length k.keyed → slice_get k.slots (key_at k.keyed i).level ≡ Some Free
  pub phrase : (i : ℕ) → i < length k.keyed → (key_at k.keyed i).phrase < length (phrases_of k)

-- each level that stands for a comparison has its truth
abbrev pub Lawful : KeyedWorlds → (ℕ → Bool) → Type 0
Lawful k values = IsLawful (keys_of k) values

-- r is true, where the values are lawful, exactly where they spell a world of which this is true
pub record Tells (d : Diagram) (k : KeyedWorlds) (truth : World → Bool) (r : ℕ) : Type 0 where
  pub is_ref : IsRef d r
  pub means : (values : ℕ → Bool) → Lawful k values → meaning d r values ≡ truth (world_at k values)

-- the key at a place is that of a phrase
pub record IsKeyOf (keyed : List Keyed) (phrase place : ℕ) : Type 0 where
  pub there : place < length keyed
  pub of_phrase : (key_at keyed place).phrase ≡ phrase

-- the levels without bounds
abbrev pub unbounded : KeyedWorlds → KeyedWorlds
unbounded k = record k {
  beside = record {
    phrases = take k.beside.first_phrases k.beside.phrases;
    first_phrases = k.beside.first_phrases;
    first_keys = k.beside.first_keys;
  };
  keyed = take k.beside.first_keys k.keyed;
}

-- no level stands for a bound
abbrev pub HasNoBounds : KeyedWorlds → Type 0
HasNoBounds k = unbounded k ≡ k

-- The second has the keys of the first, and perhaps others after them.
pub record Extends (k more : KeyedWorlds) : Type 0 where
  pub base : more.base ≡ k.base
  pub slots : more.slots ≡ k.slots
  pub many : length k.keyed ≤ length more.keyed
  pub key : (i : ℕ) → i < length k.keyed → key_at more.keyed i ≡ key_at k.keyed i
  pub phrase : (i : ℕ) → i < length k.keyed → slice_get (phrases_of more) (key_at k.keyed i).phrase ≡ slice_get (phrases_of k) (key_at k.keyed i).phrase

-- the level is that of a key, which stands for this comparison
pub record StandsFor (k : KeyedWorlds) (phrase : GroundPhrase) (level : ℕ) : Type 0 where
  pub place : ℕ
  pub there : place < length k.keyed
  pub own : (key_at k.keyed place).level ≡ level
  pub is : slice_get (phrases_of k) (key_at k.keyed place).phrase ≡ Some phrase
