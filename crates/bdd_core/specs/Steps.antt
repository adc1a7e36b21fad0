-- What the private steps of a call promise each other. No public clause speaks of these.
use Rattle.std.specs.Prelude.{◌≡◌, ◌↔◌, ℕ, ◌<◌, ◌≤◌, ◌⊎◌, min, Bool, true, List, if◌then◌else◌, Contains}
use Rattle.bdd_core.specs.declared.computed.Kept.{Kept}
use Rattle.bdd_core.specs.Diagram.{Diagram, IsRef, node_at, level_of, meaning}
use Rattle.bdd_core.specs.Reach.{Reaches}
use Rattle.bdd_core.specs.Calls.{with_value, is_in, TrueOff}

-- f where it is true, so g, and else h
abbrev pub chosen : Diagram → ℕ → ℕ → ℕ → (ℕ → Bool) → Bool
chosen d f g h values = if meaning d f values then meaning d g values else meaning d h values

-- the least level of three places
abbrev pub least_level : Diagram → ℕ → ℕ → ℕ → ℕ
least_level d f g h = min (level_of d f) (min (level_of d g) (level_of d h))

-- r is `if f then g else h`
pub record IsChoice (d : Diagram) (f g h r : ℕ) : Type 0 where
  pub is_ref : IsRef d r
  pub means : (values : ℕ → Bool) → meaning d r values ≡ chosen d f g h values
  pub level : least_level d f g h ≤ level_of d r

-- f2, g2 and h2 ask what f, g and h ask
pub record IsSameChoice (d : Diagram) (f g h f2 g2 h2 : ℕ) : Type 0 where
  pub f_ref : IsRef d f2
  pub g_ref : IsRef d g2
  pub h_ref : IsRef d h2
  pub means : (values : ℕ → Bool) → chosen d f2 g2 h2 values ≡ chosen d f g h values
  pub level : least_level d f2 g2 h2 ≡ least_level d f g h

-- low and high stand for f where the level is false and true
pub record IsChildren (d : Diagram) (f level low high : ℕ) : Type 0 where
  pub low_ref : IsRef d low
  pub high_ref : IsRef d high
  pub low_reached : Reaches d f low
  pub high_reached : Reaches d f high
  pub low_most : low ≤ f
  pub high_most : high ≤ f
  pub low_falls : level_of d f ≡ level → low < f
  pub high_falls : level_of d f ≡ level → high < f
  pub low_level : level < level_of d low
  pub high_level : level < level_of d high
  pub means : (values : ℕ → Bool) → meaning d f values
      ≡ (if values level then meaning d high values else meaning d low values)

-- r is high where the level is true, and else low
pub record IsNode (d : Diagram) (level low high r : ℕ) : Type 0 where
  pub is_ref : IsRef d r
  pub means : (values : ℕ → Bool) → meaning d r values
      ≡ (if values level then meaning d high values else meaning d low values)
  pub level_most : level ≤ level_of d r

-- r is f where a level has a value
pub record IsCut (d : Diagram) (f level : ℕ) (value : Bool) (r : ℕ) : Type 0 where
  pub is_ref : IsRef d r
  pub means : (values : ℕ → Bool) → meaning d r values ≡ meaning d f (with_value values level value)
  pub level_most : level_of d f ≤ level_of d r

-- new has what old had, and one more
abbrev pub GainsOnly : List Kept → List Kept → Kept → Type 0
GainsOnly old new more = (kept : Kept) → Contains new kept → (Contains old kept) ⊎ (kept ≡ more)

-- an empty slot, which is right of each table: `if false then false else false` is false, and so is false where level 0
-- is false
abbrev pub blank : Kept
blank = record { f = 0; g = 0; h = 0; answer = 0 }

-- the place k is the low or the high child of p, and stands before it
pub record IsChild (d : Diagram) (p k : ℕ) : Type 0 where
  pub which : ((node_at d p).low ≡ k) ⊎ ((node_at d p).high ≡ k)
  pub two : 2 ≤ p
  pub below : k < p

-- no level of the list is greater
pub record IsGreatest (levels : List ℕ) (last : ℕ) : Type 0 where
  pub most : (level : ℕ) → is_in levels level ≡ true → level ≤ last

-- r is what is left of f without these levels
pub record IsWithout (d : Diagram) (f : ℕ) (levels : List ℕ) (r : ℕ) : Type 0 where
  pub is_ref : IsRef d r
  pub means : (values : ℕ → Bool) → (meaning d r values ≡ true) ↔ TrueOff (meaning d f) levels values
  pub level_most : level_of d f ≤ level_of d r

-- r is one of low and high where the level is forgotten, and else a node
pub record IsJoined (d : Diagram) (level low high : ℕ) (forgotten : Bool) (r : ℕ) : Type 0 where
  pub is_ref : IsRef d r
  pub means : (values : ℕ → Bool) → meaning d r values
      ≡ (if forgotten then (if meaning d low values then true else meaning d high values)
      else (if values level then meaning d high values else meaning d low values))
  pub level_most : level ≤ level_of d r

-- each answer is what is left of its place
pub record AreRight (d : Diagram) (levels : List ℕ) (answers : List Kept) : Type 0 where
  pub refs : (kept : Kept) → Contains answers kept → IsRef d kept.f
  pub right : (kept : Kept) → Contains answers kept → IsWithout d kept.f levels kept.answer
