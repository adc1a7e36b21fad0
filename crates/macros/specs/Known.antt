-- What is known of the truths of phrases in a world.
use Rattle.std.specs.Prelude.{◌≡◌, ℕ, ◌<◌, ◌≤◌, Bool, List, length, Option, Some, None, if◌then◌else◌, ◌==◌, slice_get, All}
use Rattle.std.specs.Simd.Lanes.{zip2}
use Rattle.rsml_syntax.specs.declared.world.World.{World}
use Rattle.and_or_tables.specs.Ground.{known}
use Rattle.rsml_ground.specs.Truths.{Grounded, truths_in}
use Rattle.macros.specs.declared.memo.Memo.TheInside.{Inside}

-- the truth of a phrase is known
abbrev pub IsKnown : List (Option Bool) → ℕ → Type 0
IsKnown memo k = (truth : Bool) × (slice_get memo k ≡ Some (Some truth))

-- the truth of each phrase below a number is known
abbrev pub AreKnown : List (Option Bool) → ℕ → Type 0
AreKnown memo n = (k : ℕ) → k < n → IsKnown memo k

-- each truth that is known is that in the list
abbrev pub Agrees : List (Option Bool) → List Bool → Type 0
Agrees memo truths = (k : ℕ) (truth : Bool) → slice_get memo k ≡ Some (Some truth) → truth ≡ known truths k

-- There is a place for each phrase, and each truth that is known is the phrase's truth in the world.
pub record Knows (g : Grounded) (w : World) (memo : List (Option Bool)) : Type 0 where
  pub count : length memo ≡ length g.phrases
  pub right : Agrees memo (truths_in g w)

-- each truth that was known is still known
abbrev pub StillKnown : List (Option Bool) → List (Option Bool) → Type 0
StillKnown old new = (k : ℕ) (truth : Bool) → slice_get old k ≡ Some (Some truth) → slice_get new k ≡ Some (Some truth)

-- How a memo has it: a truth is known where its mark is the epoch.

-- the truth, where the mark is that of the epoch
abbrev pub noted : ℕ → Bool → ℕ → Option Bool
noted epoch truth mark = if mark == epoch then Some truth else None

-- the truths whose marks are those of the epoch
abbrev pub noted_in : Inside → List (Option Bool)
noted_in m = zip2 (noted m.epoch) m.truths m.marks.items

-- a mark for each truth, none later than the epoch
pub record IsMarked (m : Inside) : Type 0 where
  pub paired : length m.truths ≡ length m.marks.items
  pub marks : All (λ mark. mark ≤ m.epoch) m.marks.items
  pub begun : 0 < m.epoch
