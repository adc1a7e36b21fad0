-- What the private steps of a comparison promise each other. No public clause speaks of these.
use Rattle.std.specs.Prelude.{◌≡◌, ℕ, ◌+◌, Bool, not, if◌then◌else◌, List, [], ◌∷◌, nat_le, drop, get_or, false, ◌⊎◌, Contains, Option, Some}
use Rattle.bdd_core.specs.Diagram.{Diagram}
use Rattle.bdd_core.specs.Calls.{Represents}
use Rattle.spelled_numbers.specs.declared.kept.Kept.{Kept}
use Rattle.spelled_numbers.specs.declared.weighted.Weighted.{Weighted}
use Rattle.spelled_numbers.specs.Table.{Table}

-- whether a level counts: one that adds does where it is true, one that takes off where it is false
abbrev pub counts : Bool → Weighted → Bool
counts value t = if t.minus then not value else value

-- the sum of the weights of the levels that count
abbrev pub counted : (ℕ → Bool) → List Weighted → ℕ
counted values [] = 0
counted values (t ∷ ts) = (if counts (values t.level) t then t.weight else 0) + counted values ts

-- what the levels take off where all are true
abbrev pub taken_off : List Weighted → ℕ
taken_off [] = 0
taken_off (t ∷ ts) = (if t.minus then t.weight else 0) + taken_off ts

-- what stands past the last term
abbrev pub no_term : Weighted
no_term = record { minus = false; level = 0; weight = 0 }

-- the weight at a place
abbrev pub weight_at : List Weighted → ℕ → ℕ
weight_at terms at = (get_or terms at no_term).weight

-- r is true exactly where the levels that count sum to at most room
abbrev pub IsAtMost : Diagram → List Weighted → ℕ → ℕ → Type 0
IsAtMost d terms room r = Represents d (λ values. nat_le (counted values terms) room) r

-- each answer that is kept to this question is right
pub record AllRight (d : Diagram) (terms : List Weighted) (table : Table) : Type 0 where
  pub right : (kept : Kept) → Contains table.slots (Some kept) → kept.question ≡ table.question
      → IsAtMost d (drop kept.at terms) kept.room kept.answer

-- new has what old had, and one more
abbrev pub GainsOnly : List (Option Kept) → List (Option Kept) → Kept → Type 0
GainsOnly old new more = (kept : Kept) → Contains new (Some kept) → (Contains old (Some kept)) ⊎ (kept ≡ more)
