-- Steps that wait for the answers of later levels. No public clause speaks of this.
use Rattle.std.specs.Prelude.{◌≡◌, ℕ, ◌+◌, ◌<◌, List, [], ◌∷◌, nat_le, length, drop, Option, Some, None}
use Rattle.bdd_core.specs.Diagram.{Diagram}
use Rattle.bdd_core.specs.Calls.{Represents}
use Rattle.spelled_numbers.specs.declared.step.Step.{Step}
use Rattle.spelled_numbers.specs.declared.weighted.Weighted.{Weighted}
use Rattle.spelled_numbers.specs.Sums.{total_weight}
use Rattle.spelled_numbers.specs.Steps.{counted, weight_at, IsAtMost}

-- next is the room for the terms after t: all of it, and where that has its answer what t leaves of it
abbrev pub IsNext : Diagram → Weighted → List Weighted → ℕ → Option ℕ → ℕ → Type 0
IsNext d t ts room None next = room ≡ next
IsNext d t ts room (Some out) next = (room ≡ t.weight + next) × IsAtMost d ts room out

-- the step of a term waits for the terms after it with the room next
pub record Asks (d : Diagram) (t : Weighted) (ts : List Weighted) (x : Step) (next : ℕ) : Type 0 where
  pub rest : x.rest ≡ t.weight + total_weight ts
  pub is_next : IsNext d t ts x.room x.out next

-- the step of the first term waits for those after it
abbrev pub AsksAfter : Diagram → List Weighted → Step → ℕ → Type 0
AsksAfter d [] x next = ⊥
AsksAfter d (t ∷ ts) x next = Asks d t ts x next

-- each step asks what the one after it answers, from the first room to the last
abbrev pub Waits : Diagram → List Weighted → ℕ → List Step → ℕ → Type 0
Waits d terms first [] last = first ≡ last
Waits d [] first (x ∷ xs) last = ⊥
Waits d (t ∷ ts) first (x ∷ xs) last = (first ≡ x.room) × ((next : ℕ) × Asks d t ts x next × Waits d ts next xs last)

-- the terms after those that wait have this answer
pub record Leads (d : Diagram) (terms : List Weighted) (first : ℕ) (waiting : List Step) (answer : ℕ) : Type 0 where
  pub last : ℕ
  pub waits : Waits d terms first waiting last
  pub right : IsAtMost d (drop (length waiting) terms) last answer

-- r is true exactly where the terms after t have room beside it
abbrev pub IsWithin : Diagram → ℕ → List Weighted → ℕ → ℕ → Type 0
IsWithin d weight ts room r = Represents d (λ values. nat_le (weight + counted values ts) room) r

-- the answer is that where the term does not count, and where that is known that where it counts
abbrev pub AreAnswers : Diagram → ℕ → List Weighted → ℕ → Option ℕ → ℕ → Type 0
AreAnswers d weight ts room None answer = IsAtMost d ts room answer
AreAnswers d weight ts room (Some out) answer = IsAtMost d ts room out × IsWithin d weight ts room answer

-- the step of a place has the answer that it waits for
pub record HasAnswer (d : Diagram) (terms : List Weighted) (at : ℕ) (x : Step) (answer : ℕ) : Type 0 where
  pub within : at < length terms
  pub rest : x.rest ≡ total_weight (drop at terms)
  pub answers : AreAnswers d (weight_at terms at) (drop (at + 1) terms) x.room x.out answer
