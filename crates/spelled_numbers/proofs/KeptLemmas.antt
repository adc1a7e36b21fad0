-- What a table has after an answer was put into a slot.
use Rattle.std.proofs.Common.{◌≡◌, ℕ, ◌≤◌, List, set, ◌⊎◌, inl, inr, refl, ap, arith, Contains, Option, Some}
use Rattle.std.proofs.lemmas.List.Elements.{All-set, All-weaker, All-contains_itself, All-contains}
use Rattle.spelled_numbers.specs.declared.kept.Kept.{Kept}
use Rattle.spelled_numbers.specs.Steps.{GainsOnly}

-- what was there, or the one gained
abbrev IsOldOr : List (Option Kept) → Kept → Option Kept → Type 0
IsOldOr old more kept = (Contains old kept) ⊎ (kept ≡ Some more)

same_kept : (a b : Kept) → Some a ≡ Some b → a ≡ b
same_kept a b e = cc

pub gains-set : (old : List (Option Kept)) (i : ℕ) (more : Kept) → GainsOnly old (set old i (Some more)) more
gains-set old i more kept there =
    elim (All-contains (IsOldOr old more) (set old i (Some more)) (Some kept)
    (All-set (IsOldOr old more) old i (Some more) (inr refl) (All-weaker (Contains old) (IsOldOr old more) (λ x c. inl c) old (All-contains_itself old))) there) [
      | inl before ↦ inl before
      | inr is ↦ inr (same_kept kept more is)
    ]

-- no question is later than the last
pub older_set : (old : List (Option Kept)) (i question : ℕ) (more : Kept) → ((kept : Kept) → Contains old (Some kept) → kept.question ≤ question) → more.question ≡ question
    → (kept : Kept) → Contains (set old i (Some more)) (Some kept) → kept.question ≤ question
older_set old i question more all e kept there = elim (gains-set old i more kept there) [
  | inl before ↦ all kept before
  | inr is ↦ omega (arith, e, ap (λ (k : Kept). k.question) is)
]
