use Rattle.std.proofs.Common.{◌≡◌, ℕ, ℤ, ◌+ℤ◌, ◌*ℤ◌, drop}
use Rattle.linear_conflicts.specs.Rows.{terms_at}
use Rattle.linear_conflicts.specs.Steps.{combination}
use Rattle.linear_conflicts.proofs.combination.add_terms.Given as goal

-- what is added and what is to be added is all
abbrev pub invariant-loop-term : goal.invariant-loop-term
invariant-loop-term l = (v : ℕ → ℤ) → combination v l.factors 0 +ℤ l.weight *ℤ terms_at v (drop l.term-index l.terms)
    ≡ combination v l.fn.factors 0 +ℤ l.weight *ℤ terms_at v l.terms
