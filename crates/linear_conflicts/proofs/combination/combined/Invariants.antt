use Rattle.std.proofs.Common.{ℕ, ℤ, ◌<◌, ◌+ℤ◌, ◌≤ℤ◌, get_or, length}
use Rattle.linear_conflicts.specs.Rows.{AreMet}
use Rattle.linear_conflicts.specs.Steps.{combination, places}
use Rattle.linear_conflicts.proofs.combination.combined.Given as goal

-- what is added is at most `most`, where the rows are met
abbrev pub invariant-loop-multiplier : goal.invariant-loop-multiplier
invariant-loop-multiplier l = record {
  met : (v : ℕ → ℤ) → AreMet v l.rows (places l.multipliers) → combination v l.factors 0 ≤ℤ (combination v l.fn.factors 0 +ℤ l.most);
  within : (k d : ℕ) → k < l.multiplier-index → get_or (places l.multipliers) k d < length l.rows;
}
