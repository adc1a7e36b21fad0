use Rattle.std.proofs.Common.{◌≡◌, ◌++◌, flat_map, drop}
use Rattle.phrase_diagrams.specs.Terms.{term_levels, sum_levels}
use Rattle.phrase_diagrams.proofs.terms.push_sum.Given as goal

abbrev pub invariant-loop-term : goal.invariant-loop-term
invariant-loop-term l = l.levels.items ++ flat_map (term_levels l.layout l.minus) (drop l.term-index l.sum.terms) ≡ l.initial.levels.items ++ sum_levels l.layout l.minus l.sum
