use Rattle.std.proofs.Common.{◌≡◌, ◌++◌, flat_map, drop}
use Rattle.settled_worlds.specs.Conflicts.{term_terms, sum_terms}
use Rattle.settled_worlds.proofs.rows.push_sum.Given as goal

abbrev pub invariant-loop-term : goal.invariant-loop-term
invariant-loop-term l = l.terms.items ++ flat_map (term_terms l.minus) (drop l.term-index l.sum.terms) ≡ l.initial.terms.items ++ sum_terms l.minus l.sum
