use Rattle.std.proofs.Common.{◌≡◌, take, flat_map}
use Rattle.rsml_names.specs.PreviousNames.{gathered}
use Rattle.rsml_syntax.specs.grammar.Written.{sums_of_guard}
use Rattle.rsml_names.proofs.previous.with_guards.Given as goal

abbrev pub invariant-loop-each : goal.invariant-loop-each
invariant-loop-each g l = l.names ≡ gathered l.fn.names (flat_map (λ x. sums_of_guard (g.G.Guarded.guard_of x)) (take l.each-index l.guarded))
