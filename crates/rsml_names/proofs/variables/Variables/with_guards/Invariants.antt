use Rattle.std.proofs.Common.{◌≡◌, ◌++◌, take}
use Rattle.std.specs.Prelude.{flat_map}
use Rattle.rsml_names.specs.Bound as names
use Rattle.rsml_names.proofs.variables.Variables.with_guards.Given as goal

abbrev pub invariant-loop-each : goal.invariant-loop-each
invariant-loop-each g l = l.variables ≡ l.fn.self ++ flat_map (λ x. names.of_guard l.place (g.G.Guarded.guard_of x)) (take l.each-index l.guarded)
