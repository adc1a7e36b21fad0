use Rattle.std.proofs.Common.{◌≡◌, take}
use Rattle.rsml_syntax.specs.limits.Limits.{adds, shown}
use Rattle.rsml_limits.specs.counts.Counting.{guard_rows}
use Rattle.rsml_limits.proofs.counts.rows.all_guard_rows.Given as goal

abbrev pub invariant-loop-each : goal.invariant-loop-each
invariant-loop-each g l = l.count ≡ shown (adds (λ x. guard_rows l.globals (g.G.Guarded.guard_of x)) (take l.each-index l.guarded))
