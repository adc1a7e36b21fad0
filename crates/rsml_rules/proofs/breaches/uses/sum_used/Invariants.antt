use Rattle.std.proofs.Common.{◌≡◌, drop}
use Rattle.std.specs.Prelude.{flat_map}
use Rattle.rsml_rules.specs.breaches.Noting.{noted}
use Rattle.rsml_syntax.specs.rules.Uses as uses
use Rattle.rsml_rules.proofs.breaches.uses.sum_used.Given as goal

abbrev pub invariant-loop-term : goal.invariant-loop-term
invariant-loop-term l =
    noted l.worst (flat_map (λ t. uses.operand_used l.tables l.scope t.operand) (drop l.term-index l.term-items))
    ≡ noted l.fn.worst (uses.sum_used l.tables l.scope l.sum)
