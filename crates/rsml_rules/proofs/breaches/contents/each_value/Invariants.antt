use Rattle.std.proofs.Common.{◌≡◌, drop}
use Rattle.std.specs.Prelude.{flat_map}
use Rattle.rsml_rules.specs.breaches.Noting.{noted}
use Rattle.rsml_syntax.specs.rules.Declarations as declarations
use Rattle.rsml_rules.proofs.breaches.contents.each_value.Given as goal

abbrev pub invariant-loop-value : goal.invariant-loop-value
invariant-loop-value l =
    noted l.worst (flat_map (declarations.value_used l.tables l.scope) (drop l.value-index l.values))
    ≡ noted l.fn.worst (flat_map (declarations.value_used l.tables l.scope) l.values)
