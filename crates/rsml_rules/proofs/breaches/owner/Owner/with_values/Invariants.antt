use Rattle.std.proofs.Common.{◌≡◌, [], drop}
use Rattle.std.specs.Prelude.{flat_map}
use Rattle.rsml_syntax.specs.grammar.Written.{sum_of_value}
use Rattle.rsml_rules.specs.breaches.Owned.{with_all}
use Rattle.rsml_rules.proofs.breaches.owner.Owner.with_values.Given as goal

abbrev pub invariant-loop-value : goal.invariant-loop-value
invariant-loop-value l =
    with_all l.setting.tables.globals l.owner [] (flat_map sum_of_value (drop l.value-index l.values))
    ≡ with_all l.setting.tables.globals l.fn.self [] (flat_map sum_of_value l.values)
