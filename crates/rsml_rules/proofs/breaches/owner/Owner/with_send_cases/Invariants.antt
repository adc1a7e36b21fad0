use Rattle.std.proofs.Common.{◌≡◌, drop, map}
use Rattle.std.specs.Prelude.{flat_map}
use Rattle.rsml_syntax.specs.grammar.Written.{sum_of_value, values_in}
use Rattle.rsml_rules.specs.breaches.Owned.{with_all}
use Rattle.rsml_rules.proofs.breaches.owner.Owner.with_send_cases.Given as goal

abbrev pub invariant-loop-case : goal.invariant-loop-case
invariant-loop-case l =
    with_all l.setting.tables.globals l.owner (map (λ c. c.guard) (drop l.case-index l.cases)) (flat_map (λ c. flat_map sum_of_value (values_in c.answer)) (drop l.case-index l.cases))
    ≡ with_all l.setting.tables.globals l.fn.self (map (λ c. c.guard) l.cases) (flat_map (λ c. flat_map sum_of_value (values_in c.answer)) l.cases)
