use Rattle.std.proofs.Common.{◌≡◌, drop, map}
use Rattle.rsml_rules.specs.breaches.Owned.{with_all}
use Rattle.rsml_rules.proofs.breaches.owner.Owner.with_cases.Given as goal

abbrev pub invariant-loop-case : goal.invariant-loop-case
invariant-loop-case l =
    with_all l.setting.tables.globals l.owner (map (λ c. c.guard) (drop l.case-index l.cases)) (map (λ c. c.value) (drop l.case-index l.cases))
    ≡ with_all l.setting.tables.globals l.fn.self (map (λ c. c.guard) l.cases) (map (λ c. c.value) l.cases)
