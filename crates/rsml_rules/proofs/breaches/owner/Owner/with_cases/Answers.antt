use Rattle.std.proofs.Common.{◌≡◌, [], ◌∷◌, ◌+◌, List, drop, map, ap, sym, ◌∙◌}
use Rattle.rsml_syntax.specs.declared.syntax.Case.{Case}
use Rattle.rsml_rules.specs.breaches.Owned.{with_all}
use Rattle.rsml_rules.proofs.OwnerLemmas.{split, with_turn}
use Rattle.rsml_rules.proofs.breaches.owner.Owner.with_cases.Goals as goal

pub loop-case-preserved : goal.loop-case-preserved
loop-case-preserved c =
    let g = c.args.setting.now.tables.globals in
    let cases = c.args.cases.now in
    let i = c.loop-case.case-index in
    let x = c.case-item.result in
    let rest = drop (i + 1) cases in
    with_turn g c.loop-case.owner _ _ (x.guard ∷ []) (map (λ (y : Case). y.guard) rest) (x.value ∷ []) (map (λ (y : Case). y.value) rest)
    c.with_case-owner.ensures
    (ap (λ (xs : List Case). with_all g c.loop-case.owner (map (λ y. y.guard) xs) (map (λ y. y.value) xs)) (sym (split cases i x c.loop-case-test.true c.case-item.is)) ∙ c.loop-case.invariant)
