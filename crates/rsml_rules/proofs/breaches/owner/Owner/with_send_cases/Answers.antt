use Rattle.std.proofs.Common.{◌≡◌, [], ◌∷◌, ◌+◌, List, drop, map, ap, sym, ◌∙◌}
use Rattle.std.specs.Prelude.{flat_map}
use Rattle.rsml_syntax.specs.declared.syntax.SendCase.{SendCase}
use Rattle.rsml_syntax.specs.declared.syntax.Sum.{Sum}
use Rattle.rsml_syntax.specs.grammar.Written.{sum_of_value, values_in}
use Rattle.rsml_rules.specs.breaches.Owned.{with_all}
use Rattle.rsml_rules.proofs.OwnerLemmas.{split, with_turn}
use Rattle.rsml_rules.proofs.breaches.owner.Owner.with_send_cases.Goals as goal

pub loop-case-preserved : goal.loop-case-preserved
loop-case-preserved c =
    let g = c.args.setting.now.tables.globals in
    let cases = c.args.cases.now in
    let i = c.loop-case.case-index in
    let x = c.case-item.result in
    let rest = drop (i + 1) cases in
    let sums : SendCase → List Sum = λ y. flat_map sum_of_value (values_in y.answer) in
    with_turn g c.loop-case.owner _ _ (x.guard ∷ []) (map (λ (y : SendCase). y.guard) rest) (sums x) (flat_map sums rest)
    c.with_send_case-owner.ensures
    (ap (λ (xs : List SendCase). with_all g c.loop-case.owner (map (λ y. y.guard) xs) (flat_map sums xs)) (sym (split cases i x c.loop-case-test.true c.case-item.is)) ∙ c.loop-case.invariant)
