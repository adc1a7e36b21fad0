use Rattle.std.proofs.Common.{[], ◌∷◌, ap, ◌∙◌}
use Rattle.rsml_rules.specs.declared.breaches.owner.Owner.{Owner}
use Rattle.rsml_rules.specs.breaches.Owned.{with_all}
use Rattle.rsml_rules.proofs.OwnerLemmas.{with_more}
use Rattle.rsml_rules.proofs.breaches.owner.Owner.with_case.Goals as goal

pub returns : goal.returns
returns c =
    let g = c.args.setting.now.tables.globals in
    let case = c.args.case.now in
    c.with_sum.ensures
    ∙ ap (λ (o : Owner). with_all g o [] (case.value ∷ [])) c.with_guard.ensures
    ∙ with_more g c.args.self (case.guard ∷ []) [] [] (case.value ∷ [])
