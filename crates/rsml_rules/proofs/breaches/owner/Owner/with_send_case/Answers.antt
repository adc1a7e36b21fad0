use Rattle.std.proofs.Common.{List, [], ◌∷◌, ap, ◌∙◌}
use Rattle.std.specs.Prelude.{flat_map}
use Rattle.rsml_syntax.specs.declared.syntax.Value.{Value}
use Rattle.rsml_syntax.specs.grammar.Written.{sum_of_value, values_in}
use Rattle.rsml_rules.specs.declared.breaches.owner.Owner.{Owner}
use Rattle.rsml_rules.specs.breaches.Owned.{with_all}
use Rattle.rsml_rules.proofs.OwnerLemmas.{with_more}
use Rattle.rsml_rules.proofs.breaches.owner.Owner.with_send_case.Goals as goal

pub returns : goal.returns
returns c =
    let g = c.args.setting.now.tables.globals in
    let case = c.args.case.now in
    let sums = flat_map sum_of_value (values_in case.answer) in
    c.with_values.ensures
    ∙ ap (λ (vs : List Value). with_all g c.with_guard.result [] (flat_map sum_of_value vs)) c.answered.ensures
    ∙ ap (λ (o : Owner). with_all g o [] sums) c.with_guard.ensures
    ∙ with_more g c.args.self (case.guard ∷ []) [] [] sums
