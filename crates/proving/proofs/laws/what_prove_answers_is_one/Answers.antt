use Rattle.rsml_meaning.proofs.rules.Scoped.{rules_give_scopes}
use Rattle.proving.proofs.OneProve.{one_prove}
use Rattle.proving.proofs.laws.what_prove_answers_is_one.Goals as goal

pub returns : goal.returns
returns c = λ s claims a b xs ys keeps h k.
    one_prove c.at_most_one_first_fault.ensures c.at_most_one_token_list.ensures c.never_both.ensures c.claims_are_unambiguous.ensures c.a_report_is_one_text.ensures.report
    c.least_breaks_are_one.ensures.one c.next_worlds_tell_breaks.ensures.left c.breaks_tell_inductive_claims.ensures.none s (rules_give_scopes s keeps.rules) claims a b xs ys h k
