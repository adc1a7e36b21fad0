use Rattle.comparing.proofs.OneSame.{one_same}
use Rattle.comparing.proofs.laws.what_same_answers_is_one.Goals as goal

pub returns : goal.returns
returns c =
    one_same c.a_report_is_one_text.ensures.report c.difference_is_one.ensures c.at_most_one_first_fault.ensures c.at_most_one_token_list.ensures c.never_both.ensures
    c.tokens_have_one_answer.ensures
