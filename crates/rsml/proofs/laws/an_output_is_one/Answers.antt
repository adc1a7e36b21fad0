use Rattle.rsml.proofs.OneOutput.{one_output}
use Rattle.rsml.proofs.laws.an_output_is_one.Goals as goal

pub returns : goal.returns
returns c =
    one_output c.at_most_one_first_fault.ensures c.at_most_one_token_list.ensures c.never_both.ensures c.tokens_have_one_answer.ensures
    c.a_report_is_one_text.ensures.report c.well_formed_files_have_no_fault.ensures.exact c.a_first_fault_is_of_a_line.ensures
    c.rules_give_scopes.ensures c.event_files_have_one_run.ensures.lines c.last_lines_tell_the_verdict.ensures.last_line_is_verdict
    c.column_laws.ensures.one c.what_prove_answers_is_one.ensures c.what_same_answers_is_one.ensures
