use Rattle.demonstrating.proofs.DemoLemmas.{plant_is}
use Rattle.demonstrating.proofs.demonstrating.plant_in.Goals as goal

pub returns-in-Certified-clause-plant : goal.returns-in-Certified-clause-plant
returns-in-Certified-clause-plant c =
    (plant_is c.at_most_one_first_fault.ensures c.at_most_one_token_list.ensures c.never_both.ensures c.tokens_have_one_answer.ensures c.args.units c.args.judgement
    c.in-Certified.report c.in-Certified.checked c.requires.demo c.in-Certified.is c.requires.judged).0

pub returns-in-Certified-clause-report : goal.returns-in-Certified-clause-report
returns-in-Certified-clause-report c =
    (plant_is c.at_most_one_first_fault.ensures c.at_most_one_token_list.ensures c.never_both.ensures c.tokens_have_one_answer.ensures c.args.units c.args.judgement
    c.in-Certified.report c.in-Certified.checked c.requires.demo c.in-Certified.is c.requires.judged).1
