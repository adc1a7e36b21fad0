use Rattle.spelled_numbers.proofs.BitLemmas.{append, weights, signed-number, totals, levels}
use Rattle.spelled_numbers.proofs.laws.sum_laws.Goals as goal

pub returns-clause-weight_sum : goal.returns-clause-weight_sum
returns-clause-weight_sum c = λ p slots values. weights p slots values 0

pub returns-clause-signed_sum : goal.returns-clause-signed_sum
returns-clause-signed_sum c = λ p minus slots values. signed-number p minus slots values 0

pub returns-clause-append : goal.returns-clause-append
returns-clause-append c = append

pub returns-clause-all_weights : goal.returns-clause-all_weights
returns-clause-all_weights c = λ p minus slots. totals p minus slots 0

pub returns-clause-levels : goal.returns-clause-levels
returns-clause-levels c = levels
