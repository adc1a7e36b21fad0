use Rattle.std.proofs.Common.{leb, drop}
use Rattle.std.proofs.lemmas.Result.{IfOk-weaker}
use Rattle.bdd_core.specs.Calls.{Represents}
use Rattle.spelled_numbers.specs.Sums.{weight_sum}
use Rattle.spelled_numbers.specs.Steps.{IsAtMost}
use Rattle.spelled_numbers.proofs.SignLemmas.{at_most-plain}
use Rattle.spelled_numbers.proofs.sum_table.SumTable.at_most.Goals as goal

pub returns-clause-answer : goal.returns-clause-answer
returns-clause-answer c =
    IfOk-weaker c.build.result (IsAtMost c.build.new.arena (drop 0 c.args.terms.now) c.args.most)
    (Represents c.build.new.arena (λ v. leb (weight_sum v c.args.terms.now) c.args.most))
    (λ r h. at_most-plain c.build.new.arena c.args.terms.now c.args.most r c.requires.add h)
    c.build.ensures.answer
