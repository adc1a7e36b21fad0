use Rattle.std.proofs.Common.{arith}
use Rattle.std.proofs.lemmas.Result.{IfOk-weaker}
use Rattle.group_verdicts.proofs.CountsLemmas.{members_on}
use Rattle.group_verdicts.proofs.MemberLemmas.{all_told, has_all}
use Rattle.group_verdicts.proofs.counted.some_of.Goals as goal

pub some_of_first-requires-clause-count : goal.some_of_first-requires-clause-count
some_of_first-requires-clause-count c = has_all c.args.encoder.now c.args.group c.members_of-count.result c.members_of-count.ensures

pub returns-clause-some : goal.returns-clause-some
returns-clause-some c =
    let many = c.members_of-count.result in
    let new = c.some_of_first.new.encoder in
    IfOk-weaker c.some_of_first.result _ _
    (λ r told. all_told 0 new c.args.group many many r (members_on c.args.encoder.now new c.args.group many c.some_of_first.ensures.keeps c.members_of-count.ensures) (omega arith) told)
    c.some_of_first.ensures.some
