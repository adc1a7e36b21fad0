use Rattle.std.proofs.lemmas.Result.{IfOk-weaker}
use Rattle.guard_encode.proofs.StepLemmas.{keeps_on}
use Rattle.group_verdicts.specs.Counts.{has_more}
use Rattle.world_columns.specs.Failing.{enables_two}
use Rattle.group_verdicts.proofs.AtLemmas.{decided_at, ref_at, ref_on, there_on}
use Rattle.group_verdicts.proofs.CountsLemmas.{counts_on}
use Rattle.group_verdicts.proofs.CountedLemmas.{holds, two_fail}
use Rattle.group_verdicts.proofs.failing.two_enabled.Goals as goal

pub two_of-requires-clause-group : goal.two_of-requires-clause-group
two_of-requires-clause-group c = there_on c.args.encoder.now c.condition.new.self c.args.group c.in_ok-condition.ensures.keeps c.requires.group

pub two_of-requires-clause-counts : goal.two_of-requires-clause-counts
two_of-requires-clause-counts c = counts_on c.args.encoder.now c.condition.new.self c.args.counts.now c.in_ok-condition.ensures.keeps c.requires.counts

pub and-requires-clause-f_ref : goal.and-requires-clause-f_ref
and-requires-clause-f_ref c =
    let e = c.condition.new.self in
    ref_on e c.two_of.new.encoder c.in_ok-condition.condition c.in_ok-two.ensures.keeps
    (ref_at e c.args.group c.in_ok-condition.condition holds (there_on c.args.encoder.now e c.args.group c.in_ok-condition.ensures.keeps c.requires.group) c.in_ok-condition.ensures.answer)

pub and-requires-clause-g_ref : goal.and-requires-clause-g_ref
and-requires-clause-g_ref c =
    let first = c.args.encoder.now in
    let e = c.two_of.new.encoder in
    ref_at e c.args.group c.in_ok-two.two (has_more 1)
    (there_on first e c.args.group (keeps_on first c.condition.new.self e c.in_ok-condition.ensures.keeps c.in_ok-two.ensures.keeps) c.requires.group) c.in_ok-two.ensures.two

pub decided-requires : goal.decided-requires
decided-requires c =
    let first = c.args.encoder.now in
    let chosen = c.condition.new.self in
    let counted = c.two_of.new.encoder in
    let joined = c.and.new.self in
    ref_at joined c.args.group c.in_ok-failing.failing enables_two
    (there_on first joined c.args.group
    (keeps_on first counted joined (keeps_on first chosen counted c.in_ok-condition.ensures.keeps c.in_ok-two.ensures.keeps) c.in_ok-failing.ensures.keeps) c.requires.group)
    (two_fail chosen counted joined c.args.group c.in_ok-condition.condition c.in_ok-two.two c.in_ok-failing.failing
    c.in_ok-two.ensures.keeps c.in_ok-failing.ensures.keeps c.in_ok-condition.ensures.answer c.in_ok-two.ensures.two c.in_ok-failing.ensures.answer)

pub returns-clause-keeps : goal.returns-clause-keeps
returns-clause-keeps c =
    let first = c.args.encoder.now in
    let chosen = c.condition.new.self in
    let counted = c.two_of.new.encoder in
    let joined = c.and.new.self in
    keeps_on first joined c.decided.new.self
    (keeps_on first counted joined (keeps_on first chosen counted c.in_ok-condition.ensures.keeps c.in_ok-two.ensures.keeps) c.in_ok-failing.ensures.keeps) c.decided.ensures.keeps

pub returns-in_err-condition-clause-counts : goal.returns-in_err-condition-clause-counts
returns-in_err-condition-clause-counts c = counts_on c.args.encoder.now c.condition.new.self c.args.counts.now c.condition.ensures.keeps c.requires.counts

pub returns-in_err-failing-clause-counts : goal.returns-in_err-failing-clause-counts
returns-in_err-failing-clause-counts c = counts_on c.two_of.new.encoder c.and.new.self c.two_of.new.counts c.and.ensures.keeps c.two_of.ensures.counts

pub returns-clause-counts : goal.returns-clause-counts
returns-clause-counts c =
    let counted = c.two_of.new.encoder in
    let joined = c.and.new.self in
    counts_on counted c.decided.new.self c.two_of.new.counts (keeps_on counted joined c.decided.new.self c.in_ok-failing.ensures.keeps c.decided.ensures.keeps) c.in_ok-two.ensures.counts

pub returns-clause-answer : goal.returns-clause-answer
returns-clause-answer c =
    let joined = c.and.new.self in
    IfOk-weaker c.decided.result _ _
    (λ r made. decided_at joined c.decided.new.self c.args.group c.in_ok-failing.failing r enables_two c.decided.ensures.keeps made
    (two_fail c.condition.new.self c.two_of.new.encoder joined c.args.group c.in_ok-condition.condition c.in_ok-two.two c.in_ok-failing.failing
    c.in_ok-two.ensures.keeps c.in_ok-failing.ensures.keeps c.in_ok-condition.ensures.answer c.in_ok-two.ensures.two c.in_ok-failing.ensures.answer))
    c.decided.ensures.answer
