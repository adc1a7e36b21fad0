use Rattle.std.proofs.Common.{not}
use Rattle.std.proofs.lemmas.Result.{IfOk-weaker}
use Rattle.guard_encode.proofs.StepLemmas.{keeps_on}
use Rattle.group_verdicts.specs.Counts.{has_more}
use Rattle.world_columns.specs.Failing.{enables_none}
use Rattle.group_verdicts.proofs.AtLemmas.{decided_at, not_at, ref_at, ref_on, there_on}
use Rattle.group_verdicts.proofs.CountsLemmas.{counts_on}
use Rattle.group_verdicts.proofs.CountedLemmas.{holds, none_fails}
use Rattle.group_verdicts.proofs.failing.none_enabled.Goals as goal

pub some_of-requires-clause-group : goal.some_of-requires-clause-group
some_of-requires-clause-group c = there_on c.args.encoder.now c.condition.new.self c.args.group c.in_ok-condition.ensures.keeps c.requires.group

pub some_of-requires-clause-counts : goal.some_of-requires-clause-counts
some_of-requires-clause-counts c = counts_on c.args.encoder.now c.condition.new.self c.args.counts.now c.in_ok-condition.ensures.keeps c.requires.counts

pub not-requires : goal.not-requires
not-requires c =
    let first = c.args.encoder.now in
    let e = c.some_of.new.encoder in
    ref_at e c.args.group c.in_ok-some.some (has_more 0)
    (there_on first e c.args.group (keeps_on first c.condition.new.self e c.in_ok-condition.ensures.keeps c.in_ok-some.ensures.keeps) c.requires.group) c.in_ok-some.ensures.some

pub and-requires-clause-f_ref : goal.and-requires-clause-f_ref
and-requires-clause-f_ref c =
    let e = c.condition.new.self in
    ref_on e c.not.new.self c.in_ok-condition.condition (keeps_on e c.some_of.new.encoder c.not.new.self c.in_ok-some.ensures.keeps c.in_ok-none.ensures.keeps)
    (ref_at e c.args.group c.in_ok-condition.condition holds (there_on c.args.encoder.now e c.args.group c.in_ok-condition.ensures.keeps c.requires.group) c.in_ok-condition.ensures.answer)

pub and-requires-clause-g_ref : goal.and-requires-clause-g_ref
and-requires-clause-g_ref c =
    let first = c.args.encoder.now in
    let e = c.some_of.new.encoder in
    ref_at c.not.new.self c.args.group c.in_ok-none.none (λ s g w. not (has_more 0 s g w))
    (there_on first c.not.new.self c.args.group
    (keeps_on first e c.not.new.self (keeps_on first c.condition.new.self e c.in_ok-condition.ensures.keeps c.in_ok-some.ensures.keeps) c.in_ok-none.ensures.keeps) c.requires.group)
    (not_at e c.not.new.self c.args.group c.in_ok-some.some c.in_ok-none.none (has_more 0) c.in_ok-none.ensures.keeps c.in_ok-none.ensures.answer c.in_ok-some.ensures.some)

pub decided-requires : goal.decided-requires
decided-requires c =
    let first = c.args.encoder.now in
    let chosen = c.condition.new.self in
    let counted = c.some_of.new.encoder in
    let turned = c.not.new.self in
    let joined = c.and.new.self in
    ref_at joined c.args.group c.in_ok-failing.failing enables_none
    (there_on first joined c.args.group (keeps_on first turned joined (keeps_on first counted turned
    (keeps_on first chosen counted c.in_ok-condition.ensures.keeps c.in_ok-some.ensures.keeps) c.in_ok-none.ensures.keeps) c.in_ok-failing.ensures.keeps) c.requires.group)
    (none_fails chosen counted turned joined c.args.group c.in_ok-condition.condition c.in_ok-some.some c.in_ok-none.none c.in_ok-failing.failing
    c.in_ok-some.ensures.keeps c.in_ok-none.ensures.keeps c.in_ok-failing.ensures.keeps c.in_ok-condition.ensures.answer c.in_ok-some.ensures.some
    c.in_ok-none.ensures.answer c.in_ok-failing.ensures.answer)

pub returns-clause-keeps : goal.returns-clause-keeps
returns-clause-keeps c =
    let first = c.args.encoder.now in
    let chosen = c.condition.new.self in
    let counted = c.some_of.new.encoder in
    let turned = c.not.new.self in
    let joined = c.and.new.self in
    keeps_on first joined c.decided.new.self (keeps_on first turned joined (keeps_on first counted turned
    (keeps_on first chosen counted c.in_ok-condition.ensures.keeps c.in_ok-some.ensures.keeps) c.in_ok-none.ensures.keeps) c.in_ok-failing.ensures.keeps) c.decided.ensures.keeps

pub returns-in_err-condition-clause-counts : goal.returns-in_err-condition-clause-counts
returns-in_err-condition-clause-counts c = counts_on c.args.encoder.now c.condition.new.self c.args.counts.now c.condition.ensures.keeps c.requires.counts

pub returns-in_err-none-clause-counts : goal.returns-in_err-none-clause-counts
returns-in_err-none-clause-counts c = counts_on c.some_of.new.encoder c.not.new.self c.some_of.new.counts c.not.ensures.keeps c.some_of.ensures.counts

pub returns-in_err-failing-clause-counts : goal.returns-in_err-failing-clause-counts
returns-in_err-failing-clause-counts c =
    let counted = c.some_of.new.encoder in
    counts_on counted c.and.new.self c.some_of.new.counts (keeps_on counted c.not.new.self c.and.new.self c.in_ok-none.ensures.keeps c.and.ensures.keeps) c.some_of.ensures.counts

pub returns-clause-counts : goal.returns-clause-counts
returns-clause-counts c =
    let counted = c.some_of.new.encoder in
    let turned = c.not.new.self in
    let joined = c.and.new.self in
    counts_on counted c.decided.new.self c.some_of.new.counts
    (keeps_on counted joined c.decided.new.self (keeps_on counted turned joined c.in_ok-none.ensures.keeps c.in_ok-failing.ensures.keeps) c.decided.ensures.keeps) c.in_ok-some.ensures.counts

pub returns-clause-answer : goal.returns-clause-answer
returns-clause-answer c =
    let joined = c.and.new.self in
    IfOk-weaker c.decided.result _ _
    (λ r made. decided_at joined c.decided.new.self c.args.group c.in_ok-failing.failing r enables_none c.decided.ensures.keeps made
    (none_fails c.condition.new.self c.some_of.new.encoder c.not.new.self joined c.args.group c.in_ok-condition.condition c.in_ok-some.some c.in_ok-none.none c.in_ok-failing.failing
    c.in_ok-some.ensures.keeps c.in_ok-none.ensures.keeps c.in_ok-failing.ensures.keeps c.in_ok-condition.ensures.answer c.in_ok-some.ensures.some
    c.in_ok-none.ensures.answer c.in_ok-failing.ensures.answer))
    c.decided.ensures.answer
