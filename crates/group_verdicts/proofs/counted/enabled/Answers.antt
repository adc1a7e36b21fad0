use Rattle.std.proofs.Common.{sym, ◌∙◌}
use Rattle.group_verdicts.specs.Counts.{TellsMember}
use Rattle.group_verdicts.proofs.KeptLemmas.{is_there, kept_more, known_is}
use Rattle.group_verdicts.proofs.CountsLemmas.{counts_on, of_member}
use Rattle.group_verdicts.proofs.AtLemmas.{no_calls}
use Rattle.group_verdicts.proofs.counted.enabled.Goals as goal

pub returns-in-Some-clause-keeps : goal.returns-in-Some-clause-keeps
returns-in-Some-clause-keeps c = no_calls c.args.encoder.now

pub returns-in-Some-clause-is_ref : goal.returns-in-Some-clause-is_ref
returns-in-Some-clause-is_ref c =
    let e = c.args.encoder.now in
    (known_is TellsMember e c.args.counts.now.enabled c.args.member c.in-Some.enabled c.requires.counts.enabled_is (sym c.in-Some.is ∙ c.get.ensures) c.requires.member.0 c.requires.member.1).is_ref

pub returns-in-Some-clause-answer : goal.returns-in-Some-clause-answer
returns-in-Some-clause-answer c =
    known_is TellsMember c.args.encoder.now c.args.counts.now.enabled c.args.member c.in-Some.enabled c.requires.counts.enabled_is (sym c.in-Some.is ∙ c.get.ensures)

pub returns-in_err-enabled-clause-counts : goal.returns-in_err-enabled-clause-counts
returns-in_err-enabled-clause-counts c = counts_on c.args.encoder.now c.enabled.new.self c.args.counts.now c.enabled.ensures.keeps c.requires.counts

pub keep-requires : goal.keep-requires
keep-requires c = is_there TellsMember c.args.encoder.now c.args.counts.now.enabled c.args.member c.requires.counts.enabled_is c.requires.member

pub returns-clause-counts : goal.returns-clause-counts
returns-clause-counts c =
    let new = c.enabled.new.self in
    let on = counts_on c.args.encoder.now new c.args.counts.now c.in_ok-enabled.ensures.keeps c.requires.counts in
    record {
      enabled_is = kept_more TellsMember new c.args.counts.now.enabled c.keep.new.self c.args.member c.in_ok-enabled.enabled on.enabled_is
          (of_member new c.args.member c.in_ok-enabled.enabled c.in_ok-enabled.ensures.text) c.keep.ensures;
      some_is = on.some_is;
      two_is = on.two_is;
    }

pub returns-clause-is_ref : goal.returns-clause-is_ref
returns-clause-is_ref c = c.in_ok-enabled.ensures.answer.is_ref
