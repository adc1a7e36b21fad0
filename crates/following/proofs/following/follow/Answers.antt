use Rattle.std.proofs.Common.{refl, sym}
use Rattle.judging.proofs.ShortLemmas.{short_text}
use Rattle.following.specs.Steps as steps
use Rattle.following.proofs.StartLemmas.{start_is_certified, start_is_stopped, may_be_written}
use Rattle.following.proofs.following.follow.Goals as goal

pub follow_certified-requires-clause-certified : goal.follow_certified-requires-clause-certified
follow_certified-requires-clause-certified g c = (start_is_certified c.args.action _ _ c.in-Certified.checked c.in-Certified.text c.in-Certified.is c.start_in.ensures.starts).2.certified

pub follow_certified-requires-clause-short : goal.follow_certified-requires-clause-short
follow_certified-requires-clause-short g c =
    let read = start_is_certified c.args.action _ _ c.in-Certified.checked c.in-Certified.text c.in-Certified.is c.start_in.ensures.starts in
    short_text read.0 c.in-Certified.checked read.2.reads

pub returns-in-Certified-clause-followed : goal.returns-in-Certified-clause-followed
returns-in-Certified-clause-followed g c =
    let read = start_is_certified c.args.action _ _ c.in-Certified.checked c.in-Certified.text c.in-Certified.is c.start_in.ensures.starts in
    steps.HasFollowed.followed read.0 c.in-Certified.checked _ read.1 read.2
    (record {
      told = c.start_in.ensures.contents c.args.events.now;
      refusals = c.start_in.ensures.count c.args.events.now;
      refusals_after = refl;
      reach = λ apart. c.start_in.ensures.others c.args.events.now (λ e. apart (sym e));
      reach_after = refl;
    }) c.follow_certified.ensures.run

pub answer-requires : goal.answer-requires
answer-requires g c = may_be_written c.args.action _ _ (start_is_stopped c.args.action _ _ c.in-Stopped.came c.in-Stopped.is c.start_in.ensures.starts)

pub returns-in-Stopped-clause-followed : goal.returns-in-Stopped-clause-followed
returns-in-Stopped-clause-followed g c =
    steps.HasFollowed.stopped
    (c.in-Stopped.came, start_is_stopped c.args.action _ _ c.in-Stopped.came c.in-Stopped.is c.start_in.ensures.starts, c.answer.ensures.answered)
    (λ apart. c.start_in.ensures.others c.args.events.now (λ e. apart (sym e)))
