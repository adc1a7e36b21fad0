use Rattle.std.proofs.Common.{List, ℕ, refl, sym, subst}
use Rattle.pairing.specs.Kept.{IsKeptText}
use Rattle.pairing.specs.Steps as steps
use Rattle.pairing.proofs.SecondLemmas.{second_written}
use Rattle.pairing.proofs.StartLemmas.{start_is_kept, start_is_stopped, stopped_written}
use Rattle.pairing.proofs.pairing.pair.Goals as goal

pub come_to-requires : goal.come_to-requires
come_to-requires g c =
    let read = start_is_kept c.args.action _ _ c.in-Kept.checked c.in-Kept.text c.in-Kept.is c.start_in.ensures.starts in
    subst (λ (t : List ℕ). IsKeptText t c.in-Kept.checked) (sym c.as_slice.ensures.value) read.1

pub answer-requires : goal.answer-requires
answer-requires g c = second_written c.args.action c.in-Kept.checked _ c.come_to.result c.come_to.ensures.came

pub returns-in-Kept-clause-paired : goal.returns-in-Kept-clause-paired
returns-in-Kept-clause-paired g c =
    let read = start_is_kept c.args.action _ _ c.in-Kept.checked c.in-Kept.text c.in-Kept.is c.start_in.ensures.starts in
    steps.HasPaired.paired c.in-Kept.text.items c.in-Kept.checked _ read.0 read.1
    (record {
      told = c.start_in.ensures.contents c.args.other.now;
      refusals = c.start_in.ensures.count c.args.other.now;
      refusals_after = refl;
      reach = λ apart. c.start_in.ensures.others c.args.other.now (λ e. apart (sym e));
      reach_after = refl;
    }) (c.come_to.result, c.come_to.ensures.came, c.answer.ensures.answered)

pub answer-requires-in-Stopped : goal.answer-requires-in-Stopped
answer-requires-in-Stopped g c =
    stopped_written c.args.action _ _ (start_is_stopped c.args.action _ _ c.in-Stopped.came c.in-Stopped.is c.start_in.ensures.starts)

pub returns-in-Stopped-clause-paired : goal.returns-in-Stopped-clause-paired
returns-in-Stopped-clause-paired g c =
    steps.HasPaired.stopped
    (c.in-Stopped.came, start_is_stopped c.args.action _ _ c.in-Stopped.came c.in-Stopped.is c.start_in.ensures.starts, c.answer-in-Stopped.ensures.answered)
    (λ apart. c.start_in.ensures.others c.args.other.now (λ e. apart (sym e)))
