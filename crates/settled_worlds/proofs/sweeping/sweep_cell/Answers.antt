use Rattle.std.proofs.Common.{◌≡◌, true, length, ap, arith, below_more}
use Rattle.std.proofs.lemmas.Result.{IfOk-weaker}
use Rattle.bdd_core.specs.Calls.{IsForgotten}
use Rattle.bdd_core.proofs.StepLemmas.{keeps_trans}
use Rattle.free_levels.specs.Stages.{is_left}
use Rattle.settled_worlds.specs.Settled.{cell_levels}
use Rattle.settled_worlds.specs.Steps.{all_but, no_levels, IsSwept, IsUnread}
use Rattle.settled_worlds.proofs.StepLemmas.{swept_trans, swept_forget, swept_wider, unread_more}
use Rattle.settled_worlds.proofs.sweeping.sweep_cell.Goals as goal

pub loop-place-preserved : goal.loop-place-preserved
loop-place-preserved c = record {
  keeps = keeps_trans c.args.arena.now c.loop-place.arena c.make_reader_exact.new.arena c.loop-place.invariant.keeps c.make_reader_exact.ensures.keeps;
  exact = c.make_reader_exact.ensures.exact;
  swept = swept_trans c.args.levels.now no_levels c.args.arena.now c.loop-place.arena c.make_reader_exact.new.arena
      c.args.left.now.items c.loop-place.left.items c.make_reader_exact.new.left.items c.args.f c.loop-place.out c.in_ok-out.out
      c.loop-place.invariant.swept c.in_ok-out.ensures.answer;
  done = below_more (λ i. is_left c.make_reader_exact.new.left.items i ≡ true → IsUnread c.args.levels.now c.args.cell i) c.loop-place.place
      (unread_more c.args.levels.now c.args.cell c.loop-place.place c.loop-place.left.items c.make_reader_exact.new.left.items
      c.in_ok-out.ensures.answer.fewer c.loop-place.invariant.done)
      c.in_ok-out.ensures.done;
}

pub returns-clause-answer : goal.returns-clause-answer
returns-clause-answer c = IfOk-weaker c.forget_cell.result
    (IsForgotten c.loop-place.arena c.forget_cell.new.arena c.loop-place.out (cell_levels c.args.levels.now c.args.cell))
    (IsSwept c.args.levels.now (all_but c.args.levels.now c.args.kept) c.args.arena.now c.forget_cell.new.arena c.args.left.now.items c.loop-place.left.items c.args.f)
    (λ r h. swept_forget c.args.levels.now c.args.kept c.args.arena.now c.loop-place.arena c.forget_cell.new.arena c.args.left.now.items c.loop-place.left.items
    c.args.cell c.args.f c.loop-place.out r c.keys-place-end.ensures.law c.requires.other c.loop-place.invariant.swept
    (λ i less. c.loop-place.invariant.done i (omega (arith, less, c.loop-place-test.false, c.loop-place.auto.place-end, ap length c.keys-place-end.ensures.keyed))) h)
    c.forget_cell.ensures.answer

pub returns-then-is_false-clause-answer : goal.returns-then-is_false-clause-answer
returns-then-is_false-clause-answer c =
    swept_wider c.args.levels.now (all_but c.args.levels.now c.args.kept) c.args.arena.now c.make_reader_exact.new.arena c.args.left.now.items c.make_reader_exact.new.left.items
    c.args.f c.in_ok-out.out
    (swept_trans c.args.levels.now no_levels c.args.arena.now c.loop-place.arena c.make_reader_exact.new.arena
    c.args.left.now.items c.loop-place.left.items c.make_reader_exact.new.left.items c.args.f c.loop-place.out c.in_ok-out.out
    c.loop-place.invariant.swept c.in_ok-out.ensures.answer)
