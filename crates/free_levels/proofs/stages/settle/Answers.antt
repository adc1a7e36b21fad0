use Rattle.std.proofs.Common.{◌≡◌, true, false, length, replicate, ◌∙◌, arith, below_more}
use Rattle.std.proofs.lemmas.List.{get_or-replicate}
use Rattle.bdd_core.specs.Diagram.{meaning}
use Rattle.bdd_core.proofs.StepLemmas.{keeps_trans}
use Rattle.free_levels.specs.Keys.{levels_of}
use Rattle.free_levels.specs.Stages.{is_left}
use Rattle.free_levels.proofs.StageLemmas.{stage-settles, stage-stops}
use Rattle.free_levels.proofs.TurnLemmas.{cell-turn, last-turn}
use Rattle.free_levels.proofs.stages.settle.Goals as goal

pub loop-cell-preserved : goal.loop-cell-preserved
loop-cell-preserved c = record {
  keeps = keeps_trans c.args.arena.now c.loop-cell.arena c.sweep.new.arena c.loop-cell.invariant.keeps c.sweep.ensures.keeps;
  is_ref = c.in_ok-out.ensures.is_ref;
  len = c.sweep.ensures.left.same_length ∙ c.loop-cell.invariant.len;
  stage = cell-turn c.args.arena.now c.loop-cell.arena c.sweep.new.arena c.args.keys.now c.args.cells.now c.loop-cell.cell-index c.cell-item.result
      (replicate (length c.args.keys.now) true) c.loop-cell.left.items c.sweep.new.left.items c.args.f c.loop-cell.out c.in_ok-out.out
      c.loop-cell.invariant.keeps (omega (arith, c.loop-cell-test.true)) c.cell-item.is c.loop-cell.invariant.stage c.in_ok-out.ensures.stage;
}

pub returns-then-is_false-clause-answer : goal.returns-then-is_false-clause-answer
returns-then-is_false-clause-answer c = λ all are ex cs.
    stage-stops all (levels_of c.args.cells.now) (replicate (length c.args.keys.now) true) c.sweep.new.left.items (meaning c.args.arena.now c.args.f) (meaning c.sweep.new.arena c.in_ok-out.out)
    (λ i less. get_or-replicate (length c.args.keys.now) i true _ (omega (arith, less, ex.count)))
    (c.is_false.ensures.0 c.if-is_false.true)
    (cell-turn c.args.arena.now c.loop-cell.arena c.sweep.new.arena c.args.keys.now c.args.cells.now c.loop-cell.cell-index c.cell-item.result
    (replicate (length c.args.keys.now) true) c.loop-cell.left.items c.sweep.new.left.items c.args.f c.loop-cell.out c.in_ok-out.out
    c.loop-cell.invariant.keeps (omega (arith, c.loop-cell-test.true)) c.cell-item.is c.loop-cell.invariant.stage c.in_ok-out.ensures.stage all are ex cs)

pub loop-place-preserved : goal.loop-place-preserved
loop-place-preserved c = record {
  keeps = keeps_trans c.args.arena.now c.loop-place.arena c.make_key_exact.new.arena c.loop-place.invariant.keeps c.make_key_exact.ensures.keeps;
  is_ref = c.in_ok-out-2.ensures.is_ref;
  len = c.make_key_exact.ensures.left.same_length ∙ c.loop-place.invariant.len;
  stage = last-turn c.args.arena.now c.loop-place.arena c.make_key_exact.new.arena c.args.keys.now c.args.cells.now
      (replicate (length c.args.keys.now) true) c.loop-place.left.items c.make_key_exact.new.left.items c.args.f c.loop-place.out c.in_ok-out-2.out
      c.loop-place.invariant.keeps c.loop-place.invariant.stage c.in_ok-out-2.ensures.stage;
  done = below_more (λ k. is_left c.make_key_exact.new.left.items k ≡ false) c.loop-place.place
      (λ k h. c.make_key_exact.ensures.left.stays k (c.loop-place.invariant.done k h)) c.make_key_exact.ensures.done;
}

pub returns-clause-answer : goal.returns-clause-answer
returns-clause-answer c = λ all are ex cs.
    stage-settles all (levels_of c.args.cells.now) (replicate (length c.args.keys.now) true) c.loop-place.left.items (meaning c.args.arena.now c.args.f) (meaning c.loop-place.arena c.loop-place.out)
    (λ i less. get_or-replicate (length c.args.keys.now) i true _ (omega (arith, less, ex.count)))
    (λ i less. c.loop-place.invariant.done i (omega (arith, less, ex.count, c.loop-place-test.false)))
    (c.loop-place.invariant.stage all are ex cs)
