use Rattle.std.proofs.Common.{◌≡◌, false, below_more}
use Rattle.bdd_core.proofs.StepLemmas.{keeps_trans}
use Rattle.free_levels.specs.Stages.{is_left}
use Rattle.settled_worlds.specs.Steps.{no_levels}
use Rattle.settled_worlds.proofs.StepLemmas.{swept_trans}
use Rattle.settled_worlds.proofs.keys.make_rest_exact.Goals as goal

pub loop-place-preserved : goal.loop-place-preserved
loop-place-preserved c = record {
  keeps = keeps_trans c.args.arena.now c.loop-place.arena c.make_key_exact.new.arena c.loop-place.invariant.keeps c.make_key_exact.ensures.keeps;
  exact = c.make_key_exact.ensures.exact;
  swept = swept_trans c.args.levels.now no_levels c.args.arena.now c.loop-place.arena c.make_key_exact.new.arena
      c.args.left.now.items c.loop-place.left.items c.make_key_exact.new.left.items c.args.f c.loop-place.out c.in_ok-out.out
      c.loop-place.invariant.swept c.in_ok-out.ensures.answer;
  done = below_more (λ i. is_left c.make_key_exact.new.left.items i ≡ false) c.loop-place.place
      (λ i less. c.in_ok-out.ensures.answer.fewer.stays i (c.loop-place.invariant.done i less)) c.in_ok-out.ensures.done;
}
