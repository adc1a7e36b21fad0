use Rattle.bdd_core.proofs.StepLemmas.{keeps_trans}
use Rattle.settled_worlds.proofs.SameLemmas.{same_both}
use Rattle.settled_worlds.proofs.within.with_exact.Goals as goal

pub loop-place-preserved : goal.loop-place-preserved
loop-place-preserved c =
    let before = c.loop-place.invariant in
    record {
      keeps = keeps_trans c.args.arena.now c.loop-place.arena c.with_one_exact.new.arena before.keeps c.with_one_exact.ensures.keeps;
      exact = c.with_one_exact.ensures.exact;
      same = same_both c.args.arena.now c.loop-place.arena c.with_one_exact.new.arena c.args.levels.now c.args.f c.loop-place.out c.in_ok-out.out before.same c.in_ok-out.ensures.answer;
    }
