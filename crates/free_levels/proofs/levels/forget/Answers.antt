use Rattle.std.proofs.Common.{arith}
use Rattle.bdd_core.specs.Diagram.{meaning}
use Rattle.bdd_core.proofs.StepLemmas.{keeps_trans}
use Rattle.free_levels.proofs.ForgetLemmas.{iff-trans, forget-step, forget-end}
use Rattle.free_levels.proofs.levels.forget.Goals as goal

pub loop-level-preserved : goal.loop-level-preserved
loop-level-preserved c = record {
  keeps = keeps_trans c.args.arena.now c.loop-level.arena c.forget_one.new.arena c.loop-level.invariant.keeps c.forget_one.ensures.keeps;
  is_ref = c.in_ok-out.ensures.answer.is_ref;
  same = λ v. iff-trans
      (forget-step (meaning c.loop-level.arena c.loop-level.out) (meaning c.forget_one.new.arena c.in_ok-out.out) c.args.levels.now c.loop-level.level-index (omega (arith, c.loop-level-test.true)) c.in_ok-out.ensures.answer.means v)
      (c.loop-level.invariant.same v);
}

pub returns-clause-answer : goal.returns-clause-answer
returns-clause-answer c =
    forget-end c.args.arena.now c.loop-level.arena c.args.f c.loop-level.out c.args.levels.now c.loop-level.level-index c.loop-level.invariant.is_ref (omega (arith, c.loop-level-test.false)) c.loop-level.invariant.same
