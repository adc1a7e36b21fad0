use Rattle.std.proofs.Common.{◌+◌, ◌<◌, ◌≤◌, ap, ◌∙◌, subst, length, arith, List, Bool, take}
use Rattle.rsml_meaning.specs.Cells.{cells}
use Rattle.rsml_ground.specs.Grounded.{IsGrounded}
use Rattle.macros.proofs.Means.{truths_mean}
use Rattle.macros.proofs.Learning.{length_set}
use Rattle.macros.proofs.Below.{rests_wider}
use Rattle.macros.proofs.Filling.{filled_more, filled}
use Rattle.macros.proofs.macros.Macros.fill.Goals as goal

pub number_truth-truth-requires-clause-rests : goal.number_truth-truth-requires-clause-rests
number_truth-truth-requires-clause-rests c =
    let exists : c.loop-number.number < length c.args.self.now.phrases = omega (arith, c.loop-number-test.true, c.phrases-number-end.ensures) in
    let less : c.loop-number.number ≤ length c.loop-number.truths = omega (arith, exists, c.loop-number.invariant.many) in
    rests_wider c.args.self.now.definitions (length (cells c.args.self.now.spec)) c.loop-number.number (length c.loop-number.truths) less c.phrase.result.now c.phrase.ensures.rests

pub loop-number-preserved : goal.loop-number-preserved
loop-number-preserved c =
    let exists : c.loop-number.number < length c.args.self.now.phrases = omega (arith, c.loop-number-test.true, c.phrases-number-end.ensures) in
    let within : c.loop-number.number < length c.loop-number.truths = omega (arith, exists, c.loop-number.invariant.many) in
    record {
      many = ap (λ (ts : List Bool). length ts) c.set.ensures ∙ length_set c.loop-number.truths c.loop-number.number c.number_truth-truth.result ∙ c.loop-number.invariant.many;
      filled = ap (λ (ts : List Bool). take (c.loop-number.number + 1) ts) c.set.ensures
          ∙ filled_more c.args.self.now c.args.world.now c.loop-number.truths c.loop-number.number c.phrase.result.now c.number_truth-truth.result
          (subst IsGrounded c.self.view_is c.self.invariant.grounded) within c.phrase.ensures.is c.number_truth-truth.ensures c.loop-number.invariant.filled;
    }

pub returns-clause-truths : goal.returns-clause-truths
returns-clause-truths c =
    filled c.args.self.now c.args.world.now c.loop-number.truths c.loop-number.number c.loop-number.invariant.many
    (omega (arith, c.loop-number-test.false, c.phrases-number-end.ensures)) c.loop-number.invariant.filled

pub returns-clause-means : goal.returns-clause-means
returns-clause-means c =
    truths_mean c.args.self.now c.args.world.now c.loop-number.truths (subst IsGrounded c.self.view_is c.self.invariant.grounded) (returns-clause-truths c)
