use Rattle.std.proofs.Common.{◌≡◌, ◌<◌, length, arith, ap}
use Rattle.rsml_meaning.specs.Words.{at}
use Rattle.text_writer.proofs.WritingLemmas.{followed, alike, one_more}
use Rattle.instance_texts.specs.Dotted.{dotted}
use Rattle.instance_texts.proofs.steps.put_further.Goals as goal

pub loop-step-preserved : goal.loop-step-preserved
loop-step-preserved g c =
    let same : at c.bytes.result.now c.step.inside.index ≡ c.step-item.result = cc in
    let within : c.loop-step.step-index < length c.args.steps.now = omega arith in
    one_more dotted c.args.steps.now c.loop-step.step-index c.step-item.result within c.step-item.is c.loop-step.invariant
    (alike (ap dotted same) (followed c.put.ensures c.put_instance.ensures))
