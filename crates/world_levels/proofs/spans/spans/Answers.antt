use Rattle.world_levels.proofs.Laid.{no_spans, one_span}
use Rattle.world_levels.proofs.spans.spans.Goals as goal

pub loop-part-init : goal.loop-part-init
loop-part-init c = no_spans c.args.worlds.now c.new-spans.result.items c.new-spans.ensures.items

pub loop-part-preserved : goal.loop-part-preserved
loop-part-preserved c =
    one_span c.args.worlds.now c.loop-part.part c.in_ok-span.field-0 c.loop-part.spans.items c.push.new.self.items c.in_ok-push.ensures.items c.in_ok-span.ensures c.loop-part.invariant
