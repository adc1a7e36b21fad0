use Rattle.guard_encode.proofs.MarkLemmas.{one_part}
use Rattle.guard_encode.proofs.reading.of_parts.Goals as goal

pub loop-place-preserved : goal.loop-place-preserved
loop-place-preserved c =
    one_part c.args.used.now c.args.layout.now.slots c.args.first c.loop-place.place c.is_spelled.result c.bits.result.now c.loop-place.marks c.push.new.self
    c.in_ok-push.ensures.ok c.is_spelled.ensures c.bits.ensures c.loop-place.invariant
