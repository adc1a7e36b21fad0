use Rattle.std.proofs.Common.{◌<◌, length, ap, arith}
use Rattle.keyed_levels.specs.Keyed.{no_key}
use Rattle.guard_encode.specs.Marking.{is_named}
use Rattle.guard_encode.proofs.MarkLemmas.{more_marked}
use Rattle.guard_encode.proofs.reading.mark_compared.Goals as goal

pub loop-place-preserved : goal.loop-place-preserved
loop-place-preserved c =
    let k = c.args.levels.now in
    let less : c.loop-place.place < length k.keyed = omega (arith, c.loop-place-test.true, ap length c.keys-place-end.ensures.keyed) in
    more_marked (λ cell x. is_named k c.args.used.now x cell) k.keyed c.loop-place.place no_key
    c.args.cells.now c.loop-place.cells c.mark_key.new.cells less c.loop-place.invariant c.mark_key.ensures
