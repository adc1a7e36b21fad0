use Rattle.std.proofs.Common.{◌<◌, ◌∙◌, sym, arith, length}
use Rattle.bdd_core.proofs.KeptLemmas.{gains-again}
use Rattle.bdd_core.proofs.computed.Computed.spread.Goals as goal

pub loop-slot-preserved : goal.loop-slot-preserved
loop-slot-preserved c =
    let within : c.loop-slot.slot < length c.loop-slot.self.slots.items = omega (arith, c.loop-slot.invariant.1, c.min-slot-end.ensures, c.len-room.ensures, c.loop-slot-test.true) in (
      gains-again c.args.self.now.slots.items c.loop-slot.self.slots.items c.keep.new.self.slots.items c.index-kept.result.now
          c.loop-slot.invariant.0 c.keep.ensures.gains (c.loop-slot.slot, within, sym c.index-kept.ensures),
      c.keep.ensures.len ∙ c.loop-slot.invariant.1,
    )
