use Rattle.std.proofs.Common.{◌<◌, length, arith}
use Rattle.std.proofs.lemmas.List.{get_or_default}
use Rattle.spelled_numbers.specs.declared.slot.Slot.TheVariants.{Free}
use Rattle.world_levels.proofs.TableLemmas.{no_bits_yet, bits_until_more, all_bits}
use Rattle.world_levels.proofs.tables.bits.Goals as goal

pub loop-level-init : goal.loop-level-init
loop-level-init c = no_bits_yet c.args.parts c.args.slots.now c.in_ok-bits.bits.items c.in_ok-bits.ensures

pub loop-level-preserved : goal.loop-level-preserved
loop-level-preserved c =
    let less : c.loop-level.level < length c.args.slots.now = omega (arith, c.loop-level-test.true) in
    bits_until_more c.args.parts c.args.slots.now c.loop-level.level _ c.loop-level.bits.items c.add_bit.new.bits.items less
    (get_or_default c.args.slots.now c.loop-level.level _ Free less) c.loop-level.invariant c.in_ok-add_bit.ensures

pub returns : goal.returns
returns c = all_bits c.args.parts c.args.slots.now c.loop-level.level c.loop-level.bits.items c.loop-level-test.false c.loop-level.invariant
