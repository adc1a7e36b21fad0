use Rattle.interfaces.proofs.KeptLemmas.{there_at, kept_next}
use Rattle.interfaces.proofs.table.Table.add_array.Goals as goal

pub add-requires : goal.add-requires
add-requires c = there_at c.args.names.now c.args.globals.now c.args.inputs.now c.args.raised.now _ _ _ c.requires.there c.many-before-end.ensures c.loop-before-test.true

pub loop-before-preserved : goal.loop-before-preserved
loop-before-preserved c = λ xs name h. kept_next c.args.names.now c.args.globals.now name c.args.inputs.now c.args.raised.now _ _ xs c.loop-before.before (c.in_ok-add.ensures _ name (c.loop-before.invariant xs name h))
