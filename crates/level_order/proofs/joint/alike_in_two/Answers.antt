use Rattle.std.proofs.Common.{length}
use Rattle.rsml_meaning.specs.Cells.{cells}
use Rattle.level_order.proofs.joint.alike_in_two.Goals as goal

pub loop-number-preserved : goal.loop-number-preserved
loop-number-preserved c =
    c.in_ok-first.ensures c.args.two.now.definitions (length (cells c.args.two.now.spec)) c.loop-number.number c.phrase-phrase.ensures.rests c.loop-number.invariant
