use Rattle.guard_encode.specs.Marking.{is_cell_at}
use Rattle.guard_encode.proofs.MarkLemmas.{more_marked}
use Rattle.guard_encode.proofs.reading.mark_terms.Goals as goal

pub loop-term-preserved : goal.loop-term-preserved
loop-term-preserved c =
    more_marked is_cell_at c.args.terms.now c.loop-term.term-index _ c.args.cells.now c.loop-term.cells c.mark_operand.new.cells
    c.loop-term-test.true c.loop-term.invariant c.mark_operand.ensures
