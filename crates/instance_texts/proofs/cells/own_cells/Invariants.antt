use Rattle.std.proofs.Common.{◌≡◌, false, map, take}
use Rattle.instance_texts.specs.InputCells.{cell_at}
use Rattle.instance_texts.proofs.cells.own_cells.Given as goal

abbrev pub invariant-loop-input : goal.invariant-loop-input
invariant-loop-input l = l.cells.items ≡ map (cell_at l.globals false) (take l.input-index l.inputs)
