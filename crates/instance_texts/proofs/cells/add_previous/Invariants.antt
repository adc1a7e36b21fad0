use Rattle.std.proofs.Common.{◌≡◌, true, ◌++◌, map, filter, take}
use Rattle.instance_texts.specs.InputCells.{cell_at, is_named}
use Rattle.instance_texts.proofs.cells.add_previous.Given as goal

abbrev pub invariant-loop-input : goal.invariant-loop-input
invariant-loop-input l = l.cells.items ≡ l.initial.cells.items ++ map (cell_at l.globals true) (filter (is_named l.names) (take l.input-index l.inputs))
