use Rattle.std.proofs.Common.{◌≡◌, filter, take}
use Rattle.rsml_syntax.specs.text.Names.{is_in}
use Rattle.worlds.proofs.ends.of_names.Given as goal

abbrev pub invariant-loop-cell : goal.invariant-loop-cell
invariant-loop-cell l = l.kept.items ≡ filter (λ c. is_in c.name.now l.names) (take l.cell-index l.cells)
