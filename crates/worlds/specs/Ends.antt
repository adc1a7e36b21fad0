-- The least and the greatest number that cells may hold, and the first that they hold.
use Rattle.std.specs.Prelude.{Bool, ◌&&◌, List, ℤ, int_le, map}
use Rattle.rsml_syntax.specs.declared.syntax.Decl.{Decl}
use Rattle.rsml_syntax.specs.text.Names.{Name}
use Rattle.rsml_syntax.specs.rules.Globals.{Globals}
use Rattle.rsml_meaning.specs.Cells.{InputType, InputCell, cells_of}
use Rattle.worlds.specs.declared.cell_ends.CellEnds.{CellEnds}

-- the name of an input, the ends of its type, and its initial number
abbrev pub Ends : Type 0
Ends = Name × (ℤ × ℤ) × ℤ

-- those of a name, a type and an initial number
abbrev pub named_ends : Name → InputType → ℤ → Ends
named_ends name t initial = (name, (t.low, t.high), initial)

-- those of a cell
abbrev pub ends_of : InputCell → Ends
ends_of c = named_ends c.input.name c.numbers c.initial

-- those of the cells that a declaration makes
abbrev pub declared_ends : Globals → Decl → List Ends
declared_ends g d = map ends_of (cells_of g d)

-- those that are kept of a cell
abbrev pub written : CellEnds → Ends
written c = (c.name.now, (c.low, c.high), c.initial)

-- the number is none beyond the ends
abbrev pub is_between : Ends → ℤ → Bool
is_between e n = int_le e.1.0 n && int_le n e.1.1
