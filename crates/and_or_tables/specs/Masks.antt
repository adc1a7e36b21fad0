-- What a mask table is: the cells that its words spell.
use Rattle.std.specs.Prelude.{◌≡◌, ◌<◌, List, length, map}
use Rattle.rsml_syntax.specs.declared.syntax.Cell.{Cell}
use Rattle.rsml_syntax.specs.rules.Tables.{below}
use Rattle.and_or_tables.specs.Cells.{care_word, want_word, spelled}
use Rattle.and_or_tables.specs.declared.masks.MaskTable.TheInside.{Inside}

-- what a mask table spells
abbrev pub spelled_by : Inside → List (List Cell)
spelled_by m = spelled m.rows m.care.items m.want.items

-- its words are those of the cells that they spell
pub record IsMasked (m : Inside) : Type 0 where
  pub some_row : 0 < m.rows
  pub care : m.care.items ≡ map (care_word (spelled_by m)) (below (length m.care.items))
  pub want : m.want.items ≡ map (want_word (spelled_by m)) (below (length m.care.items))
