-- The text of what is told of the groups of a specification by columns.
use Rattle.std.specs.Prelude.{ℕ, Bool, true, false, List, [], ◌++◌, length, Option, Some, None, if◌then◌else◌, ◌==◌, ℤ, flat_map, filter, zip, codes, decimal}
use Rattle.std.specs.Ordering.{int_eq}
use Rattle.rsml_syntax.specs.declared.syntax.Spec.{Spec}
use Rattle.rsml_meaning.specs.Words.{numbered}
use Rattle.rsml_meaning.specs.Instances.{Component, components}
use Rattle.rsml_meaning.specs.Cells.{InputCell, cells}
use Rattle.rsml_meaning.specs.Active.{chosen}
use Rattle.rsml_meaning.specs.Groups.{Group, groups}
use Rattle.rsml_meaning.specs.Texts.{Text, text_line, path_text, value_text, cell_text}
use Rattle.rsml_meaning.specs.Report.{group_text}
use Rattle.world_columns.specs.declared.column.Column.{Column}
use Rattle.world_columns.specs.declared.column.Gaps.{Gaps}
use Rattle.world_columns.specs.declared.column.Span.{Span}
use Rattle.world_columns.specs.declared.group.GroupGaps.{GroupGaps}
use Rattle.world_columns.specs.declared.group.GroupGaps.TheVariants as told

-- a child that is asked for
abbrev pub child_row : Text → Text
child_row child = text_line (codes "    in " ++ (child ++ codes " | T"))

-- nothing where the component may have any child, or has no other
abbrev pub choice_row : Component × Option ℕ → Text
choice_row c = elim c.1 [
  | None ↦ []
  | Some place ↦ if length c.0.children == 1 then [] else child_row (path_text (chosen (c.0, place)))
]

-- a cell, a relation and a number
abbrev pub cell_row : InputCell → Text → ℤ → Text
cell_row c relation n = text_line (codes "    " ++ (cell_text c ++ (relation ++ (value_text c.numbers.names n ++ codes " | T"))))

-- an end of a span; nothing where it is that of the type
abbrev pub end_row : InputCell → Text → ℤ → ℤ → Text
end_row c relation n end = if int_eq n end then [] else cell_row c relation n

-- one number; nothing where the type has no other
abbrev pub one_row : InputCell → ℤ → ℤ → ℤ → Text
one_row c n low high = if int_eq n low then end_row c (codes " = ") n high else cell_row c (codes " = ") n

-- the ends of the span of a cell
abbrev pub end_rows : InputCell → Span → Text
end_rows c x = end_row c (codes " >= ") x.low c.numbers.low ++ end_row c (codes " <= ") x.high c.numbers.high

-- the span of a cell: its number, or its ends; nothing where it is all of the type
abbrev pub span_rows : InputCell × Span → Text
span_rows c = if int_eq c.1.low c.1.high then one_row c.0 c.1.low c.0.numbers.low c.0.numbers.high else end_rows c.0 c.1

-- `column J`
abbrev pub column_head : ℕ → Text
column_head n = text_line (codes "  column " ++ decimal n)

-- a column and its number: the children of components, and then the numbers of cells
abbrev pub column_text : Spec → ℕ × Column → Text
column_text s c =
    column_head c.0
    ++ (flat_map choice_row (zip (components s) c.1.children)
    ++ flat_map span_rows (zip (cells s) c.1.spans))

-- where a world is in no column
abbrev pub more_line : Bool → Text
more_line more = if more then codes "  more\n" else []

-- the columns of a set of worlds, and whether a world of it is in none
abbrev pub gap_lines : Spec → Gaps → Text
gap_lines s x = flat_map (column_text s) (numbered x.columns) ++ more_line x.more

-- what is told of a group; nothing where it is sound
abbrev pub group_gaps_text : Spec → Group × GroupGaps → Text
group_gaps_text s x = elim x.1 [
  | told.Sound ↦ []
  | told.Missing y ↦ text_line (codes "none " ++ group_text x.0) ++ gap_lines s y
  | told.Double y ↦ text_line (codes "two " ++ group_text x.0) ++ gap_lines s y
]

-- the group is not sound
abbrev pub is_unsound : GroupGaps → Bool
is_unsound told.Sound = false
is_unsound (told.Missing x) = true
is_unsound (told.Double x) = true

-- how many groups are not sound
abbrev pub unsound : List GroupGaps → ℕ
unsound gs = length (filter is_unsound gs)

-- the whole text
abbrev pub gaps_text : Spec → List GroupGaps → Text
gaps_text s gs =
    text_line (codes "specification " ++ s.name)
    ++ (flat_map (group_gaps_text s) (zip (groups s) gs)
    ++ text_line (codes "gaps " ++ decimal (unsound gs)))
