-- The lines of a finding.
use Rattle.std.specs.Prelude.{[], ◌++◌, if◌then◌else◌, ℤ, codes}
use Rattle.rsml_meaning.specs.Cells.{InputCell}
use Rattle.rsml_meaning.specs.Truth.{View}
use Rattle.rsml_meaning.specs.Groups.{Member, enabled}
use Rattle.rsml_meaning.specs.Texts.{Text, text_line, value_text, cell_text}
use Rattle.rsml_meaning.specs.Report.{member_label}

-- a state that is chosen
abbrev pub child_line : Text → Text
child_line child = text_line (codes "  in " ++ (child ++ codes " | T"))

-- a cell with the number that it holds
abbrev pub held_line : InputCell → ℤ → Text
held_line c n = text_line (codes "  " ++ (cell_text c ++ (codes " = " ++ (value_text c.numbers.names n ++ codes " | T"))))

-- a member that is enabled
abbrev pub member_line : Member → Text
member_line m = text_line (codes "  enabled " ++ member_label m)

-- nothing where it is not
abbrev pub line_if_enabled : View → Member → Text
line_if_enabled v m = if enabled v m then member_line m else []
