-- How a difference of two specifications is written.
use Rattle.std.specs.Prelude.{[], ◌++◌, Bool, if◌then◌else◌, codes}
use Rattle.rsml_syntax.specs.declared.syntax.Spec.{Spec}
use Rattle.rsml_meaning.specs.Groups.{Member, transition, send_case, case}
use Rattle.rsml_meaning.specs.Report.{member_label, world_text}
use Rattle.rsml_meaning.specs.Texts.{Text, text_line, instance_text}
use Rattle.equal_frames.specs.Differences.{Difference}

-- `send NAME ` or `function NAME ` of a case, nothing of a transition
abbrev pub owner_text : Member → Text
owner_text (transition t) = []
owner_text (send_case c) = codes "send " ++ (instance_text c.send ++ codes " ")
owner_text (case f c) = codes "function " ++ (instance_text f ++ codes " ")

-- `differ LABEL`, with the owner of a case before its label
abbrev pub differ_line : Member → Text
differ_line m = text_line (codes "differ " ++ (owner_text m ++ member_label m))

-- in which of the two the member is enabled
abbrev pub side_text : Bool → Text
side_text first = if first then codes "  enabled first" else codes "  enabled second"

-- the same, as a line
abbrev pub side_line : Bool → Text
side_line first = text_line (side_text first)

-- the member that differs, the rows of the world in which it does, as in a finding, and in which of the two it is enabled there
abbrev pub difference_text : Spec → Difference → Text
difference_text s d = differ_line d.member ++ (world_text s d.world ++ side_line d.first)
