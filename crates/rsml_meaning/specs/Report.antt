-- The report on a specification.
use Rattle.std.specs.Prelude.{◌≡◌, ℕ, ◌+◌, Bool, true, false, List, [], ◌∷◌, ◌++◌, length, Option, Some, None, if◌then◌else◌, ℤ, IsTrue, ◌↔◌, ◌==◌, is_some, flat_map, filter, zip, unwrap_or, codes, decimal}
use Rattle.std.specs.List.{AllZip, items_where_true}
use Rattle.std.specs.Ordering.{nat_cmp, int_eq}
use Rattle.std.specs.Cmp.Lexicographic.{slice_cmp}
use Rattle.std.specs.declared.cmp.Ordering.TheVariants.{Less}
use Rattle.rsml_syntax.specs.declared.syntax.Spec.{Spec}
use Rattle.rsml_syntax.specs.declared.world.World.{World}
use Rattle.rsml_meaning.specs.Words.{Instance, has, place_in, ordinal_of}
use Rattle.rsml_meaning.specs.Instances.{Component, components, events}
use Rattle.rsml_meaning.specs.Cells.{InputCell, cells}
use Rattle.rsml_meaning.specs.Active.{chosen}
use Rattle.rsml_meaning.specs.Truth.{view}
use Rattle.rsml_meaning.specs.Groups.{Group, state, send, function, groups, Member, transition, send_case, case, members, enabled}
use Rattle.rsml_meaning.specs.Chains.{is_external, IsLength, HasLength, Endless, Loops, Clash}
use Rattle.rsml_meaning.specs.Findings.{Verdict, sound, none, two, IsVerdict}
use Rattle.rsml_meaning.specs.Texts.{Text, text_line, instance_text, path_text, value_text, label, case_label, cell_text}

-- A clash of one external event: the round, and two events that clash in it.
pub record ClashFound : Type 0 where
  pub round : ℕ
  pub one : Instance
  pub two : Instance

-- What a report tells: for each external event its length, if it has one, and its first clash, if it has one; for each event
-- whether it loops; and for each group its verdict.
pub record Answers : Type 0 where
  pub lengths : List (Option ℕ)
  pub clashes : List (Option ClashFound)
  pub loops : List Bool
  pub verdicts : List Verdict

-- the external events
abbrev pub externals : Spec → List Instance
externals s = filter (is_external s) (events s)

-- When the answers are right.

-- the length of the longest chain from the event; none where some chain from it has an event twice
abbrev pub IsLengthAnswer : Spec → Instance → Option ℕ → Type 0
IsLengthAnswer s x None = Endless s x
IsLengthAnswer s x (Some n) = IsLength s x n

-- a clash of declared events
pub record IsClash (s : Spec) (x : Instance) (c : ClashFound) : Type 0 where
  pub declared_one : IsTrue (has (events s) c.one)
  pub declared_two : IsTrue (has (events s) c.two)
  pub clash : Clash s x c.round c.one c.two

-- the place of an event among the events
abbrev pub event_place : Spec → Instance → ℕ
event_place s e = unwrap_or (place_in (events s) e) 0

-- what clashes are ordered by: the round, then the first event, then the second
abbrev pub rank : Spec → ClashFound → List ℕ
rank s c = c.round ∷ event_place s c.one ∷ event_place s c.two ∷ []

-- the first clash goes before the second
abbrev pub IsBeforeClash : Spec → ClashFound → ClashFound → Type 0
IsBeforeClash s c d = slice_cmp nat_cmp (rank s c) (rank s d) ≡ Less

-- The clash of the least round, then of the least first, then of the least second event: it is one, and none before it is.
pub record IsFirstClash (s : Spec) (x : Instance) (c : ClashFound) : Type 0 where
  pub clash : IsClash s x c
  pub first : (d : ClashFound) → IsClash s x d → IsBeforeClash s d c → ⊥

-- an event that has a length shows its first clash
abbrev pub IsClashAnswer : Spec → Instance → Option ClashFound → Type 0
IsClashAnswer s x None = HasLength s x → (c : ClashFound) → IsClash s x c → ⊥
IsClashAnswer s x (Some c) = HasLength s x × IsFirstClash s x c

-- The answers are right for each external event, each event and each group, in order.
pub record AreRight (s : Spec) (a : Answers) : Type 0 where
  pub lengths : AllZip (IsLengthAnswer s) (externals s) a.lengths
  pub clashes : AllZip (IsClashAnswer s) (externals s) a.clashes
  pub loops : AllZip (λ e looping. IsTrue looping ↔ Loops s e) (events s) a.loops
  pub verdicts : AllZip (IsVerdict s) (groups s) a.verdicts

-- The text.

-- the length of an event, or `endless`
abbrev pub length_text : Option ℕ → Text
length_text None = codes "endless"
length_text (Some n) = decimal n

-- `chain EVENT L`
abbrev pub chain_line : Instance × Option ℕ → Text
chain_line c = text_line (codes "chain " ++ (instance_text c.0 ++ (codes " " ++ length_text c.1)))

-- the events that loop
abbrev pub looping : Spec → Answers → List Instance
looping s a = items_where_true a.loops (events s)

-- `loop EVENT`
abbrev pub loop_line : Instance → Text
loop_line e = text_line (codes "loop " ++ instance_text e)

-- `START round N ONE TWO`
abbrev pub clash_text : Instance → ClashFound → Text
clash_text x c = instance_text x ++ (codes " round " ++ (decimal c.round ++ (codes " " ++ (instance_text c.one ++ (codes " " ++ instance_text c.two)))))

-- `clash START round N ONE TWO`, or nothing where there is no clash
abbrev pub clash_line : Instance × Option ClashFound → Text
clash_line c = elim c.1 [ None ↦ [] | Some d ↦ text_line (codes "clash " ++ clash_text c.0 d) ]

-- `PATH on EVENT`, `send NAME on EVENT` or `function NAME`
abbrev pub group_text : Group → Text
group_text (state path e) = path_text path ++ (codes " on " ++ instance_text e)
group_text (send x e) = codes "send " ++ (instance_text x ++ (codes " on " ++ instance_text e))
group_text (function f) = codes "function " ++ instance_text f.function

-- nothing where the component has its first child
abbrev pub choice_line : Component × ℕ → Text
choice_line c = if c.1 == 0 then [] else text_line (codes "  in " ++ (path_text (chosen c) ++ codes " | T"))

-- nothing where the cell has its least number
abbrev pub cell_line : InputCell × ℤ → Text
cell_line c = if int_eq c.1 c.0.numbers.low then [] else text_line (codes "  " ++ (cell_text c.0 ++ (codes " = " ++ (value_text c.0.numbers.names c.1 ++ codes " | T"))))

-- what of a world is not least: chosen children, and then numbers
abbrev pub world_text : Spec → World → Text
world_text s w = flat_map choice_line (zip (components s) w.choices) ++ flat_map cell_line (zip (cells s) w.cells)

-- the label of a transition or of a case
abbrev pub member_label : Member → Text
member_label (transition t) = label t
member_label (send_case c) = case_label c.ordinal
member_label (case f c) = case_label (ordinal_of c)

-- a line for each enabled member
abbrev pub enabled_text : Spec → Group → World → Text
enabled_text s group w = flat_map (λ m. text_line (codes "  enabled " ++ member_label m)) (filter (enabled (view s w)) (members s group))

-- the last line of a finding
abbrev pub confirmed : Text
confirmed = text_line (codes "  confirmed")

-- what is found of a group that is not sound
abbrev pub finding : Spec → Group × Verdict → Text
finding s x = elim x.1 [
  | sound ↦ []
  | none w ↦ text_line (codes "none " ++ group_text x.0) ++ (world_text s w ++ confirmed)
  | two w ↦ text_line (codes "two " ++ group_text x.0) ++ (world_text s w ++ (enabled_text s x.0 w ++ confirmed))
]

-- the group is not sound
abbrev pub is_finding : Verdict → Bool
is_finding sound = false
is_finding (none w) = true
is_finding (two w) = true

-- the loops, the clashes and the findings
abbrev pub refusals : Spec → Answers → ℕ
refusals s a = length (looping s a) + (length (filter is_some a.clashes) + length (filter is_finding a.verdicts))

-- `certified`, or `refused N`
abbrev pub last_line : ℕ → Text
last_line n = if n == 0 then text_line (codes "certified") else text_line (codes "refused " ++ decimal n)

-- the text of a report with these answers
abbrev pub report_text : Spec → Answers → Text
report_text s a =
    text_line (codes "specification " ++ s.name)
    ++ (text_line (codes "groups " ++ decimal (length (groups s)))
    ++ (flat_map chain_line (zip (externals s) a.lengths)
    ++ (flat_map loop_line (looping s a)
    ++ (flat_map clash_line (zip (externals s) a.clashes)
    ++ (flat_map (finding s) (zip (groups s) a.verdicts)
    ++ last_line (refusals s a))))))

-- the report on a specification: the text of right answers
abbrev pub IsReport : Spec → Text → Type 0
IsReport s text = (a : Answers) × AreRight s a × (text ≡ report_text s a)
