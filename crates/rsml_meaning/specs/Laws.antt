-- Laws of the definitions. Each is the contract of a function with no body.
use Rattle.std.specs.Prelude.{◌≡◌, ℕ, Bool, false, ◌&&◌, List, map, flat_map, Option, Some, None, ℤ, pos, IsTrue, ◌↔◌, ◌⊎◌}
use Rattle.std.specs.List.{list_any}
use Rattle.std.specs.Cmp.{IsTotalOrder}
use Rattle.std.specs.declared.cmp.Ordering.TheVariants.{Equal}
use Rattle.rsml_syntax.specs.declared.syntax.Spec.{Spec}
use Rattle.rsml_syntax.specs.declared.world.World.{World}
use Rattle.rsml_syntax.specs.declared.syntax.Amount.{Amount}
use Rattle.rsml_syntax.specs.declared.syntax.Decl.TheVariants as decl
use Rattle.rsml_syntax.specs.declared.syntax.Mention.{Mention}
use Rattle.rsml_syntax.specs.declared.syntax.Relation.{Relation}
use Rattle.rsml_syntax.specs.declared.syntax.Sum.{Sum}
use Rattle.rsml_syntax.specs.declared.syntax.Simple.TheVariants as simples
use Rattle.rsml_syntax.specs.declared.syntax.Row.{Row}
use Rattle.rsml_syntax.specs.declared.syntax.Case.{Case}
use Rattle.rsml_syntax.specs.declared.syntax.Bus.{Bus}
use Rattle.rsml_syntax.specs.declared.syntax.Transition.{Transition}
use Rattle.rsml_syntax.specs.declared.syntax.StateDecl.{StateDecl}
use Rattle.rsml_syntax.specs.declared.syntax.Body.{One, All}
use Rattle.rsml_syntax.specs.text.Names.{Name}
use Rattle.rsml_syntax.specs.rules.Globals.{Globals}
use Rattle.rsml_syntax.specs.limits.Comparisons.{Indices, index_number}
use Rattle.rsml_syntax.specs.rules.Relations.{compare}
use Rattle.rsml_meaning.specs.Words.{Instance, at, Path, on_one_line, Each, IsOne}
use Rattle.rsml_meaning.specs.Instances.{new_component, component_of, inside, child_states}
use Rattle.rsml_meaning.specs.Worlds.{world_cmp}
use Rattle.rsml_meaning.specs.Active.{enter}
use Rattle.rsml_meaning.specs.Truth.{View, view, within, simple, table, guard, sum, values_given, Gives}
use Rattle.rsml_meaning.specs.InOrder.{IsInOrder}
use Rattle.rsml_meaning.specs.Groups.{Group}
use Rattle.rsml_meaning.specs.Chains.{is_external, IsLength, HasLength, Endless}
use Rattle.rsml_meaning.specs.Findings.{Verdict, IsVerdict}
use Rattle.rsml_meaning.specs.EventLines.{Bytes, LineRule, Message, breaks, tells, read_line}
use Rattle.rsml_meaning.specs.LineRules.{BreaksLowest, TellsEvent}
use Rattle.rsml_meaning.specs.EventFiles.{Limits, FileFault, first_fault, IsFirstFault, IsWellFormed, sound_lines, lines_of}
use Rattle.rsml_meaning.specs.Texts.{Text}
use Rattle.rsml_meaning.specs.Report.{IsReport}

-- States.

-- The states inside a state, and its component, by the list of its children.
pub record StatesOfChildren (g : Globals) (path : Path) (default : Name) (children : List StateDecl) (buses : List Bus) (transitions : List Transition) : Type 0 where
  pub inside_one : inside g (One default children buses transitions) path ≡ flat_map (child_states g path) children
  pub inside_all : inside g (All children) path ≡ flat_map (child_states g path) children
  pub is_component : component_of (One default children buses transitions) path ≡ Some (new_component path default (map (λ c. c.name) children) buses transitions)
  pub is_none : component_of (All children) path ≡ None

-- the states inside a state and its component are those of its children, in order
abbrev pub StatesAreOfChildren : Type 0
StatesAreOfChildren = (g : Globals) (path : Path) (default : Name) (children : List StateDecl) (buses : List Bus) (transitions : List Transition)
    → StatesOfChildren g path default children buses transitions

-- Worlds.

-- the order of worlds is total
abbrev pub WorldsAreOrdered : Type 0
WorldsAreOrdered = IsTotalOrder world_cmp

-- of two worlds that are not one, one is before the other
abbrev pub WorldsAreApart : Type 0
WorldsAreApart = (v w : World) → world_cmp v w ≡ Equal → v ≡ w

-- moves of components that are not on one line give the same in either order
abbrev pub MovesApartCommute : Type 0
MovesApartCommute = (s : Spec) (p q target other : Path) (choices : List ℕ) → on_one_line p q ≡ false
    → enter s p target (enter s q other choices) ≡ enter s q other (enter s p target choices)

-- Truth.

-- a phrase that names a macro is true exactly where that instance's table is
abbrev pub MacrosAreTheirTables : Type 0
MacrosAreTheirTables = (s : Spec) (w : World) → IsInOrder s → (r : Indices) (m : Mention) (size : Option Amount) (rows : List Row)
    → IsOne (decl.Macro m.name size rows) s.decls
    → simple (view s w) r (simples.Macro m) ≡ table (view s w) (within (index_number (view s w).names r m.index)) rows

-- a case with a true guard has a value that compares so
abbrev pub compares_so : View → Indices → Relation → ℤ → Case → Bool
compares_so v r relation n c = guard v r c.guard && compare relation (sum v r c.value) n

-- a function that is compared is true exactly where some case with a true guard has a value that compares so
abbrev pub FunctionsAreTheirCases : Type 0
FunctionsAreTheirCases = (s : Spec) (w : World) → IsInOrder s → (r : Indices) (f : Mention) (size : Option Amount) (cases : List Case) (relation : Relation) (right : Sum)
    → IsOne (decl.Function f.name size cases) s.decls
    → simple (view s w) r (simples.Function f relation right)
    ≡ list_any (compares_so (view s w) (within (index_number (view s w).names r f.index)) relation (sum (view s w) r right)) cases

-- a function gives the values of its cases with a true guard
abbrev pub FunctionsGiveTheirCases : Type 0
FunctionsGiveTheirCases = (s : Spec) (w : World) → IsInOrder s → (name : Name) (index : ℕ) (size : Option Amount) (cases : List Case)
    → IsOne (decl.Function name size cases) s.decls → (view s w).gives (at name index) ≡ values_given (view s w) (within index) cases

-- the number is the value of some case with a true guard
abbrev pub IsOfTrueCase : View → Indices → List Case → ℤ → Type 0
IsOfTrueCase v r cases n = (c : Case) × IsOne c cases × IsTrue (guard v r c.guard) × (n ≡ sum v r c.value)

-- no case has a true guard
abbrev pub HasNoTrueCase : View → Indices → List Case → Type 0
HasNoTrueCase v r cases = Each (λ c. guard v r c.guard ≡ false) cases

-- a value of a function is that of some case with a true guard, or 0 where none is true
abbrev pub FunctionValuesAreOfCases : Type 0
FunctionValuesAreOfCases = (s : Spec) (w : World) → IsInOrder s → (name : Name) (index : ℕ) (size : Option Amount) (cases : List Case) (n : ℤ)
    → IsOne (decl.Function name size cases) s.decls
    → Gives (view s w) (at name index) n ↔ (IsOfTrueCase (view s w) (within index) cases n ⊎ (HasNoTrueCase (view s w) (within index) cases × (n ≡ pos 0)))

-- Chains and reports.

-- an event with a length has no chain with an event twice
abbrev pub LengthExcludesEndless : Type 0
LengthExcludesEndless = (s : Spec) (x : Instance) (n : ℕ) → IsLength s x n → Endless s x → ⊥

-- an external event has a length, or a chain with an event twice
abbrev pub LengthOrEndless : Type 0
LengthOrEndless = (s : Spec) (x : Instance) → IsTrue (is_external s x) → HasLength s x ⊎ Endless s x

-- a group has at most one verdict
abbrev pub VerdictIsOne : Type 0
VerdictIsOne = (s : Spec) (group : Group) (u v : Verdict) → IsVerdict s group u → IsVerdict s group v → u ≡ v

-- a specification has at most one report
abbrev pub ReportIsOne : Type 0
ReportIsOne = (s : Spec) (t u : Text) → IsReport s t → IsReport s u → t ≡ u

-- Event lines.

-- reading a line gives a rule exactly where the line breaks that rule and no lower one
abbrev pub LinesBreakRules : Type 0
LinesBreakRules = (s : Spec) (line : Bytes) (rule : LineRule) → (read_line s line ≡ breaks rule) ↔ BreaksLowest s line rule

-- reading a line gives an event exactly where the line breaks no rule and tells that event
abbrev pub LinesTellEvents : Type 0
LinesTellEvents = (s : Spec) (line : Bytes) (m : Message) → (read_line s line ≡ tells m) ↔ TellsEvent s line m

-- Event files.

-- a file has no first fault exactly where it is well-formed
abbrev pub WellFormedHasNoFault : Type 0
WellFormedHasNoFault = (s : Spec) (limits : Limits) (content : Bytes) → (first_fault s limits content ≡ None) ↔ IsWellFormed s limits content

-- the first fault of a file is that of the first line that has one
abbrev pub FirstFaultIsOfLine : Type 0
FirstFaultIsOfLine = (s : Spec) (limits : Limits) (content : Bytes) (fault : FileFault) → (first_fault s limits content ≡ Some fault) ↔ IsFirstFault s limits content fault

-- in a well-formed file all lines are before the first fault
abbrev pub WellFormedIsSound : Type 0
WellFormedIsSound = (s : Spec) (limits : Limits) (content : Bytes) → IsWellFormed s limits content → sound_lines s limits content ≡ lines_of content
