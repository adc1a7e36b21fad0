-- Laws of certified specifications. Each is the contract of a function with no body.
use Rattle.std.specs.Prelude.{◌≡◌, ℕ, ◌≤◌, List, [], ◌∷◌, length, None, IsTrue, ◌↔◌, IsPermutation}
use Rattle.rsml_syntax.specs.declared.syntax.Spec.{Spec}
use Rattle.rsml_syntax.specs.declared.world.World.{World}
use Rattle.rsml_syntax.specs.rules.Rules.{broken_rule}
use Rattle.rsml_meaning.specs.Words.{Instance, Path, Each}
use Rattle.rsml_meaning.specs.Worlds.{IsWorld}
use Rattle.rsml_meaning.specs.Truth.{view}
use Rattle.rsml_meaning.specs.Transitions.{TransitionInstance}
use Rattle.rsml_meaning.specs.Groups.{state, enabled_count}
use Rattle.rsml_meaning.specs.Chains.{is_external, IsLength, HasLength, Ends}
use Rattle.rsml_meaning.specs.Certified.{Certified}
use Rattle.rsml_meaning.specs.Steps.{enabled_transitions, AreOutcomes}
use Rattle.rsml_meaning.specs.EventFiles.{Limits, Line, messages}
use Rattle.rsml_meaning.specs.Runs.{Reaction, IsRun, HaveOneRun, HasOneRun}
use Rattle.rsml_meaning.specs.Report.{Answers, AreRight, refusals}
use Rattle.rsml_meaning.specs.Scoped.{WellScoped}
use Rattle.rsml_meaning.specs.MicroSteps.{Result, IsResult, HasOneResult, NoTwoOnALine, FunctionsHaveOneValue, IsDeterminate}
use Rattle.rsml_meaning.specs.Deterministic.{IsLowestLine, IsActiveSource, HasLowestLine, StepsEndInTime, IsDeterministic}
use Rattle.rsml_meaning.specs.Turns.{IsActiveTransition, after_all}
use Rattle.rsml_meaning.specs.Whole.{StepResult, IsStepResult, HasOneStep}

-- Micro-steps of any specification.

-- there is a micro-step from each world, on any events
abbrev pub MicroStepsExist : Type 0
MicroStepsExist = (s : Spec) (w : World) (present : List Instance) → IsWorld s w → (r : Result) × IsResult s w present r

-- a micro-step leaves a world
abbrev pub MicroStepsLeaveWorlds : Type 0
MicroStepsLeaveWorlds = (s : Spec) (w : World) (present : List Instance) (r : Result) → WellScoped s → IsWorld s w → IsResult s w present r → IsWorld s r.world

-- there is one result where no two taken sources lie on one line and each function has one value
abbrev pub MicroStepsAreOne : Type 0
MicroStepsAreOne = (s : Spec) (w : World) (present : List Instance) → WellScoped s → IsWorld s w → FunctionsHaveOneValue s w
    → NoTwoOnALine (enabled_transitions s (view s w) present) → HasOneResult s w present

-- Lines of a certified specification.

-- on each lowest active line exactly one transition is enabled
abbrev pub LowestLinesEnableOne : Type 0
LowestLinesEnableOne = (s : Spec) (w : World) (path : Path) (e : Instance) → WellScoped s → Certified s → IsWorld s w → IsLowestLine s w path e
    → enabled_count s (state path e) (view s w) ≡ 1

-- at or below each active source of a transition on an event there is a lowest active line for it
abbrev pub SourcesHaveLowestLines : Type 0
SourcesHaveLowestLines = (s : Spec) (w : World) (path : Path) (e : Instance) → WellScoped s → IsActiveSource s w path e → HasLowestLine s w path e

-- Rounds of a certified specification.

-- a round on events that all end chains of n events from one event is determinate
abbrev pub RoundsAreDeterminate : Type 0
RoundsAreDeterminate = (s : Spec) (w : World) (x : Instance) (n : ℕ) (present : List Instance) → WellScoped s → Certified s → IsWorld s w
    → Each (Ends s x n) present → IsDeterminate s w x n present

-- Transitions with active sources, no two of which lie on one line, can be entered in any order: each leaves the one
-- choice of children in which every component has a child that one of them gives it, or where none gives one its own.
abbrev pub OrderDoesNotMatter : Type 0
OrderDoesNotMatter = (s : Spec) (w : World) (taken ts : List TransitionInstance) (choices : List ℕ)
    → Each (IsActiveTransition s w) taken → NoTwoOnALine taken → IsPermutation taken ts → AreOutcomes s taken w.choices choices → after_all s ts w.choices ≡ choices

-- Steps and runs of a certified specification.

-- a step on an external event comes to one thing, in each world
abbrev pub StepsAreOne : Type 0
StepsAreOne = (s : Spec) (w : World) (x : Instance) → WellScoped s → Certified s → IsWorld s w → IsTrue (is_external s x) → HasOneStep s w (x ∷ [])

-- an external event has a length
abbrev pub EventsHaveLengths : Type 0
EventsHaveLengths = (s : Spec) (x : Instance) → Certified s → IsTrue (is_external s x) → HasLength s x

-- a step on an event has at most as many rounds as the event's length
abbrev pub StepsAreShort : Type 0
StepsAreShort = (s : Spec) (w : World) (x : Instance) (n : ℕ) (r : StepResult) → IsLength s x n → IsStepResult s w (x ∷ []) r → length r.rounds ≤ n

-- each step of a run ends within the length of its event
abbrev pub RunsEndInTime : Type 0
RunsEndInTime = (s : Spec) (lines : List Line) (rs : List Reaction) → IsRun s lines rs → StepsEndInTime s (messages s lines) rs

-- lines of an event file have exactly one run, so also those before the first fault
abbrev pub LinesHaveOneRun : Type 0
LinesHaveOneRun = (s : Spec) (lines : List Line) → WellScoped s → Certified s → HaveOneRun s lines

-- every well-formed event file has exactly one run
abbrev pub EventFilesHaveOneRun : Type 0
EventFilesHaveOneRun = (s : Spec) (limits : Limits) → WellScoped s → Certified s → HasOneRun s limits

-- Reports.

-- where the rules are kept, a right report counts no refusal exactly where the specification is certified: so its last line is then `certified`
abbrev pub LastLineIsVerdict : Type 0
LastLineIsVerdict = (s : Spec) (a : Answers) → broken_rule s ≡ None → AreRight s a → (refusals s a ≡ 0) ↔ Certified s

-- The headline.

-- a specification that keeps the rules and is certified is deterministic
abbrev pub CertifiedIsDeterministic : Type 0
CertifiedIsDeterministic = (s : Spec) → broken_rule s ≡ None → Certified s → IsDeterministic s
