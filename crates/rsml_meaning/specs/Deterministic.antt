-- What the headline says of a specification that keeps the rules and is certified.
use Rattle.std.specs.Prelude.{◌≡◌, ℕ, ◌≤◌, List, length, IsTrue}
use Rattle.std.specs.List.{list_any, AllZip}
use Rattle.rsml_syntax.specs.declared.syntax.Spec.{Spec}
use Rattle.rsml_syntax.specs.declared.world.World.{World}
use Rattle.rsml_meaning.specs.Words.{Instance, Path, is_prefix, is_proper_prefix, IsOne}
use Rattle.rsml_meaning.specs.Worlds.{IsWorld}
use Rattle.rsml_meaning.specs.Active.{active}
use Rattle.rsml_meaning.specs.Truth.{view}
use Rattle.rsml_meaning.specs.Transitions.{transitions, is_from}
use Rattle.rsml_meaning.specs.Interfaces.{SendCaseInstance, send_cases, FunctionInstance, functions}
use Rattle.rsml_meaning.specs.Groups.{state, send, function, enabled_count}
use Rattle.rsml_meaning.specs.Chains.{is_external, IsLength, HasLength}
use Rattle.rsml_meaning.specs.EventLines.{Message}
use Rattle.rsml_meaning.specs.EventFiles.{Line, messages, program_limits}
use Rattle.rsml_meaning.specs.Runs.{Reaction, IsRun, HasOneRun}

-- The state is active, and is the source of a transition on the event.
pub record IsActiveSource (s : Spec) (w : World) (path : Path) (e : Instance) : Type 0 where
  pub active : IsTrue (active s w path)
  pub source : IsTrue (list_any (is_from path e) (transitions s))

-- The line of a state on an event is a lowest active line: the state is an active source of a transition on the event, and
-- no state strictly inside it is.
pub record IsLowestLine (s : Spec) (w : World) (path : Path) (e : Instance) : Type 0 where
  pub here : IsActiveSource s w path e
  pub lowest : (inner : Path) → IsTrue (is_proper_prefix path inner) → IsActiveSource s w inner e → ⊥

-- a lowest active line for the event at a path or below it
abbrev pub HasLowestLine : Spec → World → Path → Instance → Type 0
HasLowestLine s w path e = (lowest : Path) × IsLowestLine s w lowest e × IsTrue (is_prefix path lowest)

-- each step has at most as many rounds as the length of the event that it is on
abbrev pub StepsEndInTime : Spec → List Message → List Reaction → Type 0
StepsEndInTime s ms rs = AllZip (λ m r. (n : ℕ) → IsLength s m.receive.raised n → length r.rounds ≤ n) ms rs

-- Every external event has a length. In every world exactly one transition is enabled on each lowest active line for each
-- event, and there is such a line at or below each active source; exactly one case of a send instance has a true guard
-- on each event that a case of it is on, and exactly one case of a function. Every well-formed event file has exactly one
-- run, and each step of a run ends within the length of its event.
pub record IsDeterministic (s : Spec) : Type 0 where
  pub lengths : (e : Instance) → IsTrue (is_external s e) → HasLength s e
  pub lines : (w : World) (path : Path) (e : Instance) → IsWorld s w → IsLowestLine s w path e → enabled_count s (state path e) (view s w) ≡ 1
  pub lowest : (w : World) (path : Path) (e : Instance) → IsActiveSource s w path e → HasLowestLine s w path e
  pub sends : (w : World) (c : SendCaseInstance) → IsWorld s w → IsOne c (send_cases s) → enabled_count s (send c.send c.event) (view s w) ≡ 1
  pub functions : (w : World) (f : FunctionInstance) → IsWorld s w → IsOne f (functions s) → enabled_count s (function f) (view s w) ≡ 1
  pub one_run : HasOneRun s program_limits
  pub in_time : (lines : List Line) (rs : List Reaction) → IsRun s lines rs → StepsEndInTime s (messages s lines) rs
