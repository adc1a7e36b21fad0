-- What two specifications have in common, one for one.
use Rattle.std.specs.Prelude.{◌≡◌, map, length}
use Rattle.rsml_syntax.specs.declared.syntax.Spec.{Spec}
use Rattle.rsml_syntax.specs.declared.syntax.Guard.TheVariants as guards
use Rattle.rsml_syntax.specs.declared.world.World.{World}
use Rattle.rsml_meaning.specs.Words.{Path, ordinal_of, item_of}
use Rattle.rsml_meaning.specs.Instances.{states}
use Rattle.rsml_meaning.specs.Cells.{cells}
use Rattle.rsml_meaning.specs.Worlds.{is_world}
use Rattle.rsml_meaning.specs.Active.{active}
use Rattle.rsml_meaning.specs.Transitions.{TransitionInstance}
use Rattle.rsml_meaning.specs.Interfaces.{SendCaseInstance}
use Rattle.rsml_meaning.specs.Groups.{Member, transition, send_case, case}
use Rattle.rsml_meaning.specs.EventLines.{Bytes}
use Rattle.rsml_meaning.specs.EventFiles.{Limits, first_fault, sound_lines}
use Rattle.rsml_meaning.specs.Runs.{HaveOneRun}
use Rattle.rsml_meaning.specs.Trace.{trace_text}
use Rattle.spec_frames.specs.Frames.{open_case}

-- The same worlds, the same paths of states, the same of them active, and the same cells.
pub record HaveSameWorlds (s t : Spec) : Type 0 where
  pub worlds : (w : World) → is_world s w ≡ is_world t w
  pub paths : map (λ x. x.path) (states s) ≡ map (λ x. x.path) (states t)
  pub active : (w : World) (path : Path) → active s w path ≡ active t w path
  pub cells : cells s ≡ cells t

-- a transition with `always` for its guard
abbrev pub opened_transition : TransitionInstance → TransitionInstance
opened_transition t = record t { guard = guards.Always }

-- a case of a send with `always` for its guard
abbrev pub opened_send_case : SendCaseInstance → SendCaseInstance
opened_send_case c = record c { guard = guards.Always }

-- a member with `always` for its guard
abbrev pub opened : Member → Member
opened (transition t) = transition (opened_transition t)
opened (send_case c) = send_case (opened_send_case c)
opened (case f c) = case f (ordinal_of c, open_case (item_of c))

-- An event file has the same first fault for both, and the lines before it are the same; they have one run of each, and what is
-- written of the two runs is one text, with the same number of events.
pub record AreTracedAlike (s t : Spec) (limits : Limits) (content : Bytes) : Type 0 where
  pub fault : first_fault s limits content ≡ first_fault t limits content
  pub lines : sound_lines s limits content ≡ sound_lines t limits content
  pub one : HaveOneRun s (sound_lines s limits content)
  pub other : HaveOneRun t (sound_lines t limits content)
  pub trace : trace_text s one.run ≡ trace_text t other.run
  pub events : length one.run ≡ length other.run
