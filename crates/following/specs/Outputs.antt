-- What a command that follows an event file answers and writes, by the text of the specification and what the event file holds.
use Rattle.std.specs.Prelude.{◌≡◌, ◌≢◌}
use Rattle.rsml_meaning.specs.Certified.{Certified}
use Rattle.rsml_meaning.specs.Deterministic.{IsDeterministic}
use Rattle.rsml_meaning.specs.EventFiles.{program_limits}
use Rattle.rsml_meaning.specs.EventLines.{Bytes}
use Rattle.rsml_syntax.specs.declared.syntax.Spec.{Spec}
use Rattle.rsml_syntax.specs.limits.Limits.{Keeps}
use Rattle.simulator.specs.Outputs.{Output, RunTexts, traces}
use Rattle.simulator.specs.declared.sim_end.SimEnd.{SimEnd}
use Rattle.simulator.specs.declared.sim_end.SimEnd.TheVariants as end
use Rattle.coverage.specs.Text.{covers}
use Rattle.judging.specs.Texts.{IsTextOf}
use Rattle.answering.specs.declared.status.Status.{Status}
use Rattle.answering.specs.declared.status.Status.TheVariants as status
use Rattle.checking.specs.Outputs.{CheckOutput}
use Rattle.explaining.specs.Outputs.{WithNotes}
use Rattle.following.specs.declared.event_action.EventAction.{EventAction}
use Rattle.following.specs.declared.event_action.EventAction.TheVariants as action

-- what an action writes of runs: their traces, or what they cover
abbrev pub texts_of : EventAction → RunTexts
texts_of action.Simulate = traces
texts_of action.Cover = covers
texts_of action.ExplainCover = covers

-- what an action makes of a text that is such: the text alone, or with comment lines behind it
abbrev pub Shows : EventAction → (Bytes → Type 0) → Bytes → Type 0
Shows action.Simulate Is = Is
Shows action.Cover Is = Is
Shows action.ExplainCover Is = WithNotes Is

-- the status, by how following the event file ended
abbrev pub status_of : SimEnd → Status
status_of (end.Ended events) = status.Done
status_of (end.LineFault line fault) = status.EventFault
status_of (end.LineTooLong line) = status.EventFault
status_of end.ReadFault = status.ReadFault
status_of end.TooLong = status.TooLong
status_of end.WriteFault = status.WriteFault

-- A text reads as a specification that keeps the rules and the limits and is certified.
pub record IsCertifiedText (text : Bytes) (s : Spec) : Type 0 where
  pub reads : IsTextOf text s
  pub keeps : Keeps s
  pub certified : Certified s
  pub deterministic : IsDeterministic s

-- What a command answers and writes, but for comment lines, by the text of the specification and what the event file holds: what `check` does
-- of a specification that is not certified, and else what the action writes of the event file.
pub data FollowOutput (does : EventAction) (text content : Bytes) (answer : Status) (bytes : Bytes) : Type 0 where
  checked : answer ≢ status.Done → CheckOutput text answer bytes → FollowOutput does text content answer bytes
  followed : (s : Spec) (ended : SimEnd) → IsCertifiedText text s → Output (texts_of does) s program_limits content ended bytes
      → answer ≡ status_of ended → FollowOutput does text content answer bytes

-- the same with the comment lines behind it, where the action writes some
abbrev pub EventOutput : EventAction → Bytes → Bytes → Status → Bytes → Type 0
EventOutput does text content answer = Shows does (FollowOutput does text content answer)
