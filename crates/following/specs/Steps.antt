-- What the steps of a command leave that follows an event file.
use Rattle.std.specs.Prelude.{◌≡◌, ◌≢◌, ℕ, ◌≤◌, Option, IfOk, IfSome}
use Rattle.source_notes.specs.Comments.{AreComments}
use Rattle.rsml_meaning.specs.EventFiles.{program_limits}
use Rattle.rsml_meaning.specs.EventLines.{Bytes}
use Rattle.rsml_syntax.specs.declared.syntax.Spec.{Spec}
use Rattle.simulator.specs.Simulating.{Follows, Meeting}
use Rattle.simulator.specs.declared.sim_end.SimEnd.{SimEnd}
use Rattle.simulator.specs.declared.sim_end.SimEnd.TheVariants as end
use Rattle.answering.specs.Outcomes.{CameTo, HasActed, answer_of, bytes_of}
use Rattle.answering.specs.Uses.{FileUse, SinkUse, WritesNothing}
use Rattle.answering.specs.Writing.{HasWritten}
use Rattle.answering.specs.declared.status.Status.{Status}
use Rattle.answering.specs.declared.status.Status.TheVariants as status
use Rattle.checking.specs.Outputs.{CheckOutput}
use Rattle.following.specs.Outputs.{IsCertifiedText, Shows, status_of, texts_of}
use Rattle.following.specs.declared.event_action.EventAction.{EventAction}
use Rattle.following.specs.declared.event_action.EventAction.TheVariants as action
use Rattle.following.specs.declared.starting.Start.{Start}
use Rattle.following.specs.declared.starting.Start.TheVariants as start

-- what is answered and written of a text that is no certified specification: what `check` does, which is not Done, with the comment lines
-- of the action
abbrev pub StoppedOutput : EventAction → Bytes → Status → Bytes → Type 0
StoppedOutput does text answer bytes = (answer ≢ status.Done) × Shows does (CheckOutput text answer) bytes

-- what a command starts with, on a text
abbrev pub Starts : EventAction → Bytes → Start → Type 0
Starts does text (start.Certified s shown) = IsCertifiedText text s
Starts does text (start.Stopped came) = IfOk came (λ o. StoppedOutput does text (answer_of o) (bytes_of o))

-- what it starts with, on a file: the text that was read is what the file told, if it told it
abbrev pub StartsOn : EventAction → FileUse → Start → Type 0
StartsOn does f (start.Certified s shown) = (text : Bytes) × IfSome f.told (λ told. text ≡ told) × IsCertifiedText text s
StartsOn does f (start.Stopped came) = IfOk came (CameTo (StoppedOutput does) f)

-- what is met of an event file and a sink
abbrev pub meeting : FileUse → SinkUse → Meeting
meeting e k = record {
  told = e.told;
  reach = e.reach;
  reach_after = e.reach_after;
  reads_refused = e.refusals;
  reads_refused_after = e.refusals_after;
  written = k.written;
  written_after = k.written_after;
  writes_refused = k.refusals;
  writes_refused_after = k.refusals_after;
}

-- a sink up to where so much was written to it and so many writes were refused, and from there on
abbrev pub up_to : SinkUse → Option Bytes → ℕ → SinkUse
up_to k written refusals = record k { written_after = written; refusals_after = refusals }

abbrev pub onward : SinkUse → Option Bytes → ℕ → SinkUse
onward k written refusals = record k { written = written; refusals = refusals }

-- What following an event file by a certified specification wrote, and how it ended: with comment lines behind it where the action asks for
-- them and neither a read nor a write was refused before. Where memory was refused, nothing was read or written.
pub data HasRun (does : EventAction) (s : Spec) (e : FileUse) (k : SinkUse) (answer : Status) : Type 0 where
  no_memory : answer ≡ status.NoMemory → WritesNothing k → e.reach_after ≡ e.reach → HasRun does s e k answer
  run : (ended : SimEnd) → answer ≡ status_of ended → Follows (texts_of does) s program_limits (meeting e k) ended
      → HasRun does s e k answer
  noted : (ended : SimEnd) (written : Option Bytes) (refusals : ℕ) (notes : Bytes) → does ≡ action.ExplainCover → ended ≢ end.ReadFault
      → ended ≢ end.WriteFault → Follows (texts_of does) s program_limits (meeting e (up_to k written refusals)) ended → k.refusals ≤ refusals
      → AreComments notes → HasWritten (onward k written refusals) notes (status_of ended) answer → HasRun does s e k answer

-- What is made of the event file once the specification was read, of all that is made of it.
pub record IsRestOf (file events : Bytes) (all rest : FileUse) : Type 0 where
  pub told : rest.told ≡ all.told
  pub refusals : all.refusals ≤ rest.refusals
  pub refusals_after : rest.refusals_after ≡ all.refusals_after
  pub reach : file ≢ events → rest.reach ≡ all.reach
  pub reach_after : rest.reach_after ≡ all.reach_after

-- What a command left of its files and of the sink. Where no certified specification was read, nothing was read of the event file.
pub data HasFollowed (does : EventAction) (file events : Bytes) (files : Bytes → FileUse) (k : SinkUse) (answer : Status) : Type 0 where
  stopped : HasActed (StoppedOutput does) (files file) k answer → (file ≢ events → (files events).reach_after ≡ (files events).reach)
      → HasFollowed does file events files k answer
  followed : (text : Bytes) (s : Spec) (rest : FileUse) → IfSome (files file).told (λ told. text ≡ told) → IsCertifiedText text s
      → IsRestOf file events (files events) rest → HasRun does s rest k answer → HasFollowed does file events files k answer
