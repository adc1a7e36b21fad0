-- What a command answers and writes, by what its files hold.
use Rattle.std.specs.Prelude.{◌≡◌, ℕ, List, Some, None}
use Rattle.rsml_meaning.specs.EventFiles.{program_limits}
use Rattle.rsml_meaning.specs.EventLines.{Bytes}
use Rattle.rsml_syntax.specs.declared.syntax.Spec.{Spec}
use Rattle.simulator.specs.Outputs as events_file
use Rattle.answering.specs.Lines as lines
use Rattle.answering.specs.declared.status.Status.{Status}
use Rattle.answering.specs.declared.status.Status.TheVariants as status
use Rattle.checking.specs.Outputs.{CheckOutput, FormatOutput, MigrateOutput}
use Rattle.explaining.specs.Outputs.{ExplainOutput}
use Rattle.following.specs.Outputs.{EventOutput, IsCertifiedText, texts_of}
use Rattle.following.specs.declared.event_action.EventAction.{EventAction}
use Rattle.gapping.specs.Outputs.{GapsOutput}
use Rattle.gapping.specs.Explained.{ExplainGapsOutput}
use Rattle.pairing.specs.Outputs.{PairOutput}
use Rattle.pairing.specs.declared.pair_action.PairAction.{PairAction}
use Rattle.demonstrating.specs.Summary.{IsSummary}
use Rattle.rsml.specs.Commands.{act, follow, pair, demo, version, command_of}
use Rattle.rsml.specs.Version.{version_text}
use Rattle.rsml.specs.declared.command.Action.{Action}
use Rattle.rsml.specs.declared.command.Action.TheVariants as action

-- what an action comes to on a text
abbrev pub ActionOutput : Action → Bytes → Status → Bytes → Type 0
ActionOutput action.Check = CheckOutput
ActionOutput action.Explain = ExplainOutput
ActionOutput action.Format = FormatOutput
ActionOutput action.Migrate = MigrateOutput
ActionOutput (action.Gaps most) = GapsOutput most
ActionOutput (action.ExplainGaps most) = ExplainGapsOutput most

-- What the words come to, where the files hold these contents.
pub data Output (words : List Bytes) (contents : Bytes → Bytes) (answer : Status) (bytes : Bytes) : Type 0 where
  no_command : command_of words ≡ None → answer ≡ status.Usage → bytes ≡ lines.usage → Output words contents answer bytes
  acted : (action : Action) (file : Bytes) → command_of words ≡ Some (act action file)
      → ActionOutput action (contents file) answer bytes → Output words contents answer bytes
  followed : (does : EventAction) (file events : Bytes) → command_of words ≡ Some (follow does file events)
      → EventOutput does (contents file) (contents events) answer bytes → Output words contents answer bytes
  paired : (does : PairAction) (file other : Bytes) → command_of words ≡ Some (pair does file other)
      → PairOutput does (contents file) (contents other) answer bytes → Output words contents answer bytes
  demonstrated : (n : ℕ) → command_of words ≡ Some (demo n) → answer ≡ status.Done → IsSummary n bytes → Output words contents answer bytes
  versioned : command_of words ≡ Some version → answer ≡ status.Done → bytes ≡ version_text → Output words contents answer bytes

-- What is written where a read of the event file is refused when so many of its bytes have been read.
pub record ReadOutput (words : List Bytes) (contents : Bytes → Bytes) (events : Bytes) (k : ℕ) (bytes : Bytes) : Type 0 where
  pub does : EventAction
  pub file : Bytes
  pub command : command_of words ≡ Some (follow does file events)
  pub spec : Spec
  pub certified : IsCertifiedText (contents file) spec
  pub output : events_file.ReadOutput (texts_of does) spec program_limits (contents events) k bytes
