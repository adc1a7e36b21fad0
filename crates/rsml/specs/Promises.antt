-- What `run` promises, whatever the files and the sink do.
use Rattle.std.specs.Prelude.{◌≡◌, ◌≢◌, ℕ, ◌≤◌, ◌⊎◌, List, [], ◌∷◌, Some, None, Contains}
use Rattle.rsml_syntax.specs.declared.syntax.Spec.{Spec}
use Rattle.rsml_meaning.specs.Certified.{Certified}
use Rattle.rsml_meaning.specs.EventFiles.{program_limits, lines_of, IsWellFormed}
use Rattle.rsml_meaning.specs.EventLines.{Bytes}
use Rattle.rsml_meaning.specs.Runs.{Reaction, IsRun}
use Rattle.claim_syntax.specs.declared.claim.Claim.{Claim}
use Rattle.equal_frames.specs.Alike.{AreTracedAlike}
use Rattle.judging.specs.Headline.{IsCertificate, IsRefusal}
use Rattle.judging.specs.Texts.{IsTextOf}
use Rattle.answering.specs.Lines as lines
use Rattle.answering.specs.Uses.{FileUse, SinkUse, ReadRefused, WriteRefused, Writes, WritesPrefix, WritesNothing}
use Rattle.answering.specs.declared.status.Status.{Status}
use Rattle.answering.specs.declared.status.Status.TheVariants as status
use Rattle.explaining.specs.Outputs.{WithNotes}
use Rattle.following.specs.Followed.{IsFollowed}
use Rattle.following.specs.Outputs.{IsCertifiedText, Shows, texts_of}
use Rattle.following.specs.declared.event_action.EventAction.{EventAction}
use Rattle.following.specs.declared.event_action.EventAction.TheVariants as event_action
use Rattle.gapping.specs.Outputs.{TellsGaps}
use Rattle.comparing.specs.Outputs.{no_difference}
use Rattle.proving.specs.ClaimTexts.{AreKept}
use Rattle.proving.specs.Outputs.{IsProved}
use Rattle.proving.specs.ProveText.{proved_text}
use Rattle.pairing.specs.Kept.{IsKeptFile, IsKeptText}
use Rattle.pairing.specs.Outputs as paired
use Rattle.pairing.specs.declared.pair_action.PairAction.{PairAction}
use Rattle.pairing.specs.declared.pair_action.PairAction.TheVariants as pair_action
use Rattle.demonstrating.specs.Summary.{IsSummary}
use Rattle.rsml.specs.Commands.{Command, act, follow, pair, demo, version, command_of, specification_file, Names}
use Rattle.rsml.specs.Output.{Output, ReadOutput}
use Rattle.rsml.specs.declared.command.Action.TheVariants as action

-- What a call met: the words, what it made of each file, and of the sink.
pub record Meeting : Type 0 where
  pub words : List Bytes
  pub file : Bytes → FileUse
  pub sink : SinkUse

-- the files that the command names, if there is one, told these contents
abbrev pub Tells : Meeting → (Bytes → Bytes) → Type 0
Tells m contents = (c : Command) (file : Bytes) → command_of m.words ≡ Some c → Names c file → (m.file file).told ≡ Some (contents file)

-- a read of the command's specification was refused
abbrev pub SpecificationReadRefused : Meeting → Type 0
SpecificationReadRefused m = (c : Command) × (file : Bytes) × (command_of m.words ≡ Some c) × (specification_file c ≡ Some file) × ReadRefused (m.file file)

-- a read of a file that the command names was refused
abbrev pub SomeReadRefused : Meeting → Type 0
SomeReadRefused m = (c : Command) × (file : Bytes) × (command_of m.words ≡ Some c) × Names c file × ReadRefused (m.file file)

-- A read of the event file was refused, when so many of its bytes had been read: its reach, where that is told and the specification is
-- another file.
pub record EventReadRefused (m : Meeting) (events : Bytes) (k : ℕ) : Type 0 where
  pub does : EventAction
  pub file : Bytes
  pub command : command_of m.words ≡ Some (follow does file events)
  pub refused : ReadRefused (m.file events)
  pub reach : file ≢ events → (m.file events).reach ≡ Some 0 → (m.file events).reach_after ≡ Some k

-- A read of the second of two files was refused, where the text of the first is kept.
pub record SecondReadRefused (m : Meeting) (contents : Bytes → Bytes) : Type 0 where
  pub does : PairAction
  pub file : Bytes
  pub other : Bytes
  pub command : command_of m.words ≡ Some (pair does file other)
  pub spec : Spec
  pub kept : IsKeptText (contents file) spec
  pub refused : ReadRefused (m.file other)

-- where the words are no command, the usage line is written, or a write refused; and it is written only there
pub record IsUsage (m : Meeting) (answer : Status) : Type 0 where
  pub usage : command_of m.words ≡ None → (answer ≡ status.Usage) ⊎ (answer ≡ status.WriteFault)
  pub only : answer ≡ status.Usage → (command_of m.words ≡ None) × Writes m.sink lines.usage

-- with memory enough and nothing refused: the answer and the bytes are those of the contents
abbrev pub IsAnswered : Meeting → Status → Type 0
IsAnswered m answer = answer ≢ status.NoMemory → answer ≢ status.ReadFault → answer ≢ status.WriteFault
    → (contents : Bytes → Bytes) → Tells m contents → (bytes : Bytes) × Output m.words contents answer bytes × Writes m.sink bytes

-- What was to be written where a read was refused: the line on it, which of `simulate` stands behind the trace of the lines of the event file
-- that had been read. The second of two files is read only where the text of the first is kept.
pub data ReadFaultOutput (m : Meeting) (contents : Bytes → Bytes) (bytes : Bytes) : Type 0 where
  specification : SpecificationReadRefused m → bytes ≡ lines.read → ReadFaultOutput m contents bytes
  events : (events : Bytes) (k : ℕ) → EventReadRefused m events k → ReadOutput m.words contents events k bytes
      → ReadFaultOutput m contents bytes
  second : SecondReadRefused m contents → bytes ≡ lines.read → ReadFaultOutput m contents bytes

-- a read fault is told only where a read of a named file was refused, and then what had been read is written
abbrev pub TellsReadFault : Meeting → Status → Type 0
TellsReadFault m answer = answer ≡ status.ReadFault → SomeReadRefused m × ((contents : Bytes → Bytes) → Tells m contents
    → (bytes : Bytes) × ReadFaultOutput m contents bytes × Writes m.sink bytes)

-- after a refused write a prefix of what was to be written stands: of the output, or of that on a read that was refused too
abbrev pub LeavesPrefix : Meeting → Status → Type 0
LeavesPrefix m answer = answer ≡ status.WriteFault → (contents : Bytes → Bytes) → Tells m contents
    → ((wanted : Status) × (bytes : Bytes) × Output m.words contents wanted bytes × WritesPrefix m.sink bytes)
    ⊎ ((bytes : Bytes) × ReadFaultOutput m contents bytes × WritesPrefix m.sink bytes)

-- where nothing was refused, the answer is that of the contents, or out of memory
abbrev pub IsComplete : Meeting → Status → Type 0
IsComplete m answer = (SomeReadRefused m → ⊥) → (WriteRefused m.sink → ⊥) → (contents : Bytes → Bytes) → Tells m contents
    → (answer ≡ status.NoMemory) ⊎ ((bytes : Bytes) × Output m.words contents answer bytes × Writes m.sink bytes)

-- The command is `check`, and its file told this text.
pub record Checks (m : Meeting) (text : Bytes) : Type 0 where
  pub file : Bytes
  pub command : command_of m.words ≡ Some (act action.Check file)
  pub told : (m.file file).told ≡ Some text

-- Where `check` ends with Done, the text of its file reads as a specification, and its certificate was written.
abbrev pub Certifies : Meeting → Status → Type 0
Certifies m answer = answer ≡ status.Done → (text : Bytes) → Checks m text
    → (s : Spec) × (bytes : Bytes) × IsTextOf text s × IsCertificate s bytes × Writes m.sink bytes

-- Where it ends with Refused, the text reads as a specification, and its refusal was written.
abbrev pub Refuses : Meeting → Status → Type 0
Refuses m answer = answer ≡ status.Refused → (text : Bytes) → Checks m text
    → (s : Spec) × (bytes : Bytes) × IsTextOf text s × IsRefusal s bytes × Writes m.sink bytes

-- The command follows an event file, and its files told this text and these events.
pub record Follows (m : Meeting) (does : EventAction) (text content : Bytes) : Type 0 where
  pub file : Bytes
  pub events : Bytes
  pub command : command_of m.words ≡ Some (follow does file events)
  pub told : (m.file file).told ≡ Some text
  pub told_events : (m.file events).told ≡ Some content

-- Of a certified specification the event file is well-formed, and the bytes are what an action writes of its only run, with its comment lines.
pub record IsOfOnlyRun (does : EventAction) (s : Spec) (content bytes : Bytes) : Type 0 where
  pub well_formed : IsWellFormed s program_limits content
  pub run : List Reaction
  pub is_run : IsRun s (lines_of content) run
  pub only : (other : List Reaction) → IsRun s (lines_of content) other → other ≡ run
  pub text : Shows does (λ report. report ≡ (texts_of does).whole s run) bytes

-- Where a command that follows an event file ends with Done, the text reads as a specification that is certified, and what it writes of the
-- only run was written.
abbrev pub TellsOnlyRun : EventAction → Meeting → Status → Type 0
TellsOnlyRun does m answer = answer ≡ status.Done → (text content : Bytes) → Follows m does text content
    → (s : Spec) × (bytes : Bytes) × IsCertifiedText text s × IsOfOnlyRun does s content bytes × Writes m.sink bytes

-- so `simulate` writes the trace of the only run
abbrev pub Traces : Meeting → Status → Type 0
Traces = TellsOnlyRun event_action.Simulate

-- and `cover` how often the only run takes each transition, and makes each column true
abbrev pub Covers : Meeting → Status → Type 0
Covers = TellsOnlyRun event_action.Cover

-- and `explain cover` the same, with comment lines behind it
abbrev pub ExplainsCover : Meeting → Status → Type 0
ExplainsCover = TellsOnlyRun event_action.ExplainCover

-- The command is `gaps` with at most so many columns for each group, and its file told this text.
pub record AsksGaps (m : Meeting) (most : ℕ) (text : Bytes) : Type 0 where
  pub file : Bytes
  pub command : command_of m.words ≡ Some (act (action.Gaps most) file)
  pub told : (m.file file).told ≡ Some text

-- Where `gaps` ends with Done or with Refused, the text reads as a specification, and of each of its groups was written what is right: where
-- it fails, columns of its failing worlds alone, of which no two share a world, and that there are more exactly where one is in none.
abbrev pub Tabulates : Meeting → Status → Type 0
Tabulates m answer = ((answer ≡ status.Done) ⊎ (answer ≡ status.Refused)) → (most : ℕ) (text : Bytes) → AsksGaps m most text
    → (s : Spec) × (bytes : Bytes) × IsTextOf text s × TellsGaps s most answer bytes × Writes m.sink bytes

-- The command is `explain gaps` with at most so many columns for each group, and its file told this text.
pub record AsksExplainedGaps (m : Meeting) (most : ℕ) (text : Bytes) : Type 0 where
  pub file : Bytes
  pub command : command_of m.words ≡ Some (act (action.ExplainGaps most) file)
  pub told : (m.file file).told ≡ Some text

-- Where `explain gaps` ends with Done or with Refused, what `gaps` writes was written, and comment lines behind it.
abbrev pub ExplainsGaps : Meeting → Status → Type 0
ExplainsGaps m answer = ((answer ≡ status.Done) ⊎ (answer ≡ status.Refused)) → (most : ℕ) (text : Bytes) → AsksExplainedGaps m most text
    → (s : Spec) × (bytes : Bytes) × IsTextOf text s × WithNotes (TellsGaps s most answer) bytes × Writes m.sink bytes

-- The command acts so on two texts, and its files told these.
pub record Pairs (m : Meeting) (does : PairAction) (text other : Bytes) : Type 0 where
  pub file : Bytes
  pub second : Bytes
  pub command : command_of m.words ≡ Some (pair does file second)
  pub told : (m.file file).told ≡ Some text
  pub told_second : (m.file second).told ≡ Some other

-- Where a command on a specification and claims ends with Done, its texts read as these; the specification is certified, the claims are
-- inductive, and all are true throughout every run, so in each that there is of a well-formed event file; and that they are proved was written.
abbrev pub TellsProof : PairAction → Meeting → Status → Type 0
TellsProof does m answer = answer ≡ status.Done → (text other : Bytes) → Pairs m does text other
    → (s : Spec) × (cs : List Claim) × (bytes : Bytes) × IsTextOf text s × AreKept s other cs × IsProved s cs
    × paired.Shows does (λ report. report ≡ proved_text s cs) bytes × Writes m.sink bytes

-- so `prove`
abbrev pub Proves : Meeting → Status → Type 0
Proves = TellsProof pair_action.Prove

-- and `explain prove` the same, with comment lines behind it
abbrev pub ExplainsProof : Meeting → Status → Type 0
ExplainsProof = TellsProof pair_action.ExplainProve

-- Two specifications are certified, and every event file has the same first fault by both, and the same trace.
pub record AreAlike (s t : Spec) : Type 0 where
  pub one : Certified s
  pub two : Certified t
  pub traced : (content : Bytes) → AreTracedAlike s t program_limits content

-- Where a command that compares two specifications ends with Done, its texts read as two that are alike, and that was written.
abbrev pub TellsAlike : PairAction → Meeting → Status → Type 0
TellsAlike does m answer = answer ≡ status.Done → (text other : Bytes) → Pairs m does text other
    → (s : Spec) × (t : Spec) × (bytes : Bytes) × IsTextOf text s × IsTextOf other t × AreAlike s t
    × paired.Shows does (λ report. report ≡ no_difference) bytes × Writes m.sink bytes

-- so `same`
abbrev pub FindsAlike : Meeting → Status → Type 0
FindsAlike = TellsAlike pair_action.Same

-- and `explain same` the same, with comment lines behind it
abbrev pub ExplainsAlike : Meeting → Status → Type 0
ExplainsAlike = TellsAlike pair_action.ExplainSame

-- Where `demo` ends with Done, the summary of its units was written.
abbrev pub Demonstrates : Meeting → Status → Type 0
Demonstrates m answer = answer ≡ status.Done → (n : ℕ) → command_of m.words ≡ Some (demo n) → (bytes : Bytes) × IsSummary n bytes × Writes m.sink bytes

-- Of a file that the command does not name nothing is read: its reach stays, where it is told.
abbrev pub LeavesOthers : Meeting → Type 0
LeavesOthers m = (file : Bytes) → ((c : Command) → command_of m.words ≡ Some c → Names c file → ⊥) → (m.file file).reach_after ≡ (m.file file).reach

-- Of the event file, where it is another than the specification, nothing is read but to follow it by a certified specification.
abbrev pub LeavesEvents : Meeting → Status → Type 0
LeavesEvents m answer = (does : EventAction) (file events : Bytes) → command_of m.words ≡ Some (follow does file events) → file ≢ events
    → ((m.file events).reach_after ≡ (m.file events).reach) ⊎ IsFollowed (m.file file) (m.file events) answer

-- Of the second of two files, where it is another than the first, nothing is read but where the text of the first is kept.
abbrev pub LeavesSecond : Meeting → Type 0
LeavesSecond m = (does : PairAction) (file other : Bytes) → command_of m.words ≡ Some (pair does file other) → file ≢ other
    → ((m.file other).reach_after ≡ (m.file other).reach) ⊎ IsKeptFile (m.file file)

-- the statuses with which `check`, `explain`, `gaps`, `explain gaps`, `prove`, `explain prove`, `same` and `explain same` can end
abbrev pub judged_answers : List Status
judged_answers = status.Done ∷ status.Refused ∷ status.SpecFault ∷ status.TooLong ∷ status.ReadFault ∷ status.WriteFault ∷ status.NoMemory ∷ []

-- those with which `format` and `migrate` can
abbrev pub layout_answers : List Status
layout_answers = status.Done ∷ status.SpecFault ∷ status.TooLong ∷ status.ReadFault ∷ status.WriteFault ∷ status.NoMemory ∷ []

-- the statuses with which a command can end
abbrev pub answers_of : Command → List Status
answers_of (act action.Check _) = judged_answers
answers_of (act action.Explain _) = judged_answers
answers_of (act action.Format _) = layout_answers
answers_of (act action.Migrate _) = layout_answers
answers_of (act (action.Gaps _) _) = judged_answers
answers_of (act (action.ExplainGaps _) _) = judged_answers
answers_of (follow _ _ _) = status.EventFault ∷ judged_answers
answers_of (pair _ _ _) = judged_answers
answers_of (demo _) = status.Done ∷ status.WriteFault ∷ status.NoMemory ∷ []
answers_of version = status.Done ∷ status.WriteFault ∷ []

-- A command ends with one of its statuses, whether its files tell what they hold or not; and with a fault of the event file only where it
-- followed it by a certified specification.
pub record FitsCommand (m : Meeting) (answer : Status) : Type 0 where
  pub command : (c : Command) → command_of m.words ≡ Some c → Contains (answers_of c) answer
  pub event_fault : answer ≡ status.EventFault → (does : EventAction) (file events : Bytes) → command_of m.words ≡ Some (follow does file events)
      → IsFollowed (m.file file) (m.file events) answer

-- The counts of refused reads and writes do not fall.
pub record CountsRise (m : Meeting) : Type 0 where
  pub reads : (file : Bytes) → (m.file file).refusals ≤ (m.file file).refusals_after
  pub writes : m.sink.refusals ≤ m.sink.refusals_after

-- All that `run` promises; the headline is in the fields `certified`, `refused`, `traced`, `covered`, `cover_explained`, `gapped`,
-- `gaps_explained`, `proved`, `proof_explained`, `alike`, `same_explained` and `demonstrated`.
pub record Runs (m : Meeting) (answer : Status) : Type 0 where
  pub answered : IsAnswered m answer
  pub usage : IsUsage m answer
  pub no_memory : answer ≡ status.NoMemory → WritesNothing m.sink
  pub read_fault : TellsReadFault m answer
  pub write_fault : answer ≡ status.WriteFault → WriteRefused m.sink
  pub prefix : LeavesPrefix m answer
  pub complete : IsComplete m answer
  pub certified : Certifies m answer
  pub refused : Refuses m answer
  pub traced : Traces m answer
  pub covered : Covers m answer
  pub cover_explained : ExplainsCover m answer
  pub gapped : Tabulates m answer
  pub gaps_explained : ExplainsGaps m answer
  pub proved : Proves m answer
  pub proof_explained : ExplainsProof m answer
  pub alike : FindsAlike m answer
  pub same_explained : ExplainsAlike m answer
  pub demonstrated : Demonstrates m answer
  pub others : LeavesOthers m
  pub unread_events : LeavesEvents m answer
  pub unread_second : LeavesSecond m
  pub fits : FitsCommand m answer
  pub counts : CountsRise m
