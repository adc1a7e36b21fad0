-- Laws of specifications of one frame. Each is the contract of a function with no body.
use Rattle.std.specs.Prelude.{◌≡◌, List, length}
use Rattle.std.specs.List.{AllZip}
use Rattle.rsml_syntax.specs.declared.syntax.Spec.{Spec}
use Rattle.rsml_syntax.specs.limits.Checked.{IsChecked}
use Rattle.rsml_meaning.specs.EventLines.{Bytes}
use Rattle.rsml_meaning.specs.EventFiles.{Line, Limits, first_fault, sound_lines}
use Rattle.rsml_meaning.specs.Runs.{Reaction, IsRun}
use Rattle.rsml_meaning.specs.Trace.{trace_text}
use Rattle.rsml_meaning.specs.Certified.{Certified}
use Rattle.spec_frames.specs.Frames.{HaveSameFrame}
use Rattle.equal_frames.specs.Alike.{HaveSameWorlds, opened, AreTracedAlike}
use Rattle.equal_frames.specs.Differences.{all_members, NoDifference, Difference, IsDifference}

-- specifications of one frame have the same worlds
abbrev pub FramesGiveWorlds : Type 0
FramesGiveWorlds = (s t : Spec) → IsChecked s → IsChecked t → HaveSameFrame s t → HaveSameWorlds s t

-- specifications of one frame have the same members but for guards, place by place
abbrev pub FramesGiveMembers : Type 0
FramesGiveMembers = (s t : Spec) → IsChecked s → IsChecked t → HaveSameFrame s t → AllZip (λ m n. opened m ≡ opened n) (all_members s) (all_members t)

-- there is one first difference at most
abbrev pub DifferenceIsOne : Type 0
DifferenceIsOne = (s t : Spec) (d e : Difference) → IsDifference s t d → IsDifference s t e → d ≡ e

-- specifications of one frame find the same first fault in every event file, and the same lines before it
abbrev pub FramesReadAlike : Type 0
FramesReadAlike = (s t : Spec) → IsChecked s → IsChecked t → HaveSameFrame s t → (limits : Limits) (content : Bytes)
    → (first_fault s limits content ≡ first_fault t limits content) × (sound_lines s limits content ≡ sound_lines t limits content)

-- A run of the second of two specifications on lines of an event file that is written as this run of the first.
pub record HasLikeRun (s t : Spec) (lines : List Line) (rs : List Reaction) : Type 0 where
  pub run : List Reaction
  pub is_run : IsRun t lines run
  pub trace : trace_text s rs ≡ trace_text t run
  pub events : length rs ≡ length run

-- where no member of two specifications of one frame differs, each run of the first is written as some run of the second; this rests on
-- no certificate
abbrev pub EqualGuardsMoveRuns : Type 0
EqualGuardsMoveRuns = (s t : Spec) → IsChecked s → IsChecked t → HaveSameFrame s t → NoDifference s t
    → (lines : List Line) (rs : List Reaction) → IsRun s lines rs → HasLikeRun s t lines rs

-- where the first of two specifications of one frame is certified and no member differs, so is the second, and every event file is
-- traced alike
abbrev pub EqualGuardsTraceAlike : Type 0
EqualGuardsTraceAlike = (s t : Spec) → IsChecked s → IsChecked t → HaveSameFrame s t → Certified s → NoDifference s t
    → Certified t × ((limits : Limits) (content : Bytes) → AreTracedAlike s t limits content)
