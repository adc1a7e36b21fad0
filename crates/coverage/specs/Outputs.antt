-- What counting an event file of a certified specification comes to, and what is written of it.
use Rattle.std.specs.Prelude.{◌≡◌, ℕ, List, length}
use Rattle.rsml_syntax.specs.declared.syntax.Spec.{Spec}
use Rattle.rsml_meaning.specs.EventLines.{Bytes}
use Rattle.rsml_meaning.specs.EventFiles.{Limits, FileFault, IsWellFormed, IsFirstFault, lines_of, sound_lines}
use Rattle.rsml_meaning.specs.Runs.{Reaction, IsRun, rounds_in}
use Rattle.simulator.specs.Outputs.{ReadOutput, end_of, read_line}
use Rattle.simulator.specs.Ends.{last_line}
use Rattle.simulator.specs.declared.sim_end.SimEnd.{SimEnd}
use Rattle.simulator.specs.declared.sim_end.SimEnd.TheVariants as end
use Rattle.coverage.specs.Coverage.{Coverage, coverage}
use Rattle.coverage.specs.Text.{covers, coverage_text}

-- The file is well-formed and has so many events, and this is what the rounds of its run cover.
pub record IsRunCounted (s : Spec) (limits : Limits) (content : Bytes) (events : ℕ) (c : Coverage) : Type 0 where
  pub formed : IsWellFormed s limits content
  pub run : List Reaction
  pub is_run : IsRun s (lines_of content) run
  pub count : events ≡ length run
  pub counted : c ≡ coverage s (rounds_in run)

-- It ends with the first fault of the file, and the lines before have a run.
pub record EndsAtFault (s : Spec) (limits : Limits) (content : Bytes) (ended : SimEnd) : Type 0 where
  pub fault : FileFault
  pub first : IsFirstFault s limits content fault
  pub run : List Reaction
  pub is_run : IsRun s (sound_lines s limits content) run
  pub ends : ended ≡ end_of fault

-- what counting a file comes to of which so many bytes were read, by how it ends
abbrev pub IsCounted : Spec → Limits → Bytes → ℕ → SimEnd → Coverage → Type 0
IsCounted s limits content k (end.Ended events) c = IsRunCounted s limits content events c
IsCounted s limits content k end.ReadFault c = ReadOutput covers s limits content k read_line
IsCounted s limits content k end.WriteFault c = ⊥
IsCounted s limits content k ended c = EndsAtFault s limits content ended

-- what is written, by what was counted and how it ends
abbrev pub text_of : Coverage → SimEnd → Bytes
text_of c (end.Ended events) = coverage_text c events
text_of c ended = last_line ended
