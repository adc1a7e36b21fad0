-- What a command that follows an event file by a certified specification ends with and writes, for what the file holds.
use Rattle.std.specs.Prelude.{◌≡◌, ℕ, ◌≤◌, List, ◌++◌, length, None, codes, decimal}
use Rattle.rsml_syntax.specs.declared.syntax.Spec.{Spec}
use Rattle.rsml_meaning.specs.Words.{Each}
use Rattle.rsml_meaning.specs.EventLines.{Bytes, LineRule, E1, E2, E3, E4, E5, E6, E7}
use Rattle.rsml_meaning.specs.EventFiles.{Limits, FileFault, long_line, broken_line, long_file, IsWellFormed, IsFirstFault, fault_at, lines_of, lines_before, sound_lines}
use Rattle.rsml_meaning.specs.Runs.{Reaction, IsRun}
use Rattle.rsml_meaning.specs.Texts.{text_line}
use Rattle.rsml_meaning.specs.Trace.{trace_text, whole_trace}
use Rattle.event_lines.specs.declared.line_fault.LineFault.{LineFault}
use Rattle.event_lines.specs.declared.line_fault.LineFault.TheVariants as fault
use Rattle.simulator.specs.declared.sim_end.SimEnd.{SimEnd}
use Rattle.simulator.specs.declared.sim_end.SimEnd.TheVariants as end

-- the number of a rule, as in `E6`
abbrev pub rule_number : LineRule → ℕ
rule_number E1 = 1
rule_number E2 = 2
rule_number E3 = 3
rule_number E4 = 4
rule_number E5 = 5
rule_number E6 = 6
rule_number E7 = 7

-- the fault that says a rule to be broken
abbrev pub fault_of : LineRule → LineFault
fault_of E1 = fault.NotUtf8
fault_of E2 = fault.UnknownInterface
fault_of E3 = fault.BadIndex
fault_of E4 = fault.WrongField
fault_of E5 = fault.ExtraWord
fault_of E6 = fault.NotAValue
fault_of E7 = fault.OutOfRange

-- the line of a fault of an event file
abbrev pub fault_line : FileFault → Bytes
fault_line (long_line n) = text_line (codes "fault line " ++ (decimal n ++ codes " long"))
fault_line (broken_line n rule) = text_line (codes "fault line " ++ (decimal n ++ (codes " E" ++ decimal (rule_number rule))))
fault_line long_file = text_line (codes "fault long")

-- the line of a read that was refused
abbrev pub read_line : Bytes
read_line = text_line (codes "fault read")

-- the end that a fault of the event file makes
abbrev pub end_of : FileFault → SimEnd
end_of (long_line n) = end.LineTooLong n
end_of (broken_line n rule) = end.LineFault n (fault_of rule)
end_of long_file = end.TooLong

-- What a command writes of runs: of one of a well-formed event file, and of one of the lines before a fault.
pub record RunTexts : Type 0 where
  pub whole : Spec → List Reaction → Bytes
  pub before : Spec → List Reaction → Bytes

-- those of a simulation: the trace, with its last line and without
abbrev pub traces : RunTexts
traces = record { whole = whole_trace; before = trace_text }

-- What it ends with, and what it writes. Of a well-formed event file it is the text of a run; of another that of a run of the lines before
-- the first fault, and the line of this fault.
pub data Output (texts : RunTexts) (s : Spec) (limits : Limits) (content : Bytes) (ended : SimEnd) (bytes : Bytes) : Type 0 where
  done : (rs : List Reaction) → IsWellFormed s limits content → IsRun s (lines_of content) rs → ended ≡ end.Ended (length rs)
      → bytes ≡ texts.whole s rs → Output texts s limits content ended bytes
  faulty : (f : FileFault) (rs : List Reaction) → IsFirstFault s limits content f → IsRun s (sound_lines s limits content) rs → ended ≡ end_of f
      → bytes ≡ texts.before s rs ++ fault_line f → Output texts s limits content ended bytes

-- What is written where a read is refused when so many bytes of the event file have been read: the text of a run of the lines whose LF
-- stands before that, none of which has a fault, and a line that tells of the read.
pub record ReadOutput (texts : RunTexts) (s : Spec) (limits : Limits) (content : Bytes) (k : ℕ) (bytes : Bytes) : Type 0 where
  pub within : k ≤ length content
  pub sound : Each (λ l. fault_at s limits (length content) l ≡ None) (lines_before k content)
  pub run : List Reaction
  pub is_run : IsRun s (lines_before k content) run
  pub text : bytes ≡ texts.before s run ++ read_line
