-- The lines of an event file, when it is well-formed, and its first fault.
use Rattle.std.specs.Prelude.{◌≡◌, ℕ, suc, ◌+◌, ◌<◌, ◌≤◌, Bool, true, false, ◌&&◌, ◌⊎◌, List, [], ◌∷◌, ◌++◌, length, Option, Some, None, if◌then◌else◌, ◌==◌, nat_lt, nat_le, is_none, filter_map, take_while}
use Rattle.std.specs.Str.{byte}
use Rattle.rsml_syntax.specs.declared.syntax.Spec.{Spec}
use Rattle.rsml_meaning.specs.Words.{first_some, Each}
use Rattle.rsml_meaning.specs.EventLines.{Bytes, pieces, is_skipped, LineRule, Message, Outcome, breaks, tells, read_line}

-- Lines.

-- the pieces without an empty one at the end
abbrev pub without_empty_last : List Bytes → List Bytes
without_empty_last [] = []
without_empty_last ([] ∷ []) = []
without_empty_last (line ∷ lines) = line ∷ without_empty_last lines

-- what stands between two LF, before the first, and after the last where that is not empty
abbrev pub lines : Bytes → List Bytes
lines file = without_empty_last (pieces (λ c. c == byte "\n") file)

-- A line of a file: its number, counted from 1, the offset of its first byte, and its bytes without the LF.
pub record Line : Type 0 where
  pub number : ℕ
  pub start : ℕ
  pub bytes : Bytes

-- lines with their numbers and offsets, from a number and an offset on
abbrev pub placed_from : ℕ → ℕ → List Bytes → List Line
placed_from number start [] = []
placed_from number start (line ∷ lines) = record { number = number; start = start; bytes = line } ∷ placed_from (suc number) (start + length line + 1) lines

-- the lines of a file, with their numbers and offsets
abbrev pub lines_of : Bytes → List Line
lines_of file = placed_from 1 0 (lines file)

-- the offset after the line's LF
abbrev pub end_of : Line → ℕ
end_of line = line.start + length line.bytes + 1

-- the bytes without one CR at the end
abbrev pub without_return : Bytes → Bytes
without_return [] = []
without_return (c ∷ []) = if c == byte "\r" then [] else c ∷ []
without_return (c ∷ d ∷ cs) = c ∷ without_return (d ∷ cs)

-- what a line says; nothing where it is skipped
abbrev pub outcome : Spec → Line → Option Outcome
outcome s line = if is_skipped (without_return line.bytes) then None else Some (read_line s (without_return line.bytes))

-- the rule that a line breaks
abbrev pub rule_broken : Spec → Line → Option LineRule
rule_broken s line = elim (outcome s line) [ Some (breaks rule) ↦ Some rule | _ ↦ None ]

-- the event that a line tells
abbrev pub message : Spec → Line → Option Message
message s line = elim (outcome s line) [ Some (tells m) ↦ Some m | _ ↦ None ]

-- Faults.

-- How many bytes a line, its LF not counted, and a file may have.
pub record Limits : Type 0 where
  pub line : ℕ
  pub file : ℕ

-- the limits of the program
abbrev pub program_limits : Limits
program_limits = record { line = 4096; file = 4294967296 }

-- The file keeps the limits, and each line that is not skipped keeps E1 to E7.
pub record IsWellFormed (s : Spec) (limits : Limits) (content : Bytes) : Type 0 where
  pub short : length content ≤ limits.file
  pub short_lines : Each (λ l. length l.bytes ≤ limits.line) (lines_of content)
  pub kept : Each (λ l. rule_broken s l ≡ None) (lines_of content)

-- a line that is too long, a line that breaks a rule, each with its number, or a file that goes on where no whole line is left
pub data FileFault : Type 0 where
  long_line : ℕ → FileFault
  broken_line : ℕ → LineRule → FileFault
  long_file : FileFault

-- the line has more bytes than it may
abbrev pub is_long : Limits → Line → Bool
is_long limits line = nat_lt limits.line (length line.bytes)

-- the file has a byte at the limit's offset, and the line with its LF does not end before that
abbrev pub is_cut : Limits → ℕ → Line → Bool
is_cut limits size line = nat_lt limits.file size && nat_lt limits.file (end_of line)

-- the fault at a line of a file with so many bytes
abbrev pub fault_at : Spec → Limits → ℕ → Line → Option FileFault
fault_at s limits size line = elim (is_long limits line) [
  | true ↦ Some (long_line line.number)
  | false ↦ elim (is_cut limits size line) [
    | true ↦ Some long_file
    | false ↦ elim (rule_broken s line) [ Some rule ↦ Some (broken_line line.number rule) | None ↦ None ]
  ]
]

-- the fault of the first line that has one
abbrev pub first_fault : Spec → Limits → Bytes → Option FileFault
first_fault s limits content = first_some (fault_at s limits (length content)) (lines_of content)

-- What the fault at a line of a file with so many bytes says:
abbrev pub IsFaultAt : Spec → Limits → ℕ → Line → FileFault → Type 0
-- the line has more bytes than it may
IsFaultAt s limits size line (long_line n) = (n ≡ line.number) × (limits.line < length line.bytes)
-- it has not, the file has a byte at the limit's offset, and the line with its LF does not end before that
IsFaultAt s limits size line long_file = (length line.bytes ≤ limits.line) × (limits.file < size) × (limits.file < end_of line)
-- none of these, and the line breaks this rule
IsFaultAt s limits size line (broken_line n rule) =
    (n ≡ line.number) × (length line.bytes ≤ limits.line) × ((size ≤ limits.file) ⊎ (end_of line ≤ limits.file)) × (rule_broken s line ≡ Some rule)

-- The fault of a line, before which no line has one.
pub record IsFirstFault (s : Spec) (limits : Limits) (content : Bytes) (fault : FileFault) : Type 0 where
  pub before : List Line
  pub line : Line
  pub after : List Line
  pub among : lines_of content ≡ before ++ (line ∷ after)
  pub is_fault : IsFaultAt s limits (length content) line fault
  pub none_before : Each (λ l. (other : FileFault) → IsFaultAt s limits (length content) l other → ⊥) before

-- the lines before the first fault
abbrev pub sound_lines : Spec → Limits → Bytes → List Line
sound_lines s limits content = take_while (λ l. is_none (fault_at s limits (length content) l)) (lines_of content)

-- the lines whose LF stands before the offset k, which is at most the length of the file
abbrev pub lines_before : ℕ → Bytes → List Line
lines_before k content = take_while (λ l. nat_le (end_of l) k) (lines_of content)

-- the events that the lines tell, in order
abbrev pub messages : Spec → List Line → List Message
messages s ls = filter_map (message s) ls
