-- A reader of the lines of a file, and when it fits what the file holds.
use Rattle.std.specs.Prelude.{◌≡◌, ◌≢◌, ℕ, ◌+◌, ◌<◌, ◌≤◌, ◌⊎◌, List, [], length, take, drop, find, min, Option, Some, None, IfSome, is_some, IsTrue, if◌then◌else◌, ◌==◌, nat_lt, take_while}
use Rattle.rsml_meaning.specs.EventLines.{Bytes}
use Rattle.rsml_meaning.specs.EventFiles.{Line, lines_of, end_of, without_return, lines_before, Limits, program_limits, is_long, is_cut}
use Rattle.event_file.specs.Fronts.{width}
use Rattle.event_file.specs.declared.limits.Limits.{Limits as GivenLimits}
use Rattle.event_file.specs.declared.next.Next.{Next}
use Rattle.event_file.specs.declared.next.Next.TheVariants as next

-- Places in a file.

-- the line that begins at an offset, if one does
unfoldable pub line_at : Bytes → ℕ → Option Line
line_at content at = find (λ l. l.start == at) (lines_of content)

-- a line begins at the offset, or the file ends there
abbrev pub Begins : Bytes → ℕ → Type 0
Begins content at = IsTrue (is_some (line_at content at)) ⊎ (at ≡ length content)

-- the lines that begin before an offset
unfoldable pub lines_ahead : ℕ → Bytes → List Line
lines_ahead at content = take_while (λ l. nat_lt l.start at) (lines_of content)

-- what comes at an offset: the end, or a line that is too long, that the limit of the file cuts, or that is sound
abbrev pub next_of : Limits → ℕ → Option Line → Next
next_of limits size None = next.End
next_of limits size (Some line) =
    if is_long limits line then next.LineTooLong else if is_cut limits size line then next.TooLong else next.Line

-- the same for the line that begins at an offset of a file
abbrev pub next_at : Limits → Bytes → ℕ → Next
next_at limits content at = next_of limits (length content) (line_at content at)

-- A reader.

pub record Reading : Type 0 where
  -- how many bytes a line and the file may have
  pub limits : Limits
  -- the offset at which the next line begins
  pub at : ℕ
  -- the bytes that it holds, which are those from that offset on
  pub held : Bytes
  -- the number of the last line, counted from 1
  pub number : ℕ
  -- the last line
  pub line : Bytes
  -- the answer of each further call, once it is settled
  pub settled : Option Next

-- the limits that a program gives
abbrev pub limits_of : GivenLimits → Limits
limits_of limits = record { line = limits.line; file = limits.file }

-- neither is greater than that of the program
abbrev pub IsAllowed : GivenLimits → Type 0
IsAllowed limits = (limits.line ≤ program_limits.line) × (limits.file ≤ program_limits.file)

-- a reader that has read nothing
abbrev pub new_reading : Limits → Reading
new_reading limits = record { limits = limits; at = 0; held = []; number = 0; line = []; settled = None }

-- how many bytes of the file it took
abbrev pub taken : Reading → ℕ
taken r = r.at + length r.held

-- it holds a whole line, which is not too long
abbrev pub HoldsLine : Reading → Type 0
HoldsLine r = (width r.held < length r.held) × (width r.held ≤ r.limits.line)

-- one more for a line that is too long
abbrev pub long_lines : Option Next → ℕ
long_lines (Some next.LineTooLong) = 1
long_lines _ = 0

-- each line whose LF stands before an offset begins before the reader's, and no other
abbrev pub GaveAllBefore : Bytes → Reading → ℕ → Type 0
GaveAllBefore content r k = lines_before k content ≡ lines_ahead r.at content

-- The answer of each further call is right for what the file holds:
abbrev pub IsRight : Bytes → Reading → Next → Type 0
-- a read was refused when all lines were given whose LF stands among the bytes taken
IsRight content r next.ReadFault = GaveAllBefore content r (taken r)
-- no line is given twice
IsRight content r next.Line = ⊥
-- each other is what comes at the offset
IsRight content r next.End = next_at r.limits content r.at ≡ next.End
IsRight content r next.LineTooLong = next_at r.limits content r.at ≡ next.LineTooLong
IsRight content r next.TooLong = next_at r.limits content r.at ≡ next.TooLong

-- The reader fits what the file holds.
pub record Fits (content : Bytes) (r : Reading) : Type 0 where
  -- a line begins at its offset, or the file ends there
  pub begins : Begins content r.at
  -- the bytes that it holds are those of the file from that offset on
  pub holds : r.held ≡ take (length r.held) (drop r.at content)
  -- its number counts the lines before that offset, and a line there that it found too long
  pub counts : r.number ≡ length (lines_ahead r.at content) + long_lines r.settled
  -- each line before that offset ends there or before, while nothing is settled
  pub whole : r.settled ≡ None → GaveAllBefore content r r.at
  -- its answer, once settled, is right
  pub right : IfSome r.settled (IsRight content r)

-- The reader went over the line that begins at an offset, and has it.
pub record GivesLine (content : Bytes) (at : ℕ) (r : Reading) : Type 0 where
  pub line : Line
  pub there : line_at content at ≡ Some line
  pub number : r.number ≡ line.number
  pub bytes : r.line ≡ without_return line.bytes
  pub after : r.at ≡ min (end_of line) (length content)

-- The line that begins at an offset is too long, and the reader has its number.
pub record FindsLong (content : Bytes) (at : ℕ) (r : Reading) : Type 0 where
  pub line : Line
  pub there : line_at content at ≡ Some line
  pub number : r.number ≡ line.number
  pub long : IsTrue (is_long r.limits line)

-- An answer, and the reader after it, are right for what the file holds.
pub record Answers (content : Bytes) (old : Reading) (answer : Next) (new : Reading) : Type 0 where
  pub fits : Fits content new
  -- but for a refused read it is what comes at the offset
  pub comes : answer ≢ next.ReadFault → answer ≡ next_at old.limits content old.at
  pub line : answer ≡ next.Line → GivesLine content old.at new
  pub long : answer ≡ next.LineTooLong → FindsLong content old.at new
