-- A line of bytes that are all held.
use Rattle.std.specs.Prelude.{◌≡◌, ℕ, ◌-◌, ◌<◌, ◌≤◌, length, take, drop, min, Some}
use Rattle.rsml_meaning.specs.EventLines.{Bytes}
use Rattle.rsml_meaning.specs.EventFiles.{Line, end_of, without_return}
use Rattle.event_file.specs.Reading.{line_at}
use Rattle.event_file.specs.declared.piece.Piece.{Piece}
use Rattle.event_file.specs.declared.piece.Piece.TheVariants as piece

-- The line that begins at an offset has at most so many bytes; without its CR it ends there, and the next begins there.
pub record IsLine (content : Bytes) (most at stop next : ℕ) : Type 0 where
  pub line : Line
  pub there : line_at content at ≡ Some line
  pub short : length line.bytes ≤ most
  pub forward : at ≤ stop
  pub inside : stop ≤ length content
  pub bytes : take (stop - at) (drop at content) ≡ without_return line.bytes
  pub after : next ≡ min (end_of line) (length content)

-- The line that begins at an offset has more than so many bytes.
pub record IsLongLine (content : Bytes) (most at : ℕ) : Type 0 where
  pub line : Line
  pub there : line_at content at ≡ Some line
  pub long : most < length line.bytes

-- what a file has at an offset
abbrev pub IsPiece : Bytes → ℕ → ℕ → Piece → Type 0
IsPiece content most at (piece.Line stop next) = IsLine content most at stop next
IsPiece content most at piece.LineTooLong = IsLongLine content most at
IsPiece content most at piece.End = at ≡ length content
