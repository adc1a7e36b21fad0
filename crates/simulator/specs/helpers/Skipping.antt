-- A reader that goes over lines that are skipped.
use Rattle.std.specs.Prelude.{◌≡◌, ◌≢◌, true, false, List, ◌++◌, length}
use Rattle.rsml_meaning.specs.Words.{Each}
use Rattle.rsml_meaning.specs.EventLines.{Bytes, is_skipped}
use Rattle.rsml_meaning.specs.EventFiles.{Line, Limits, without_return, is_long, is_cut}
use Rattle.event_file.specs.Reading.{Reading, Fits, Answers, lines_ahead}
use Rattle.event_file.specs.declared.next.Next.{Next}
use Rattle.event_file.specs.declared.next.Next.TheVariants as next

-- the line is skipped, and the limits allow it
pub record IsPassed (limits : Limits) (content : Bytes) (l : Line) : Type 0 where
  pub skipped : is_skipped (without_return l.bytes) ≡ true
  pub not_long : is_long limits l ≡ false
  pub not_cut : is_cut limits (length content) l ≡ false

-- A reader that goes on where another was: it fits the file too, and the lines between are skipped.
pub record Passes (content : Bytes) (r mid : Reading) : Type 0 where
  pub limits : mid.limits ≡ r.limits
  pub fits : Fits content mid
  pub lines : List Line
  pub ahead : lines_ahead mid.at content ≡ lines_ahead r.at content ++ lines
  pub passed : Each (IsPassed r.limits content) lines

-- The next answer behind lines that are skipped.
pub record AnswersBehind (content : Bytes) (r : Reading) (answer : Next) (r' : Reading) : Type 0 where
  pub mid : Reading
  pub passes : Passes content r mid
  pub answers : Answers content mid answer r'
  pub stays : answer ≢ next.Line → r'.at ≡ mid.at
