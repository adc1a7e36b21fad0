-- What one answer makes of a reader.
use Rattle.std.specs.Prelude.{ℕ, ◌+◌, take, drop, Some}
use Rattle.rsml_meaning.specs.EventFiles.{without_return}
use Rattle.event_file.specs.Reading.{Reading}
use Rattle.event_file.specs.declared.next.Next.{Next}

-- the reader after it settled its answer
abbrev pub settle : Next → Reading → Reading
settle answer r = record r { settled = Some answer }

-- the reader after it gave a line of so many bytes, and went over so many
abbrev pub give : ℕ → ℕ → Reading → Reading
give width after r = record r {
  at = r.at + after;
  held = drop after r.held;
  number = r.number + 1;
  line = without_return (take width r.held);
}

-- the reader after it counted the line that is too long
abbrev pub count_long : Reading → Reading
count_long r = record r { number = r.number + 1 }
