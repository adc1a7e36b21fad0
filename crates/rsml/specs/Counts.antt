-- Which number a word tells.
use Rattle.std.specs.Prelude.{ℕ, ◌&&◌, min, Option, Some, None, if◌then◌else◌, nat_le, option_and_then}
use Rattle.rsml_meaning.specs.EventLines.{Bytes, digits_number}

-- the number, or 100 in place of a greater one
abbrev pub most : ℕ → ℕ
most n = min n 100

-- the number, if it is from 1 to a limit
abbrev pub within : ℕ → ℕ → Option ℕ
within limit n = if nat_le 1 n && nat_le n limit then Some n else None

-- the number that one or more digits write, from 1 to a limit
abbrev pub count_of : ℕ → Bytes → Option ℕ
count_of limit word = option_and_then (within limit) (digits_number word)
