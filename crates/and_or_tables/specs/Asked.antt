-- The rows of a table whose truths are the bits of a word.
use Rattle.std.specs.Prelude.{ℕ, ◌==◌, Bool, List, length, map}
use Rattle.std.specs.Int.{bit_at}
use Rattle.std.specs.List.{zip}
use Rattle.rsml_syntax.specs.declared.syntax.Cell.{Cell}
use Rattle.rsml_syntax.specs.rules.Tables.{TableRow, below}

-- bit k of a word, counted from 0
abbrev pub bit : ℕ → ℕ → Bool
bit word k = bit_at word k == 1

-- bit k is the truth of row k + 1, whose cells stand in the list
abbrev pub asked : ℕ → List (List Cell) → List TableRow
asked word rows = zip (map (bit word) (below (length rows))) rows
