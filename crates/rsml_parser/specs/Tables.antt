-- Reading tables and guards.
use Rattle.std.specs.Prelude.{List}
use Rattle.rsml_syntax.specs.declared.token.Mark.TheVariants as marks
use Rattle.rsml_syntax.specs.declared.token.Word.TheVariants as words
use Rattle.rsml_syntax.specs.declared.syntax.Cell.{Cell}
use Rattle.rsml_syntax.specs.declared.syntax.Cell.TheVariants as cells
use Rattle.rsml_syntax.specs.declared.syntax.Guard.{Guard}
use Rattle.rsml_syntax.specs.declared.syntax.Guard.TheVariants as guards
use Rattle.rsml_syntax.specs.declared.syntax.Row.{Row}
use Rattle.rsml_parser.specs.Phrases.{phrase}
use Rattle.rsml_parser.specs.Parsers.{Parser, ◌>>=◌, ◌>>◌, pure, choose, sees_word, word, mark, until}

-- `T`, `F` or `.`
abbrev pub cell : Parser Cell
cell = choose (sees_word words.T) (word words.T >> pure cells.T)
    (choose (sees_word words.F) (word words.F >> pure cells.F) (mark marks.Dot >> pure cells.Dot))

-- a phrase, `|`, its cells, and `;`
abbrev pub row : Parser Row
row = do
  p ← phrase
  mark marks.Bar
  cs ← until marks.Semicolon cell
  pure (record { phrase = p; cells = cs })

-- rows in braces
abbrev pub table : Parser (List Row)
table = mark marks.OpenBrace >> until marks.CloseBrace row

-- `always`, or a table
abbrev pub guard : Parser Guard
guard = choose (sees_word words.Always) (word words.Always >> pure guards.Always) (table >>= (λ rows. pure (guards.Table rows)))

-- `when`, and a guard
abbrev pub when_guard : Parser Guard
when_guard = word words.When >> guard
