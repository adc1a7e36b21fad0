-- Reading numbers, sizes and mentions.
use Rattle.std.specs.Prelude.{Bool, true, false, Option, Some, None}
use Rattle.rsml_syntax.specs.declared.token.Mark.TheVariants as marks
use Rattle.rsml_syntax.specs.declared.token.Word.TheVariants as words
use Rattle.rsml_syntax.specs.declared.syntax.Amount.{Amount}
use Rattle.rsml_syntax.specs.declared.syntax.Amount.TheVariants as amounts
use Rattle.rsml_syntax.specs.declared.syntax.Index.{Index}
use Rattle.rsml_syntax.specs.declared.syntax.Index.TheVariants as indices
use Rattle.rsml_syntax.specs.declared.syntax.Initial.{Initial}
use Rattle.rsml_syntax.specs.declared.syntax.Initial.TheVariants as initials
use Rattle.rsml_syntax.specs.declared.syntax.Mention.{Mention}
use Rattle.rsml_syntax.specs.declared.syntax.Signed.{Signed}
use Rattle.rsml_parser.specs.Parsers.{Parser, ◌>>=◌, ◌>>◌, pure, choose, sees_mark, sees_name, sees_number, word, mark, name, number}

-- a minus, or nothing
abbrev pub minus : Parser Bool
minus = choose (sees_mark marks.Minus) (mark marks.Minus >> pure true) (pure false)

-- a number, maybe with a minus before it
abbrev pub signed : Parser Signed
signed = do
  m ← minus
  n ← number
  pure (record { minus = m; digits = n })

-- a number or a name
abbrev pub amount : Parser Amount
amount = choose sees_number (number >>= (λ n. pure (amounts.Number n))) (name >>= (λ n. pure (amounts.Name n)))

-- an amount in brackets
abbrev pub bracketed_amount : Parser Amount
bracketed_amount = do
  mark marks.OpenBracket
  a ← amount
  mark marks.CloseBracket
  pure a

-- an amount in brackets, or nothing
abbrev pub size : Parser (Option Amount)
size = choose (sees_mark marks.OpenBracket) (bracketed_amount >>= (λ a. pure (Some a))) (pure None)

-- a number, a name, or `this`
abbrev pub index : Parser Index
index = choose sees_number (number >>= (λ n. pure (indices.Number n)))
    (choose sees_name (name >>= (λ n. pure (indices.Name n))) (word words.This >> pure indices.This))

-- an index in brackets
abbrev pub bracketed_index : Parser Index
bracketed_index = do
  mark marks.OpenBracket
  i ← index
  mark marks.CloseBracket
  pure i

-- an index in brackets, or nothing
abbrev pub indexed : Parser (Option Index)
indexed = choose (sees_mark marks.OpenBracket) (bracketed_index >>= (λ i. pure (Some i))) (pure None)

-- a name, maybe with an index
abbrev pub mention : Parser Mention
mention = do
  n ← name
  i ← indexed
  pure (record { name = n; index = i })

-- a name, or a number with its sign
abbrev pub initial : Parser Initial
initial = choose sees_name (name >>= (λ n. pure (initials.Name n))) (signed >>= (λ s. pure (initials.Number s)))
