-- Reading sums and relations.
use Rattle.std.specs.Prelude.{Bool, true, false, ◌||◌, [], ◌∷◌}
use Rattle.rsml_syntax.specs.grammar.Layout.{is_mark}
use Rattle.rsml_syntax.specs.declared.token.Mark.TheVariants as marks
use Rattle.rsml_syntax.specs.declared.token.Token.{Token}
use Rattle.rsml_syntax.specs.declared.token.Word.TheVariants as words
use Rattle.rsml_syntax.specs.declared.syntax.Operand.{Operand}
use Rattle.rsml_syntax.specs.declared.syntax.Operand.TheVariants as operands
use Rattle.rsml_syntax.specs.declared.syntax.Relation.{Relation}
use Rattle.rsml_syntax.specs.declared.syntax.Relation.TheVariants as relations
use Rattle.rsml_syntax.specs.declared.syntax.Sum.{Sum}
use Rattle.rsml_syntax.specs.declared.syntax.Term.{Term}
use Rattle.rsml_parser.specs.Mentions.{minus, mention}
use Rattle.rsml_parser.specs.Parsers.{Parser, ◌>>=◌, ◌>>◌, pure, choose, first, sees_mark, sees_number, sees_word, word, mark, number, and_more}

-- a number, a mention, or `previous` and a mention
abbrev pub operand : Parser Operand
operand = choose sees_number (number >>= (λ n. pure (operands.Number n)))
    (choose (sees_word words.Previous) (word words.Previous >> mention >>= (λ m. pure (operands.Previous m)))
    (mention >>= (λ m. pure (operands.Mention m))))

-- an operand, maybe with a minus before it
abbrev pub first_term : Parser Term
first_term = do
  m ← minus
  o ← operand
  pure (record { minus = m; operand = o })

-- the token is `+` or `-`
abbrev pub is_sign : Token → Bool
is_sign t = is_mark marks.Plus t || is_mark marks.Minus t

-- `+` or `-`
abbrev pub sign : Parser Bool
sign = choose (sees_mark marks.Plus) (mark marks.Plus >> pure false) (mark marks.Minus >> pure true)

-- `+` or `-`, and an operand
abbrev pub later_term : Parser Term
later_term = do
  m ← sign
  o ← operand
  pure (record { minus = m; operand = o })

-- one term or more
abbrev pub sum : Parser Sum
sum = do
  t ← first_term
  ts ← and_more (first is_sign) later_term (t ∷ [])
  pure (record { terms = ts })

-- `=`, `!=`, `<`, `<=`, `>` or `>=`
abbrev pub relation : Parser Relation
relation = choose (sees_mark marks.Equal) (mark marks.Equal >> pure relations.Equal)
    (choose (sees_mark marks.NotEqual) (mark marks.NotEqual >> pure relations.NotEqual)
    (choose (sees_mark marks.Less) (mark marks.Less >> pure relations.Less)
    (choose (sees_mark marks.LessEqual) (mark marks.LessEqual >> pure relations.LessEqual)
    (choose (sees_mark marks.Greater) (mark marks.Greater >> pure relations.Greater)
    (mark marks.GreaterEqual >> pure relations.GreaterEqual)))))
