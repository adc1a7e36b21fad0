-- Reading phrases.
use Rattle.rsml_syntax.specs.text.Names.{Name}
use Rattle.rsml_syntax.specs.declared.token.Mark.TheVariants as marks
use Rattle.rsml_syntax.specs.declared.token.Word.TheVariants as words
use Rattle.rsml_syntax.specs.declared.syntax.Amount.{Amount}
use Rattle.rsml_syntax.specs.declared.syntax.Phrase.{Phrase}
use Rattle.rsml_syntax.specs.declared.syntax.Phrase.TheVariants as phrases
use Rattle.rsml_syntax.specs.declared.syntax.Simple.{Simple}
use Rattle.rsml_syntax.specs.declared.syntax.Simple.TheVariants as simples
use Rattle.rsml_parser.specs.Mentions.{amount, mention}
use Rattle.rsml_parser.specs.Sums.{sum, relation}
use Rattle.rsml_parser.specs.Parsers.{Parser, ◌>>=◌, ◌>>◌, pure, choose, sees_word, word, mark, name, separated}

-- `in`, and mentions with dots between
abbrev pub path : Parser Simple
path = word words.In >> separated marks.Dot mention >>= (λ p. pure (simples.In p))

-- `macro`, and a mention
abbrev pub of_macro : Parser Simple
of_macro = word words.Macro >> mention >>= (λ m. pure (simples.Macro m))

-- `function`, a mention, a relation, and a sum
abbrev pub of_function : Parser Simple
of_function = do
  word words.Function
  f ← mention
  r ← relation
  s ← sum
  pure (simples.Function f r s)

-- a sum, a relation, and a sum
abbrev pub comparison : Parser Simple
comparison = do
  l ← sum
  r ← relation
  s ← sum
  pure (simples.Compare l r s)

-- what a phrase says, by its first word
abbrev pub simple : Parser Simple
simple = choose (sees_word words.In) path (choose (sees_word words.Macro) of_macro (choose (sees_word words.Function) of_function comparison))

-- the variable, the bound and the body, after the quantifier
abbrev pub quantified : Parser (Name × Amount × Simple)
quantified = do
  v ← name
  word words.Of
  b ← amount
  mark marks.Colon
  s ← simple
  pure (v, b, s)

-- a phrase, maybe with `some` or `every` before it
abbrev pub phrase : Parser Phrase
phrase = choose (sees_word words.Any) (word words.Any >> quantified >>= (λ q. pure (phrases.Any q.0 q.1 q.2)))
    (choose (sees_word words.Every) (word words.Every >> quantified >>= (λ q. pure (phrases.Every q.0 q.1 q.2)))
    (simple >>= (λ s. pure (phrases.Plain s))))
