-- Reading declarations.
use Rattle.rsml_syntax.specs.declared.token.Mark.TheVariants as marks
use Rattle.rsml_syntax.specs.declared.token.Word.TheVariants as words
use Rattle.rsml_syntax.specs.declared.syntax.Answer.{Answer}
use Rattle.rsml_syntax.specs.declared.syntax.Answer.TheVariants as answers
use Rattle.rsml_syntax.specs.declared.syntax.Case.{Case}
use Rattle.rsml_syntax.specs.declared.syntax.Decl.{Decl}
use Rattle.rsml_syntax.specs.declared.syntax.Decl.TheVariants as decls
use Rattle.rsml_syntax.specs.declared.syntax.SendCase.{SendCase}
use Rattle.rsml_syntax.specs.declared.syntax.Value.{Value}
use Rattle.rsml_syntax.specs.declared.syntax.Value.TheVariants as values
use Rattle.rsml_parser.specs.Mentions.{signed, size, mention, initial}
use Rattle.rsml_parser.specs.Sums.{sum}
use Rattle.rsml_parser.specs.Tables.{table, when_guard}
use Rattle.rsml_parser.specs.Parsers.{Parser, ◌>>=◌, ◌>>◌, pure, choose, sees_word, word, mark, name, separated, until, in_parentheses}

-- a sum, its guard, and `;`
abbrev pub case_of : Parser Case
case_of = do
  v ← sum
  g ← when_guard
  mark marks.Semicolon
  pure (record { value = v; guard = g })

-- a sum, or `function` and a mention
abbrev pub value : Parser Value
value = choose (sees_word words.Function) (word words.Function >> mention >>= (λ f. pure (values.Function f))) (sum >>= (λ s. pure (values.Sum s)))

-- `quiet`, or values in parentheses
abbrev pub answer : Parser Answer
answer = choose (sees_word words.Quiet) (word words.Quiet >> pure answers.Quiet) (in_parentheses value >>= (λ vs. pure (answers.Values vs)))

-- `on`, the trigger, its guard, the answer, and `;`
abbrev pub send_case : Parser SendCase
send_case = do
  word words.On
  m ← mention
  g ← when_guard
  a ← answer
  mark marks.Semicolon
  pure (record { trigger = m; guard = g; answer = a })

-- `enumeration`, its name, and its values in braces
abbrev pub enumeration : Parser Decl
enumeration = do
  word words.Enumeration
  n ← name
  mark marks.OpenBrace
  vs ← separated marks.Comma name
  mark marks.CloseBrace
  pure (decls.Enumeration n vs)

-- `range`, its name, its ends with `..` between, and `;`
abbrev pub range : Parser Decl
range = do
  word words.Range
  n ← name
  l ← signed
  mark marks.DotDot
  h ← signed
  mark marks.Semicolon
  pure (decls.Range n l h)

-- `constant`, its name, `=`, its number, and `;`
abbrev pub constant : Parser Decl
constant = do
  word words.Constant
  n ← name
  mark marks.Equal
  v ← signed
  mark marks.Semicolon
  pure (decls.Constant n v)

-- `input`, its name and size, `:`, its type, `=`, its initial value, and `;`
abbrev pub input : Parser Decl
input = do
  word words.Input
  n ← name
  s ← size
  mark marks.Colon
  k ← name
  mark marks.Equal
  i ← initial
  mark marks.Semicolon
  pure (decls.Input n s k i)

-- `event`, its name and size, and `;`
abbrev pub event : Parser Decl
event = do
  word words.Event
  n ← name
  s ← size
  mark marks.Semicolon
  pure (decls.Event n s)

-- `macro`, its name and size, and its table
abbrev pub macro_table : Parser Decl
macro_table = do
  word words.Macro
  n ← name
  s ← size
  rows ← table
  pure (decls.Macro n s rows)

-- `function`, its name and size, and its cases in braces
abbrev pub function : Parser Decl
function = do
  word words.Function
  n ← name
  s ← size
  mark marks.OpenBrace
  cases ← until marks.CloseBrace case_of
  pure (decls.Function n s cases)

-- `receive`, its name and size, its inputs in parentheses, `raise`, an event, and `;`
abbrev pub receive : Parser Decl
receive = do
  word words.Receive
  n ← name
  s ← size
  inputs ← in_parentheses mention
  word words.Raise
  raised ← mention
  mark marks.Semicolon
  pure (decls.Receive n s inputs raised)

-- `send`, its name and size, its fields in parentheses, and its cases in braces
abbrev pub send : Parser Decl
send = do
  word words.Send
  n ← name
  s ← size
  fields ← in_parentheses name
  mark marks.OpenBrace
  cases ← until marks.CloseBrace send_case
  pure (decls.Send n s fields cases)

-- a declaration, by its first word
abbrev pub declaration : Parser Decl
declaration = choose (sees_word words.Enumeration) enumeration (choose (sees_word words.Range) range (choose (sees_word words.Constant) constant
    (choose (sees_word words.Input) input (choose (sees_word words.Event) event (choose (sees_word words.Macro) macro_table
    (choose (sees_word words.Function) function (choose (sees_word words.Receive) receive send)))))))
