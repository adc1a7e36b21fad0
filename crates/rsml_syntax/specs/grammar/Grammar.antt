-- The one token list of a specification. `f x rest` is the tokens of x, and then the rest.
use Rattle.std.specs.Prelude.{ℕ, Bool, List, [], ◌∷◌, Option, Some, None, if◌then◌else◌}
use Rattle.rsml_syntax.specs.declared.token.Token.TheVariants as token
use Rattle.rsml_syntax.specs.declared.token.Word.{Word}
use Rattle.rsml_syntax.specs.declared.token.Word.TheVariants as words
use Rattle.rsml_syntax.specs.declared.token.Mark.{Mark}
use Rattle.rsml_syntax.specs.declared.token.Mark.TheVariants as marks
use Rattle.rsml_syntax.specs.declared.syntax.Amount.{Amount}
use Rattle.rsml_syntax.specs.declared.syntax.Amount.TheVariants as amounts
use Rattle.rsml_syntax.specs.declared.syntax.Answer.{Answer}
use Rattle.rsml_syntax.specs.declared.syntax.Answer.TheVariants as answers
use Rattle.rsml_syntax.specs.declared.syntax.Body.{Body, Basic, One', All', Row_of-StateDecl, end_of-StateDecl, more_of-StateDecl}
use Rattle.rsml_syntax.specs.declared.syntax.Bus.{Bus}
use Rattle.rsml_syntax.specs.declared.syntax.Case.{Case}
use Rattle.rsml_syntax.specs.declared.syntax.Cell.{Cell}
use Rattle.rsml_syntax.specs.declared.syntax.Cell.TheVariants as cells
use Rattle.rsml_syntax.specs.declared.syntax.Decl.{Decl}
use Rattle.rsml_syntax.specs.declared.syntax.Decl.TheVariants as decls
use Rattle.rsml_syntax.specs.declared.syntax.Guard.{Guard}
use Rattle.rsml_syntax.specs.declared.syntax.Guard.TheVariants as guards
use Rattle.rsml_syntax.specs.declared.syntax.Index.{Index}
use Rattle.rsml_syntax.specs.declared.syntax.Index.TheVariants as indices
use Rattle.rsml_syntax.specs.declared.syntax.Initial.{Initial}
use Rattle.rsml_syntax.specs.declared.syntax.Initial.TheVariants as initials
use Rattle.rsml_syntax.specs.declared.syntax.Mention.{Mention}
use Rattle.rsml_syntax.specs.declared.syntax.Operand.{Operand}
use Rattle.rsml_syntax.specs.declared.syntax.Operand.TheVariants as operands
use Rattle.rsml_syntax.specs.declared.syntax.Phrase.{Phrase}
use Rattle.rsml_syntax.specs.declared.syntax.Phrase.TheVariants as phrases
use Rattle.rsml_syntax.specs.declared.syntax.Relation.{Relation}
use Rattle.rsml_syntax.specs.declared.syntax.Relation.TheVariants as relations
use Rattle.rsml_syntax.specs.declared.syntax.Row.{Row}
use Rattle.rsml_syntax.specs.declared.syntax.SendCase.{SendCase}
use Rattle.rsml_syntax.specs.declared.syntax.Signed.{Signed}
use Rattle.rsml_syntax.specs.declared.syntax.Simple.{Simple}
use Rattle.rsml_syntax.specs.declared.syntax.Simple.TheVariants as simples
use Rattle.rsml_syntax.specs.declared.syntax.Spec.{Spec}
use Rattle.rsml_syntax.specs.declared.syntax.StateDecl.{StateDecl}
use Rattle.rsml_syntax.specs.declared.syntax.Sum.{Sum}
use Rattle.rsml_syntax.specs.declared.syntax.Term.{Term}
use Rattle.rsml_syntax.specs.declared.syntax.Transition.{Transition}
use Rattle.rsml_syntax.specs.declared.syntax.Value.{Value}
use Rattle.rsml_syntax.specs.declared.syntax.Value.TheVariants as values
use Rattle.rsml_syntax.specs.text.Names.{Name}
use Rattle.rsml_syntax.specs.text.Tokens.{Tokens}

-- a word
abbrev pub word : Word → Tokens → Tokens
word w rest = token.Word w ∷ rest

-- a mark
abbrev pub mark : Mark → Tokens → Tokens
mark m rest = token.Mark m ∷ rest

-- a name
abbrev pub name : Name → Tokens → Tokens
name n rest = token.Name n ∷ rest

-- a number
abbrev pub number : ℕ → Tokens → Tokens
number n rest = token.Number n ∷ rest

-- one after another
abbrev pub each : {A : Type 0} → (A → Tokens → Tokens) → List A → Tokens → Tokens
each item [] rest = rest
each item (x ∷ xs) rest = item x (each item xs rest)

-- each after the mark
abbrev pub each_after : {A : Type 0} → Mark → (A → Tokens → Tokens) → List A → Tokens → Tokens
each_after m item [] rest = rest
each_after m item (x ∷ xs) rest = mark m (item x (each_after m item xs rest))

-- with the mark between each two
abbrev pub separated : {A : Type 0} → Mark → (A → Tokens → Tokens) → List A → Tokens → Tokens
separated m item [] rest = rest
separated m item (x ∷ xs) rest = item x (each_after m item xs rest)

-- Numbers, sizes and mentions.

-- a minus, or nothing
abbrev pub minus : Bool → Tokens → Tokens
minus b rest = if b then mark marks.Minus rest else rest

-- a number, maybe with a minus before it
abbrev pub signed : Signed → Tokens → Tokens
signed s rest = minus s.minus (number s.digits rest)

-- a number or a name
abbrev pub amount : Amount → Tokens → Tokens
amount (amounts.Number n) rest = number n rest
amount (amounts.Name n) rest = name n rest

-- an amount in brackets, or nothing
abbrev pub size : Option Amount → Tokens → Tokens
size None rest = rest
size (Some a) rest = mark marks.OpenBracket (amount a (mark marks.CloseBracket rest))

-- a number, a name, or `this`
abbrev pub index : Index → Tokens → Tokens
index (indices.Number n) rest = number n rest
index (indices.Name n) rest = name n rest
index indices.This rest = word words.This rest

-- an index in brackets, or nothing
abbrev pub indexed : Option Index → Tokens → Tokens
indexed None rest = rest
indexed (Some i) rest = mark marks.OpenBracket (index i (mark marks.CloseBracket rest))

-- a name, maybe with an index
abbrev pub mention : Mention → Tokens → Tokens
mention m rest = name m.name (indexed m.index rest)

-- a name, or a number with its sign
abbrev pub initial : Initial → Tokens → Tokens
initial (initials.Number s) rest = signed s rest
initial (initials.Name n) rest = name n rest

-- Sums and phrases.

-- a number, a mention, or `previous` and a mention
abbrev pub operand : Operand → Tokens → Tokens
operand (operands.Number n) rest = number n rest
operand (operands.Mention m) rest = mention m rest
operand (operands.Previous m) rest = word words.Previous (mention m rest)

-- an operand, maybe with a minus before it
abbrev pub first_term : Term → Tokens → Tokens
first_term t rest = minus t.minus (operand t.operand rest)

-- `+` or `-`, and an operand
abbrev pub later_term : Term → Tokens → Tokens
later_term t rest = mark (if t.minus then marks.Minus else marks.Plus) (operand t.operand rest)

-- the first term, and each later one with its sign
abbrev pub terms : List Term → Tokens → Tokens
terms [] rest = rest
terms (t ∷ ts) rest = first_term t (each later_term ts rest)

-- one term or more
abbrev pub sum : Sum → Tokens → Tokens
sum s rest = terms s.terms rest

-- how a relation is written
abbrev pub relation_mark : Relation → Mark
relation_mark relations.Equal = marks.Equal
relation_mark relations.NotEqual = marks.NotEqual
relation_mark relations.Less = marks.Less
relation_mark relations.LessEqual = marks.LessEqual
relation_mark relations.Greater = marks.Greater
relation_mark relations.GreaterEqual = marks.GreaterEqual

-- `=`, `!=`, `<`, `<=`, `>` or `>=`
abbrev pub relation : Relation → Tokens → Tokens
relation r rest = mark (relation_mark r) rest

-- an `in` path, a macro, a comparison of two sums, or of a function with a sum
abbrev pub simple : Simple → Tokens → Tokens
simple (simples.In path) rest = word words.In (separated marks.Dot mention path rest)
simple (simples.Macro m) rest = word words.Macro (mention m rest)
simple (simples.Compare left r right) rest = sum left (relation r (sum right rest))
simple (simples.Function f r right) rest = word words.Function (mention f (relation r (sum right rest)))

-- a quantifier: its variable, `of`, its bound, `:`, and what it is said of
abbrev pub quantified : Word → Name → Amount → Simple → Tokens → Tokens
quantified quantifier variable bound inner rest = word quantifier (name variable (word words.Of (amount bound (mark marks.Colon (simple inner rest)))))

-- a phrase, maybe with `some` or `every` before it
abbrev pub phrase : Phrase → Tokens → Tokens
phrase (phrases.Plain inner) rest = simple inner rest
phrase (phrases.Any variable bound inner) rest = quantified words.Any variable bound inner rest
phrase (phrases.Every variable bound inner) rest = quantified words.Every variable bound inner rest

-- Tables and guards.

-- `T`, `F` or `.`
abbrev pub cell : Cell → Tokens → Tokens
cell cells.T rest = word words.T rest
cell cells.F rest = word words.F rest
cell cells.Dot rest = mark marks.Dot rest

-- a phrase, `|`, its cells, and `;`
abbrev pub row : Row → Tokens → Tokens
row r rest = phrase r.phrase (mark marks.Bar (each cell r.cells (mark marks.Semicolon rest)))

-- rows in braces
abbrev pub table : List Row → Tokens → Tokens
table rows rest = mark marks.OpenBrace (each row rows (mark marks.CloseBrace rest))

-- `always`, or a table
abbrev pub guard : Guard → Tokens → Tokens
guard guards.Always rest = word words.Always rest
guard (guards.Table rows) rest = table rows rest

-- `when`, and a guard
abbrev pub when_guard : Guard → Tokens → Tokens
when_guard g rest = word words.When (guard g rest)

-- Declarations.

-- a sum, its guard, and `;`
abbrev pub case_of : Case → Tokens → Tokens
case_of c rest = sum c.value (when_guard c.guard (mark marks.Semicolon rest))

-- a sum, or `function` and a mention
abbrev pub value : Value → Tokens → Tokens
value (values.Sum s) rest = sum s rest
value (values.Function f) rest = word words.Function (mention f rest)

-- `quiet`, or values in parentheses
abbrev pub answer : Answer → Tokens → Tokens
answer answers.Quiet rest = word words.Quiet rest
answer (answers.Values vs) rest = mark marks.OpenParen (separated marks.Comma value vs (mark marks.CloseParen rest))

-- `on`, the trigger, its guard, the answer, and `;`
abbrev pub send_case : SendCase → Tokens → Tokens
send_case c rest = word words.On (mention c.trigger (when_guard c.guard (answer c.answer (mark marks.Semicolon rest))))

-- a declaration, which its first word tells
abbrev pub declaration : Decl → Tokens → Tokens
declaration (decls.Enumeration n names) rest =
    word words.Enumeration (name n (mark marks.OpenBrace (separated marks.Comma name names (mark marks.CloseBrace rest))))
declaration (decls.Range n low high) rest =
    word words.Range (name n (signed low (mark marks.DotDot (signed high (mark marks.Semicolon rest)))))
declaration (decls.Constant n v) rest =
    word words.Constant (name n (mark marks.Equal (signed v (mark marks.Semicolon rest))))
declaration (decls.Input n s kind i) rest =
    word words.Input (name n (size s (mark marks.Colon (name kind (mark marks.Equal (initial i (mark marks.Semicolon rest)))))))
declaration (decls.Event n s) rest =
    word words.Event (name n (size s (mark marks.Semicolon rest)))
declaration (decls.Macro n s rows) rest =
    word words.Macro (name n (size s (table rows rest)))
declaration (decls.Function n s cases) rest =
    word words.Function (name n (size s (mark marks.OpenBrace (each case_of cases (mark marks.CloseBrace rest)))))
declaration (decls.Receive n s inputs raised) rest =
    word words.Receive (name n (size s (mark marks.OpenParen (separated marks.Comma mention inputs (mark marks.CloseParen
    (word words.Raise (mention raised (mark marks.Semicolon rest))))))))
declaration (decls.Send n s fields cases) rest =
    word words.Send (name n (size s (mark marks.OpenParen (separated marks.Comma name fields (mark marks.CloseParen
    (mark marks.OpenBrace (each send_case cases (mark marks.CloseBrace rest))))))))

-- States.

-- `bus`, its name, and its members in braces
abbrev pub bus : Bus → Tokens → Tokens
bus b rest = word words.Bus (name b.name (mark marks.OpenBrace (separated marks.Comma name b.members (mark marks.CloseBrace rest))))

-- `stay` and the source, or `move`, the source, `->` and the target
abbrev pub movement : Name → Option (List Name) → Tokens → Tokens
movement source None rest = word words.Stay (name source rest)
movement source (Some target) rest = word words.Move (name source (mark marks.Arrow (separated marks.Dot name target rest)))

-- `raise` and mentions, or nothing
abbrev pub raises : List Mention → Tokens → Tokens
raises [] rest = rest
raises (m ∷ ms) rest = word words.Raise (separated marks.Comma mention (m ∷ ms) rest)

-- the movement, `on` and its trigger, its guard, what it raises, and `;`
abbrev pub transition : Transition → Tokens → Tokens
transition t rest =
    movement t.source t.target (word words.On (mention t.trigger (when_guard t.guard (raises t.raises (mark marks.Semicolon rest)))))

-- a state, or an array where it has a size
abbrev pub state_word : Option Amount → Word
state_word None = words.State
state_word (Some _) = words.Array

abbrev mutual
  -- `;`, or `one` or `all` with what stands in its braces
  pub body : Body → Tokens → Tokens
  body Basic rest = mark marks.Semicolon rest
  body (One' first _ children buses transitions) rest =
      word words.One (mark marks.OpenBrace (word words.Default (name first (mark marks.Semicolon
      (children_row children (each bus buses (each transition transitions (mark marks.CloseBrace rest))))))))
  body (All' _ children) rest = word words.All (mark marks.OpenBrace (children_row children (mark marks.CloseBrace rest)))

  pub children_row : {shape : _} → Row_of-StateDecl shape → Tokens → Tokens
  children_row end_of-StateDecl rest = rest
  children_row (more_of-StateDecl n s b others) rest = word (state_word s) (name n (size s (body b (children_row others rest))))

-- `state` or `array`, its name, an array's size, and its body
abbrev pub state : StateDecl → Tokens → Tokens
state s rest = word (state_word s.size) (name s.name (size s.size (body s.body rest)))

-- the one token list of a specification
abbrev pub tokens_of : Spec → Tokens
tokens_of s = word words.Specification (name s.name (mark marks.Semicolon (each declaration s.decls (word words.State (name s.top (body s.body []))))))
