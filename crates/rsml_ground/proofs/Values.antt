-- An enumeration of a short specification has few values, since each is a token.
use Rattle.std.proofs.Common.{◌≡◌, ℕ, ◌≤◌, Bool, true, false, List, [], ◌∷◌, length, Some, None, refl, arith, nat_le}
use Rattle.std.specs.Prelude.{IsTrue}
use Rattle.std.specs.List.{list_all}
use Rattle.std.proofs.lemmas.Bool.Decides.{nat_tests}
use Rattle.rsml_syntax.specs.declared.syntax.Spec.{Spec}
use Rattle.rsml_syntax.specs.declared.syntax.Amount.{Amount}
use Rattle.rsml_syntax.specs.declared.syntax.Amount.TheVariants as amounts
use Rattle.rsml_syntax.specs.declared.syntax.Decl.{Decl}
use Rattle.rsml_syntax.specs.declared.syntax.Decl.TheVariants as decl
use Rattle.rsml_syntax.specs.declared.syntax.Answer.TheVariants as answers
use Rattle.rsml_syntax.specs.declared.syntax.Cell.TheVariants as cells
use Rattle.rsml_syntax.specs.declared.syntax.Guard.TheVariants as guards
use Rattle.rsml_syntax.specs.declared.syntax.Index.TheVariants as index
use Rattle.rsml_syntax.specs.declared.syntax.Initial.TheVariants as initials
use Rattle.rsml_syntax.specs.declared.syntax.Operand.TheVariants as operands
use Rattle.rsml_syntax.specs.declared.syntax.Phrase.TheVariants as phrases
use Rattle.rsml_syntax.specs.declared.syntax.Simple.TheVariants as simples
use Rattle.rsml_syntax.specs.declared.syntax.Value.TheVariants as values
use Rattle.rsml_syntax.specs.declared.token.Mark.{Mark}
use Rattle.rsml_syntax.specs.declared.token.Mark.TheVariants as marks
use Rattle.rsml_syntax.specs.declared.token.Word.{Word}
use Rattle.rsml_syntax.specs.declared.token.Word.TheVariants as words
use Rattle.rsml_syntax.specs.text.Names.{Name}
use Rattle.rsml_syntax.specs.text.Tokens.{Tokens}
use Rattle.rsml_syntax.specs.grammar.Grammar as put
use Rattle.rsml_syntax.specs.rules.Globals.{values_of}
use Rattle.rsml_meaning.proofs.Lists.{both}
use Rattle.rsml_ground.specs.Grounded.{IsShort}

-- an enumeration has at most 1,000,000,000 values
abbrev pub has_few_values : Decl → Bool
has_few_values d = nat_le (length (values_of d)) 1000000000

-- so has each enumeration
abbrev pub HasFewValues : Spec → Type 0
HasFewValues s = IsTrue (list_all has_few_values s.decls)

-- Tokens.

-- what is written so before a rest is no shorter than the rest
abbrev Grows : {A : Type 0} → (A → Tokens → Tokens) → Type 0
Grows {A} write = (x : A) (rest : Tokens) → length rest ≤ length (write x rest)

each_grows : {A : Type 0} (write : A → Tokens → Tokens) → Grows write → Grows (put.each write)
each_grows write h [] rest = omega arith
each_grows write h (x ∷ xs) rest = let a = h x (put.each write xs rest) in let b = each_grows write h xs rest in omega (arith, a, b)

after_grows : {A : Type 0} (write : A → Tokens → Tokens) (m : Mark) → Grows write → Grows (put.each_after m write)
after_grows write m h [] rest = omega arith
after_grows write m h (x ∷ xs) rest = let a = h x (put.each_after m write xs rest) in let b = after_grows write m h xs rest in omega (arith, a, b)

separated_grows : {A : Type 0} (write : A → Tokens → Tokens) (m : Mark) → Grows write → Grows (put.separated m write)
separated_grows write m h [] rest = omega arith
separated_grows write m h (x ∷ xs) rest = let a = h x (put.each_after m write xs rest) in let b = after_grows write m h xs rest in omega (arith, a, b)

name_grows : Grows put.name
name_grows n rest = omega arith

minus_grows : Grows put.minus
minus_grows true rest = omega arith
minus_grows false rest = omega arith

signed_grows : Grows put.signed
signed_grows x rest = let a = minus_grows x.minus (put.number x.digits rest) in omega (arith, a)

amount_grows : Grows put.amount
amount_grows (amounts.Number n) rest = omega arith
amount_grows (amounts.Name n) rest = omega arith

size_grows : Grows put.size
size_grows None rest = omega arith
size_grows (Some a) rest = let l = amount_grows a (put.mark marks.CloseBracket rest) in omega (arith, l)

index_grows : Grows put.index
index_grows (index.Number n) rest = omega arith
index_grows (index.Name n) rest = omega arith
index_grows index.This rest = omega arith

indexed_grows : Grows put.indexed
indexed_grows None rest = omega arith
indexed_grows (Some i) rest = let l = index_grows i (put.mark marks.CloseBracket rest) in omega (arith, l)

mention_grows : Grows put.mention
mention_grows m rest = let l = indexed_grows m.index rest in omega (arith, l)

initial_grows : Grows put.initial
initial_grows (initials.Number x) rest = signed_grows x rest
initial_grows (initials.Name n) rest = omega arith

-- Sums and phrases.

operand_grows : Grows put.operand
operand_grows (operands.Number n) rest = omega arith
operand_grows (operands.Mention m) rest = mention_grows m rest
operand_grows (operands.Previous m) rest = let l = mention_grows m rest in omega (arith, l)

later_grows : Grows put.later_term
later_grows t rest = let l = operand_grows t.operand rest in omega (arith, l)

terms_grow : Grows put.terms
terms_grow [] rest = omega arith
terms_grow (t ∷ ts) rest =
    let later = put.each put.later_term ts rest in
    let a = minus_grows t.minus (put.operand t.operand later) in
    let b = operand_grows t.operand later in
    let c = each_grows put.later_term later_grows ts rest in
    omega (arith, a, b, c)

sum_grows : Grows put.sum
sum_grows x rest = terms_grow x.terms rest

simple_grows : Grows put.simple
simple_grows (simples.In path) rest = let l = separated_grows put.mention marks.Dot mention_grows path rest in omega (arith, l)
simple_grows (simples.Macro m) rest = let l = mention_grows m rest in omega (arith, l)
simple_grows (simples.Compare left r right) rest =
    let a = sum_grows left (put.relation r (put.sum right rest)) in
    let b = sum_grows right rest in
    omega (arith, a, b)
simple_grows (simples.Function f r right) rest =
    let a = mention_grows f (put.relation r (put.sum right rest)) in
    let b = sum_grows right rest in
    omega (arith, a, b)

quantified_grows : (w : Word) (x : Name) (bound : Amount) → Grows (put.quantified w x bound)
quantified_grows w x bound b rest =
    let a = amount_grows bound (put.mark marks.Colon (put.simple b rest)) in
    let c = simple_grows b rest in
    omega (arith, a, c)

phrase_grows : Grows put.phrase
phrase_grows (phrases.Plain b) rest = simple_grows b rest
phrase_grows (phrases.Any x bound b) rest = quantified_grows words.Any x bound b rest
phrase_grows (phrases.Every x bound b) rest = quantified_grows words.Every x bound b rest

-- Tables and guards.

cell_grows : Grows put.cell
cell_grows cells.T rest = omega arith
cell_grows cells.F rest = omega arith
cell_grows cells.Dot rest = omega arith

row_grows : Grows put.row
row_grows row rest =
    let later = put.each put.cell row.cells (put.mark marks.Semicolon rest) in
    let a = phrase_grows row.phrase (put.mark marks.Bar later) in
    let b = each_grows put.cell cell_grows row.cells (put.mark marks.Semicolon rest) in
    omega (arith, a, b)

table_grows : Grows put.table
table_grows rows rest = let l = each_grows put.row row_grows rows (put.mark marks.CloseBrace rest) in omega (arith, l)

guard_grows : Grows put.guard
guard_grows guards.Always rest = omega arith
guard_grows (guards.Table rows) rest = table_grows rows rest

when_grows : Grows put.when_guard
when_grows g rest = let l = guard_grows g rest in omega (arith, l)

-- Declarations.

case_grows : Grows put.case_of
case_grows c rest =
    let a = sum_grows c.value (put.when_guard c.guard (put.mark marks.Semicolon rest)) in
    let b = when_grows c.guard (put.mark marks.Semicolon rest) in
    omega (arith, a, b)

value_grows : Grows put.value
value_grows (values.Sum x) rest = sum_grows x rest
value_grows (values.Function m) rest = let l = mention_grows m rest in omega (arith, l)

answer_grows : Grows put.answer
answer_grows answers.Quiet rest = omega arith
answer_grows (answers.Values vs) rest = let l = separated_grows put.value marks.Comma value_grows vs (put.mark marks.CloseParen rest) in omega (arith, l)

send_case_grows : Grows put.send_case
send_case_grows c rest =
    let ending = put.mark marks.Semicolon rest in
    let a = mention_grows c.trigger (put.when_guard c.guard (put.answer c.answer ending)) in
    let b = when_grows c.guard (put.answer c.answer ending) in
    let d = answer_grows c.answer ending in
    omega (arith, a, b, d)

declaration_grows : Grows put.declaration
declaration_grows (decl.Enumeration n names) rest = let l = separated_grows put.name marks.Comma name_grows names (put.mark marks.CloseBrace rest) in omega (arith, l)
declaration_grows (decl.Range n low high) rest =
    let a = signed_grows low (put.mark marks.DotDot (put.signed high (put.mark marks.Semicolon rest))) in
    let b = signed_grows high (put.mark marks.Semicolon rest) in
    omega (arith, a, b)
declaration_grows (decl.Constant n value) rest = let l = signed_grows value (put.mark marks.Semicolon rest) in omega (arith, l)
declaration_grows (decl.Input n size kind initial) rest =
    let a = size_grows size (put.mark marks.Colon (put.name kind (put.mark marks.Equal (put.initial initial (put.mark marks.Semicolon rest))))) in
    let b = initial_grows initial (put.mark marks.Semicolon rest) in
    omega (arith, a, b)
declaration_grows (decl.Event n size) rest = let l = size_grows size (put.mark marks.Semicolon rest) in omega (arith, l)
declaration_grows (decl.Macro n size rows) rest = let a = size_grows size (put.table rows rest) in let b = table_grows rows rest in omega (arith, a, b)
declaration_grows (decl.Function n size cases) rest =
    let ending = put.mark marks.CloseBrace rest in
    let a = size_grows size (put.mark marks.OpenBrace (put.each put.case_of cases ending)) in
    let b = each_grows put.case_of case_grows cases ending in
    omega (arith, a, b)
declaration_grows (decl.Receive n size inputs raised) rest =
    let ending = put.mark marks.Semicolon rest in
    let middle = put.mark marks.CloseParen (put.word words.Raise (put.mention raised ending)) in
    let a = size_grows size (put.mark marks.OpenParen (put.separated marks.Comma put.mention inputs middle)) in
    let b = separated_grows put.mention marks.Comma mention_grows inputs middle in
    let c = mention_grows raised ending in
    omega (arith, a, b, c)
declaration_grows (decl.Send n size fields cases) rest =
    let ending = put.mark marks.CloseBrace rest in
    let middle = put.mark marks.CloseParen (put.mark marks.OpenBrace (put.each put.send_case cases ending)) in
    let a = size_grows size (put.mark marks.OpenParen (put.separated marks.Comma put.name fields middle)) in
    let b = separated_grows put.name marks.Comma name_grows fields middle in
    let c = each_grows put.send_case send_case_grows cases ending in
    omega (arith, a, b, c)

-- Values.

later_names : (names : List Name) (rest : Tokens) → length names ≤ length (put.each_after marks.Comma put.name names rest)
later_names [] rest = omega arith
later_names (n ∷ names) rest = let l = later_names names rest in omega (arith, l)

-- the values of an enumeration are tokens
values_few : (d : Decl) (rest : Tokens) → length (values_of d) ≤ length (put.declaration d rest)
values_few (decl.Enumeration n []) rest = omega arith
values_few (decl.Enumeration n (v ∷ names)) rest = let l = later_names names (put.mark marks.CloseBrace rest) in omega (arith, l)
values_few (decl.Range n low high) rest = omega arith
values_few (decl.Constant n value) rest = omega arith
values_few (decl.Input n size kind initial) rest = omega arith
values_few (decl.Event n size) rest = omega arith
values_few (decl.Macro n size rows) rest = omega arith
values_few (decl.Function n size cases) rest = omega arith
values_few (decl.Receive n size inputs raised) rest = omega arith
values_few (decl.Send n size fields cases) rest = omega arith

decls_few : (ds : List Decl) (rest : Tokens) → length (put.each put.declaration ds rest) ≤ 1000000000 → list_all has_few_values ds ≡ true
decls_few [] rest h = refl
decls_few (d ∷ ds) rest h =
    let l = values_few d (put.each put.declaration ds rest) in
    let g = declaration_grows d (put.each put.declaration ds rest) in
    both (has_few_values d) (list_all has_few_values ds) (le-nat_le (length (values_of d)) (omega (arith, h, l))) (decls_few ds rest (omega (arith, h, g)))
  where
    le-nat_le : (n : ℕ) → n ≤ 1000000000 → nat_le n 1000000000 ≡ true
    le-nat_le n l = grind (arith, nat_tests)

pub few_values : (s : Spec) → IsShort s → HasFewValues s
few_values s h = decls_few s.decls (put.word words.State (put.name s.top (put.body s.body []))) (omega (arith, h))
