-- What the grammar gives of a well-formed specification: each number is one that may be written, and each `in` path has a step.
use Rattle.std.proofs.Common.{◌≡◌, ◌≤◌, Bool, true, false, ◌&&◌, List, [], ◌∷◌, Option, Some, None}
use Rattle.std.specs.List.{list_all}
use Rattle.std.specs.Cmp.{first_so, second_so}
use Rattle.rsml_syntax.specs.declared.edition.Edition.TheVariants as editions
use Rattle.rsml_syntax.specs.declared.token.Mark.{Mark}
use Rattle.rsml_syntax.specs.declared.syntax.Amount.{Amount}
use Rattle.rsml_syntax.specs.declared.syntax.Amount.TheVariants as amounts
use Rattle.rsml_syntax.specs.declared.syntax.Answer.{Answer}
use Rattle.rsml_syntax.specs.declared.syntax.Answer.TheVariants as answers
use Rattle.rsml_syntax.specs.declared.syntax.Body.{Body, Basic, One', All', Row_of-StateDecl, end_of-StateDecl, more_of-StateDecl}
use Rattle.rsml_syntax.specs.declared.syntax.Bus.{Bus}
use Rattle.rsml_syntax.specs.declared.syntax.Case.{Case}
use Rattle.rsml_syntax.specs.declared.syntax.Cell.{Cell}
use Rattle.rsml_syntax.specs.declared.syntax.Cell.TheVariants as cells
use Rattle.rsml_syntax.specs.declared.syntax.Decl.{Decl}
use Rattle.rsml_syntax.specs.declared.syntax.Decl.TheVariants as decls
use Rattle.rsml_syntax.specs.declared.syntax.Guard.{Guard}
use Rattle.rsml_syntax.specs.declared.syntax.Guard.TheVariants as guards
use Rattle.rsml_syntax.specs.declared.syntax.Index.{Index}
use Rattle.rsml_syntax.specs.declared.syntax.Index.TheVariants as index_of
use Rattle.rsml_syntax.specs.declared.syntax.Initial.{Initial}
use Rattle.rsml_syntax.specs.declared.syntax.Initial.TheVariants as initials
use Rattle.rsml_syntax.specs.declared.syntax.Mention.{Mention}
use Rattle.rsml_syntax.specs.declared.syntax.Operand.{Operand}
use Rattle.rsml_syntax.specs.declared.syntax.Operand.TheVariants as operands
use Rattle.rsml_syntax.specs.declared.syntax.Phrase.{Phrase}
use Rattle.rsml_syntax.specs.declared.syntax.Phrase.TheVariants as phrases
use Rattle.rsml_syntax.specs.declared.syntax.Row.{Row}
use Rattle.rsml_syntax.specs.declared.syntax.SendCase.{SendCase}
use Rattle.rsml_syntax.specs.declared.syntax.Signed.{Signed}
use Rattle.rsml_syntax.specs.declared.syntax.Simple.{Simple}
use Rattle.rsml_syntax.specs.declared.syntax.Simple.TheVariants as simples
use Rattle.rsml_syntax.specs.declared.syntax.Spec.{Spec}
use Rattle.rsml_syntax.specs.declared.syntax.Sum.{Sum}
use Rattle.rsml_syntax.specs.declared.syntax.Term.{Term}
use Rattle.rsml_syntax.specs.declared.syntax.Transition.{Transition}
use Rattle.rsml_syntax.specs.declared.syntax.Value.{Value}
use Rattle.rsml_syntax.specs.declared.syntax.Value.TheVariants as values
use Rattle.rsml_syntax.specs.text.Names.{Name}
use Rattle.rsml_syntax.specs.text.Tokens.{Tokens, AreTokens, greatest_number}
use Rattle.rsml_syntax.specs.grammar.Grammar as grammar
use Rattle.rsml_syntax.specs.grammar.WellFormed.{WellFormed, has_items, sum_has_items, simple_has_items, phrase_has_items, row_has_items, guard_has_items, case_has_items, answer_has_items, send_case_has_items, declaration_has_items, bus_has_items, target_has_items, transition_has_items, body_has_items, row_of_children_has_items}
use Rattle.rsml_syntax.specs.grammar.Written.{values_in, sums_of_guard}
use Rattle.rsml_syntax.specs.limits.Previous.{written_sums}
use Rattle.rsml_meaning.specs.Words.{Each, IsOne}

-- What is written so.

abbrev pub OperandWritten : Operand → Type 0
OperandWritten (operands.Number n) = n ≤ greatest_number
OperandWritten (operands.Mention m) = Unit {0}
OperandWritten (operands.Previous m) = Unit {0}

abbrev pub TermWritten : Term → Type 0
TermWritten t = OperandWritten t.operand

abbrev pub SumWritten : Sum → Type 0
SumWritten x = Each TermWritten x.terms

abbrev pub SimpleWritten : Simple → Type 0
SimpleWritten (simples.In path) = has_items path ≡ true
SimpleWritten (simples.Macro m) = Unit {0}
SimpleWritten (simples.Compare left relation right) = SumWritten left × SumWritten right
SimpleWritten (simples.Function f relation right) = SumWritten right

abbrev pub PhraseWritten : Phrase → Type 0
PhraseWritten (phrases.Plain b) = SimpleWritten b
PhraseWritten (phrases.Any x bound b) = SimpleWritten b
PhraseWritten (phrases.Every x bound b) = SimpleWritten b

abbrev pub RowsWritten : List Row → Type 0
RowsWritten rows = Each (λ row. PhraseWritten row.phrase) rows

abbrev pub GuardWritten : Guard → Type 0
GuardWritten guards.Always = Unit {0}
GuardWritten (guards.Table rows) = RowsWritten rows

abbrev pub CaseWritten : Case → Type 0
CaseWritten c = SumWritten c.value × GuardWritten c.guard

abbrev pub ValueWritten : Value → Type 0
ValueWritten (values.Sum x) = SumWritten x
ValueWritten (values.Function f) = Unit {0}

abbrev pub SendCaseWritten : SendCase → Type 0
SendCaseWritten c = GuardWritten c.guard × Each ValueWritten (values_in c.answer)

abbrev pub DeclWritten : Decl → Type 0
DeclWritten (decls.Range name low high) = (low.digits ≤ greatest_number) × (high.digits ≤ greatest_number)
DeclWritten (decls.Constant name value) = value.digits ≤ greatest_number
DeclWritten (decls.Macro name size rows) = RowsWritten rows
DeclWritten (decls.Function name size cases) = Each CaseWritten cases
DeclWritten (decls.Send name size fields cases) = Each SendCaseWritten cases
DeclWritten _ = Unit {0}

abbrev pub TransitionWritten : Transition → Type 0
TransitionWritten t = GuardWritten t.guard

abbrev mutual
  pub BodyWritten : Body → Type 0
  BodyWritten Basic = Unit {0}
  BodyWritten (One' first shape children buses transitions) = ChildrenWritten children × Each TransitionWritten transitions
  BodyWritten (All' shape children) = ChildrenWritten children

  pub ChildrenWritten : {shape : _} → Row_of-StateDecl shape → Type 0
  ChildrenWritten end_of-StateDecl = Unit {0}
  ChildrenWritten (more_of-StateDecl name size body others) = BodyWritten body × ChildrenWritten others

-- A guard of the specification: its sums are among those of the specification.
pub record IsWritten (s : Spec) (g : Guard) : Type 0 where
  pub sums : Each (λ x. IsOne x (written_sums s)) (sums_of_guard g)
  pub small : GuardWritten g

-- So of a sum.
pub record SumIsWritten (s : Spec) (x : Sum) : Type 0 where
  pub among : IsOne x (written_sums s)
  pub small : SumWritten x

-- Tokens.

abbrev Are : Tokens → Type 0
Are ts = AreTokens editions.Second ts

-- what this writes has the fact, and what follows are tokens
abbrev Fits : {A : Type 0} → (A → Type 0) → (A → Tokens → Tokens) → A → Type 0
Fits P put x = (rest : Tokens) → Are (put x rest) → P x × Are rest

abbrev Anything : {A : Type 0} → A → Type 0
Anything x = Unit {0}

each_fits : {A : Type 0} (P : A → Type 0) (put : A → Tokens → Tokens) (has : A → Bool) → ((x : A) → has x ≡ true → Fits P put x) → (xs : List A) → list_all has xs ≡ true → Fits (Each P) (grammar.each put) xs
each_fits P put has f [] k rest h = (tt, h)
each_fits P put has f (x ∷ xs) k rest h =
    let a = f x (first_so (has x) (list_all has xs) k) (grammar.each put xs rest) h in
    let b = each_fits P put has f xs (second_so (has x) (list_all has xs) k) rest a.1 in
    ((a.0, b.0), b.1)

each_plain : {A : Type 0} (P : A → Type 0) (put : A → Tokens → Tokens) → ((x : A) → Fits P put x) → (xs : List A) → Fits (Each P) (grammar.each put) xs
each_plain P put f [] rest h = (tt, h)
each_plain P put f (x ∷ xs) rest h = let a = f x (grammar.each put xs rest) h in let b = each_plain P put f xs rest a.1 in ((a.0, b.0), b.1)

after_fits : {A : Type 0} (P : A → Type 0) (m : Mark) (put : A → Tokens → Tokens) → ((x : A) → Fits P put x) → (xs : List A) → Fits (Each P) (grammar.each_after m put) xs
after_fits P m put f [] rest h = (tt, h)
after_fits P m put f (x ∷ xs) rest h = let a = f x (grammar.each_after m put xs rest) h.1 in let b = after_fits P m put f xs rest a.1 in ((a.0, b.0), b.1)

separated_fits : {A : Type 0} (P : A → Type 0) (m : Mark) (put : A → Tokens → Tokens) → ((x : A) → Fits P put x) → (xs : List A) → Fits (Each P) (grammar.separated m put) xs
separated_fits P m put f [] rest h = (tt, h)
separated_fits P m put f (x ∷ xs) rest h = let a = f x (grammar.each_after m put xs rest) h in let b = after_fits P m put f xs rest a.1 in ((a.0, b.0), b.1)

-- Names and numbers.

name_fits : (x : Name) → Fits Anything grammar.name x
name_fits x rest h = (tt, h.1)

minus_fits : (b : Bool) → Fits Anything grammar.minus b
minus_fits true rest h = (tt, h.1)
minus_fits false rest h = (tt, h)

signed_fits : (x : Signed) → Fits (λ (x : Signed). x.digits ≤ greatest_number) grammar.signed x
signed_fits x rest h = (minus_fits x.minus (grammar.number x.digits rest) h).1

amount_fits : (x : Amount) → Fits Anything grammar.amount x
amount_fits (amounts.Number n) rest h = (tt, h.1)
amount_fits (amounts.Name n) rest h = (tt, h.1)

size_fits : (x : Option Amount) → Fits Anything grammar.size x
size_fits None rest h = (tt, h)
size_fits (Some (amounts.Number n)) rest h = (tt, h.1.1.1)
size_fits (Some (amounts.Name n)) rest h = (tt, h.1.1.1)

indexed_fits : (x : Option Index) → Fits Anything grammar.indexed x
indexed_fits None rest h = (tt, h)
indexed_fits (Some (index_of.Number n)) rest h = (tt, h.1.1.1)
indexed_fits (Some (index_of.Name n)) rest h = (tt, h.1.1.1)
indexed_fits (Some index_of.This) rest h = (tt, h.1.1.1)

mention_fits : (x : Mention) → Fits Anything grammar.mention x
mention_fits x rest h = indexed_fits x.index rest h.1

initial_fits : (x : Initial) → Fits Anything grammar.initial x
initial_fits (initials.Number x) rest h = (tt, (signed_fits x rest h).1)
initial_fits (initials.Name x) rest h = (tt, h.1)

-- Sums and phrases.

operand_fits : (x : Operand) → Fits OperandWritten grammar.operand x
operand_fits (operands.Number n) rest h = h
operand_fits (operands.Mention m) rest h = mention_fits m rest h
operand_fits (operands.Previous m) rest h = mention_fits m rest h.1

later_fits : (x : Term) → Fits TermWritten grammar.later_term x
later_fits x rest h = operand_fits x.operand rest h.1

sum_fits : (x : Sum) → Fits SumWritten grammar.sum x
sum_fits x rest h = of x.terms h
  where
    of : (ts : List Term) → Are (grammar.terms ts rest) → Each TermWritten ts × Are rest
    of [] h = (tt, h)
    of (t ∷ ts) h =
        let a = operand_fits t.operand (grammar.each grammar.later_term ts rest) (minus_fits t.minus (grammar.operand t.operand (grammar.each grammar.later_term ts rest)) h).1 in
        let b = each_plain TermWritten grammar.later_term later_fits ts rest a.1 in
        ((a.0, b.0), b.1)

simple_fits : (x : Simple) → simple_has_items x ≡ true → Fits SimpleWritten grammar.simple x
simple_fits (simples.In path) k rest h = (k, (separated_fits Anything _ grammar.mention mention_fits path rest h.1).1)
simple_fits (simples.Macro m) k rest h = mention_fits m rest h.1
simple_fits (simples.Compare left r right) k rest h =
    let a = sum_fits left (grammar.relation r (grammar.sum right rest)) h in
    let b = sum_fits right rest a.1.1 in
    ((a.0, b.0), b.1)
simple_fits (simples.Function f r right) k rest h = sum_fits right rest (mention_fits f (grammar.relation r (grammar.sum right rest)) h.1).1.1

phrase_fits : (x : Phrase) → phrase_has_items x ≡ true → Fits PhraseWritten grammar.phrase x
phrase_fits (phrases.Plain b) k rest h = simple_fits b k rest h
phrase_fits (phrases.Any x bound b) k rest h = simple_fits b k rest (amount_fits bound (grammar.mark _ (grammar.simple b rest)) h.1.1.1).1.1
phrase_fits (phrases.Every x bound b) k rest h = simple_fits b k rest (amount_fits bound (grammar.mark _ (grammar.simple b rest)) h.1.1.1).1.1

-- Tables and guards.

cell_fits : (x : Cell) → Fits Anything grammar.cell x
cell_fits cells.T rest h = (tt, h.1)
cell_fits cells.F rest h = (tt, h.1)
cell_fits cells.Dot rest h = (tt, h.1)

row_fits : (x : Row) → row_has_items x ≡ true → Fits (λ (x : Row). PhraseWritten x.phrase) grammar.row x
row_fits x k rest h =
    let a = phrase_fits x.phrase k _ h in
    (a.0, (each_plain Anything grammar.cell cell_fits x.cells _ a.1.1).1.1)

rows_fit : (rows : List Row) → list_all row_has_items rows ≡ true → Fits RowsWritten grammar.table rows
rows_fit rows k rest h = let a = each_fits (λ (x : Row). PhraseWritten x.phrase) grammar.row row_has_items row_fits rows k _ h.1 in (a.0, a.1.1)

guard_fits : (x : Guard) → guard_has_items x ≡ true → Fits GuardWritten grammar.guard x
guard_fits guards.Always k rest h = (tt, h.1)
guard_fits (guards.Table rows) k rest h = rows_fit rows k rest h

-- Declarations.

case_fits : (x : Case) → case_has_items x ≡ true → Fits CaseWritten grammar.case_of x
case_fits x k rest h =
    let a = sum_fits x.value _ h in
    let b = guard_fits x.guard (second_so (sum_has_items x.value) (guard_has_items x.guard) k) _ a.1.1 in
    ((a.0, b.0), b.1.1)

value_fits : (x : Value) → Fits ValueWritten grammar.value x
value_fits (values.Sum x) rest h = sum_fits x rest h
value_fits (values.Function f) rest h = mention_fits f rest h.1

answer_fits : (x : Answer) → Fits (λ x. Each ValueWritten (values_in x)) grammar.answer x
answer_fits answers.Quiet rest h = (tt, h.1)
answer_fits (answers.Values vs) rest h = let a = separated_fits ValueWritten _ grammar.value value_fits vs _ h.1 in (a.0, a.1.1)

send_case_fits : (x : SendCase) → send_case_has_items x ≡ true → Fits SendCaseWritten grammar.send_case x
send_case_fits x k rest h =
    let a = guard_fits x.guard (first_so (guard_has_items x.guard) (answer_has_items x.answer) k) _ (mention_fits x.trigger _ h.1).1.1 in
    let b = answer_fits x.answer _ a.1 in
    ((a.0, b.0), b.1.1)

declaration_fits : (x : Decl) → declaration_has_items x ≡ true → Fits DeclWritten grammar.declaration x
declaration_fits (decls.Enumeration n names) k rest h = (tt, (separated_fits Anything _ grammar.name name_fits names _ h.1.1.1).1.1)
declaration_fits (decls.Range n low high) k rest h =
    let a = signed_fits low _ h.1.1 in
    let b = signed_fits high _ a.1.1 in
    ((a.0, b.0), b.1.1)
declaration_fits (decls.Constant n v) k rest h = let a = signed_fits v _ h.1.1.1 in (a.0, a.1.1)
declaration_fits (decls.Input n s kind i) k rest h = (tt, (initial_fits i _ (size_fits s _ h.1.1).1.1.1.1).1.1)
declaration_fits (decls.Event n s) k rest h = (tt, (size_fits s _ h.1.1).1.1)
declaration_fits (decls.Macro n s rows) k rest h = rows_fit rows k rest (size_fits s _ h.1.1).1
declaration_fits (decls.Function n s cases) k rest h = let a = each_fits CaseWritten grammar.case_of case_has_items case_fits cases k _ (size_fits s _ h.1.1).1.1 in (a.0, a.1.1)
declaration_fits (decls.Receive n s inputs raised) k rest h = (tt, (mention_fits raised _ (separated_fits Anything _ grammar.mention mention_fits inputs _ (size_fits s _ h.1.1).1.1).1.1.1).1.1)
declaration_fits (decls.Send n s fields cases) k rest h =
    let a = separated_fits Anything _ grammar.name name_fits fields _ (size_fits s _ h.1.1).1.1 in
    let b = each_fits SendCaseWritten grammar.send_case send_case_has_items send_case_fits cases k _ a.1.1.1 in
    (b.0, b.1.1)

-- States.

bus_fits : (x : Bus) → Fits Anything grammar.bus x
bus_fits x rest h = (tt, (separated_fits Anything _ grammar.name name_fits x.members _ h.1.1.1).1.1)

movement_fits : (source : Name) (x : Option (List Name)) → Fits Anything (grammar.movement source) x
movement_fits source None rest h = (tt, h.1.1)
movement_fits source (Some target) rest h = (tt, (separated_fits Anything _ grammar.name name_fits target _ h.1.1.1).1)

raises_fit : (x : List Mention) → Fits Anything grammar.raises x
raises_fit [] rest h = (tt, h)
raises_fit (m ∷ ms) rest h = (tt, (separated_fits Anything _ grammar.mention mention_fits (m ∷ ms) rest h.1).1)

transition_fits : (x : Transition) → transition_has_items x ≡ true → Fits TransitionWritten grammar.transition x
transition_fits x k rest h =
    let a = mention_fits x.trigger _ (movement_fits x.source x.target _ h).1.1 in
    let b = guard_fits x.guard (second_so (target_has_items x.target) (guard_has_items x.guard) k) _ a.1.1 in
    (b.0, (raises_fit x.raises _ b.1).1.1)

mutual
  body_fits : (x : Body) → body_has_items x ≡ true → Fits BodyWritten grammar.body x
  body_fits Basic k rest h = (tt, h.1)
  body_fits (One' first shape children buses transitions) k rest h =
      let lists = list_all bus_has_items buses && list_all transition_has_items transitions in
      let a = children_fit _ children (first_so (row_of_children_has_items children) lists k) _ h.1.1.1.1.1 in
      let b = each_plain Anything grammar.bus bus_fits buses _ a.1 in
      let c = each_fits TransitionWritten grammar.transition transition_has_items transition_fits transitions
      (second_so (list_all bus_has_items buses) (list_all transition_has_items transitions) (second_so (row_of_children_has_items children) lists k)) _ b.1 in
      ((a.0, c.0), c.1.1)
  body_fits (All' shape children) k rest h = let a = children_fit _ children k _ h.1.1 in (a.0, a.1.1)

  children_fit : (shape : _) (x : Row_of-StateDecl shape) → row_of_children_has_items x ≡ true → Fits ChildrenWritten grammar.children_row x
  children_fit shape end_of-StateDecl k rest h = (tt, h)
  children_fit shape (more_of-StateDecl name size body others) k rest h =
      let a = body_fits body (first_so (body_has_items body) (row_of_children_has_items others) k) _ (size_fits size _ h.1.1).1 in
      let b = children_fit _ others (second_so (body_has_items body) (row_of_children_has_items others) k) rest a.1 in
      ((a.0, b.0), b.1)

-- Specifications.

specification_fits : (s : Spec) → WellFormed s → Each DeclWritten s.decls × BodyWritten s.body
specification_fits s w =
    let a = each_fits DeclWritten grammar.declaration declaration_has_items declaration_fits s.decls (first_so (list_all declaration_has_items s.decls) (body_has_items s.body) w.items) _ w.tokens.1.1.1 in
    let b = body_fits s.body (second_so (list_all declaration_has_items s.decls) (body_has_items s.body) w.items) [] a.1.1.1 in
    (a.0, b.0)

pub decls_written : (s : Spec) → WellFormed s → Each DeclWritten s.decls
decls_written s w = (specification_fits s w).0

pub body_written : (s : Spec) → WellFormed s → BodyWritten s.body
body_written s w = (specification_fits s w).1
