-- Parts of declarations that are compared as equal are one, and each is equal to itself.
use Rattle.std.proofs.Common.{◌≡◌, ℕ, Option, Bool, true, false, refl, sym, ap, true≢false}
use Rattle.std.specs.Option.{option_eq}
use Rattle.std.specs.Cmp.{first_so, second_so}
use Rattle.std.specs.Cmp.Lexicographic.{pointwise}
use Rattle.rsml_syntax.specs.declared.syntax.Signed.{Signed}
use Rattle.rsml_syntax.specs.declared.syntax.Amount.{Amount}
use Rattle.rsml_syntax.specs.declared.syntax.Amount.TheVariants as amounts
use Rattle.rsml_syntax.specs.declared.syntax.Index.{Index}
use Rattle.rsml_syntax.specs.declared.syntax.Index.TheVariants as index
use Rattle.rsml_syntax.specs.declared.syntax.Mention.{Mention}
use Rattle.rsml_syntax.specs.declared.syntax.Initial.{Initial}
use Rattle.rsml_syntax.specs.declared.syntax.Initial.TheVariants as initials
use Rattle.rsml_syntax.specs.declared.syntax.Operand.{Operand}
use Rattle.rsml_syntax.specs.declared.syntax.Operand.TheVariants as operands
use Rattle.rsml_syntax.specs.declared.syntax.Term.{Term}
use Rattle.rsml_syntax.specs.declared.syntax.Sum.{Sum}
use Rattle.rsml_syntax.specs.declared.syntax.Value.{Value}
use Rattle.rsml_syntax.specs.declared.syntax.Value.TheVariants as values
use Rattle.rsml_syntax.specs.declared.syntax.Answer.{Answer}
use Rattle.rsml_syntax.specs.declared.syntax.Answer.TheVariants as answers
use Rattle.rsml_syntax.specs.declared.syntax.Bus.{Bus}
use Rattle.rsml_syntax.specs.contracts.syntax.SignedPartialEq.TheImpl as signed_eq
use Rattle.rsml_syntax.specs.contracts.syntax.AmountPartialEq.TheImpl as amount_eq
use Rattle.rsml_syntax.specs.contracts.syntax.IndexPartialEq.TheImpl as index_eq
use Rattle.rsml_syntax.specs.contracts.syntax.InitialPartialEq.TheImpl as initial_eq
use Rattle.rsml_syntax.specs.contracts.syntax.OperandPartialEq.TheImpl as operand_eq
use Rattle.rsml_syntax.specs.contracts.syntax.TermPartialEq.TheImpl as term_eq
use Rattle.rsml_syntax.specs.contracts.syntax.SumPartialEq.TheImpl as sum_eq
use Rattle.rsml_syntax.specs.contracts.syntax.ValuePartialEq.TheImpl as value_eq
use Rattle.rsml_syntax.specs.contracts.syntax.AnswerPartialEq.TheImpl as answer_eq
use Rattle.rsml_syntax.specs.text.Names.{same}
use Rattle.spec_frames.specs.helpers.Sameness.{same_mention, same_bus, same_size}
use Rattle.spec_frames.proofs.ListLemmas.{both, nat_same, nat_itself, name_same, name_itself, pointwise_same, pointwise_itself, option_same, option_itself}

abbrev the_signed : Bool → ℕ → Signed
the_signed minus digits = record { minus = minus; digits = digits }

abbrev the_term : Bool → Operand → Term
the_term minus operand = record { minus = minus; operand = operand }

-- What is compared as equal is one.

pub signed_same : (x y : Signed) → (signed_eq.ghosts).eq x y ≡ true → x ≡ y
signed_same x y h = by x.minus y.minus x.digits y.digits h
  where
    by : (a b : Bool) (m n : ℕ) → (signed_eq.ghosts).eq (the_signed a m) (the_signed b n) ≡ true → the_signed a m ≡ the_signed b n
    by true true m n h = ap (the_signed true) (nat_same m n h)
    by false false m n h = ap (the_signed false) (nat_same m n h)
    by true false m n h = absurd (true≢false (sym h))
    by false true m n h = absurd (true≢false (sym h))

pub amount_same : (x y : Amount) → (amount_eq.ghosts).eq x y ≡ true → x ≡ y
amount_same (amounts.Number m) (amounts.Number n) h = ap amounts.Number (nat_same m n h)
amount_same (amounts.Name m) (amounts.Name n) h = ap amounts.Name (name_same m n h)
amount_same (amounts.Number m) (amounts.Name n) h = absurd (true≢false (sym h))
amount_same (amounts.Name m) (amounts.Number n) h = absurd (true≢false (sym h))

pub size_same : (x y : Option Amount) → same_size x y ≡ true → x ≡ y
size_same x y h = option_same (amount_eq.ghosts).eq amount_same x y h

index_same : (x y : Index) → (index_eq.ghosts).eq x y ≡ true → x ≡ y
index_same (index.Number m) (index.Number n) h = ap index.Number (nat_same m n h)
index_same (index.Name m) (index.Name n) h = ap index.Name (name_same m n h)
index_same index.This index.This h = refl
index_same (index.Number m) (index.Name n) h = absurd (true≢false (sym h))
index_same (index.Number m) index.This h = absurd (true≢false (sym h))
index_same (index.Name m) (index.Number n) h = absurd (true≢false (sym h))
index_same (index.Name m) index.This h = absurd (true≢false (sym h))
index_same index.This (index.Number n) h = absurd (true≢false (sym h))
index_same index.This (index.Name n) h = absurd (true≢false (sym h))

pub mention_same : (x y : Mention) → same_mention x y ≡ true → x ≡ y
mention_same x y h =
    let n = name_same x.name y.name (first_so (same x.name y.name) (option_eq (index_eq.ghosts).eq x.index y.index) h) in
    let o = option_same (index_eq.ghosts).eq index_same x.index y.index (second_so (same x.name y.name) (option_eq (index_eq.ghosts).eq x.index y.index) h) in
    λ i. record { name = n i; index = o i }

pub initial_same : (x y : Initial) → (initial_eq.ghosts).eq x y ≡ true → x ≡ y
initial_same (initials.Number m) (initials.Number n) h = ap initials.Number (signed_same m n h)
initial_same (initials.Name m) (initials.Name n) h = ap initials.Name (name_same m n h)
initial_same (initials.Number m) (initials.Name n) h = absurd (true≢false (sym h))
initial_same (initials.Name m) (initials.Number n) h = absurd (true≢false (sym h))

operand_same : (x y : Operand) → (operand_eq.ghosts).eq x y ≡ true → x ≡ y
operand_same (operands.Number m) (operands.Number n) h = ap operands.Number (nat_same m n h)
operand_same (operands.Mention m) (operands.Mention n) h = ap operands.Mention (mention_same m n h)
operand_same (operands.Previous m) (operands.Previous n) h = ap operands.Previous (mention_same m n h)
operand_same (operands.Number m) (operands.Mention n) h = absurd (true≢false (sym h))
operand_same (operands.Number m) (operands.Previous n) h = absurd (true≢false (sym h))
operand_same (operands.Mention m) (operands.Number n) h = absurd (true≢false (sym h))
operand_same (operands.Mention m) (operands.Previous n) h = absurd (true≢false (sym h))
operand_same (operands.Previous m) (operands.Number n) h = absurd (true≢false (sym h))
operand_same (operands.Previous m) (operands.Mention n) h = absurd (true≢false (sym h))

term_same : (x y : Term) → (term_eq.ghosts).eq x y ≡ true → x ≡ y
term_same x y h = by x.minus y.minus x.operand y.operand h
  where
    by : (a b : Bool) (p q : Operand) → (term_eq.ghosts).eq (the_term a p) (the_term b q) ≡ true → the_term a p ≡ the_term b q
    by true true p q h = ap (the_term true) (operand_same p q h)
    by false false p q h = ap (the_term false) (operand_same p q h)
    by true false p q h = absurd (true≢false (sym h))
    by false true p q h = absurd (true≢false (sym h))

pub sum_same : (x y : Sum) → (sum_eq.ghosts).eq x y ≡ true → x ≡ y
sum_same x y h = let e = pointwise_same (term_eq.ghosts).eq term_same x.terms y.terms h in λ i. record { terms = e i }

value_same : (x y : Value) → (value_eq.ghosts).eq x y ≡ true → x ≡ y
value_same (values.Sum m) (values.Sum n) h = ap values.Sum (sum_same m n h)
value_same (values.Function m) (values.Function n) h = ap values.Function (mention_same m n h)
value_same (values.Sum m) (values.Function n) h = absurd (true≢false (sym h))
value_same (values.Function m) (values.Sum n) h = absurd (true≢false (sym h))

pub answer_same : (x y : Answer) → (answer_eq.ghosts).eq x y ≡ true → x ≡ y
answer_same answers.Quiet answers.Quiet h = refl
answer_same (answers.Values m) (answers.Values n) h = ap answers.Values (pointwise_same (value_eq.ghosts).eq value_same m n h)
answer_same answers.Quiet (answers.Values n) h = absurd (true≢false (sym h))
answer_same (answers.Values m) answers.Quiet h = absurd (true≢false (sym h))

pub bus_same : (x y : Bus) → same_bus x y ≡ true → x ≡ y
bus_same x y h =
    let n = name_same x.name y.name (first_so (same x.name y.name) (pointwise same x.members y.members) h) in
    let ms = pointwise_same same name_same x.members y.members (second_so (same x.name y.name) (pointwise same x.members y.members) h) in
    λ i. record { name = n i; members = ms i }

-- Each is equal to itself.

pub signed_itself : (x : Signed) → (signed_eq.ghosts).eq x x ≡ true
signed_itself x = by x.minus x.digits
  where
    by : (a : Bool) (m : ℕ) → (signed_eq.ghosts).eq (the_signed a m) (the_signed a m) ≡ true
    by true m = nat_itself m
    by false m = nat_itself m

amount_itself : (x : Amount) → (amount_eq.ghosts).eq x x ≡ true
amount_itself (amounts.Number n) = nat_itself n
amount_itself (amounts.Name n) = name_itself n

pub size_itself : (x : Option Amount) → same_size x x ≡ true
size_itself x = option_itself (amount_eq.ghosts).eq amount_itself x

index_itself : (x : Index) → (index_eq.ghosts).eq x x ≡ true
index_itself (index.Number n) = nat_itself n
index_itself (index.Name n) = name_itself n
index_itself index.This = refl

pub mention_itself : (x : Mention) → same_mention x x ≡ true
mention_itself x = both (same x.name x.name) (option_eq (index_eq.ghosts).eq x.index x.index) (name_itself x.name) (option_itself (index_eq.ghosts).eq index_itself x.index)

pub initial_itself : (x : Initial) → (initial_eq.ghosts).eq x x ≡ true
initial_itself (initials.Number n) = signed_itself n
initial_itself (initials.Name n) = name_itself n

operand_itself : (x : Operand) → (operand_eq.ghosts).eq x x ≡ true
operand_itself (operands.Number n) = nat_itself n
operand_itself (operands.Mention n) = mention_itself n
operand_itself (operands.Previous n) = mention_itself n

term_itself : (x : Term) → (term_eq.ghosts).eq x x ≡ true
term_itself x = by x.minus x.operand
  where
    by : (a : Bool) (p : Operand) → (term_eq.ghosts).eq (the_term a p) (the_term a p) ≡ true
    by true p = operand_itself p
    by false p = operand_itself p

pub sum_itself : (x : Sum) → (sum_eq.ghosts).eq x x ≡ true
sum_itself x = pointwise_itself (term_eq.ghosts).eq term_itself x.terms

value_itself : (x : Value) → (value_eq.ghosts).eq x x ≡ true
value_itself (values.Sum n) = sum_itself n
value_itself (values.Function n) = mention_itself n

pub answer_itself : (x : Answer) → (answer_eq.ghosts).eq x x ≡ true
answer_itself answers.Quiet = refl
answer_itself (answers.Values n) = pointwise_itself (value_eq.ghosts).eq value_itself n

pub bus_itself : (x : Bus) → same_bus x x ≡ true
bus_itself x = both (same x.name x.name) (pointwise same x.members x.members) (name_itself x.name) (pointwise_itself same name_itself x.members)
