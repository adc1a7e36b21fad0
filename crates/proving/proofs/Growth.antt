-- What is written before other tokens adds as many as it has: so a joined specification has the tokens of both.
use Rattle.std.proofs.Common.{◌≡◌, ℕ, ◌+◌, Bool, true, false, List, [], ◌∷◌, ◌++◌, map, length, Option, Some, None, refl, ap, ◌∙◌, arith}
use Rattle.rsml_syntax.specs.declared.syntax.Amount.{Amount}
use Rattle.rsml_syntax.specs.declared.syntax.Amount.TheVariants as amounts
use Rattle.rsml_syntax.specs.declared.syntax.Answer.{Answer}
use Rattle.rsml_syntax.specs.declared.syntax.Answer.TheVariants as answers
use Rattle.rsml_syntax.specs.declared.syntax.Case.{Case}
use Rattle.rsml_syntax.specs.declared.syntax.Cell.{Cell}
use Rattle.rsml_syntax.specs.declared.syntax.Cell.TheVariants as cells
use Rattle.rsml_syntax.specs.declared.syntax.Decl.{Decl}
use Rattle.rsml_syntax.specs.declared.syntax.Decl.TheVariants as decls
use Rattle.rsml_syntax.specs.declared.syntax.Guard.{Guard}
use Rattle.rsml_syntax.specs.declared.syntax.Guard.TheVariants as guards
use Rattle.rsml_syntax.specs.declared.syntax.Index.{Index}
use Rattle.rsml_syntax.specs.declared.syntax.Index.TheVariants as indices
use Rattle.rsml_syntax.specs.declared.syntax.Initial.{Initial}
use Rattle.rsml_syntax.specs.declared.syntax.Initial.TheVariants as initials
use Rattle.rsml_syntax.specs.declared.syntax.Mention.{Mention}
use Rattle.rsml_syntax.specs.declared.syntax.Operand.{Operand}
use Rattle.rsml_syntax.specs.declared.syntax.Operand.TheVariants as operands
use Rattle.rsml_syntax.specs.declared.syntax.Phrase.{Phrase}
use Rattle.rsml_syntax.specs.declared.syntax.Phrase.TheVariants as phrases
use Rattle.rsml_syntax.specs.declared.syntax.Row.{Row}
use Rattle.rsml_syntax.specs.declared.syntax.SendCase.{SendCase}
use Rattle.rsml_syntax.specs.declared.syntax.Signed.{Signed}
use Rattle.rsml_syntax.specs.declared.syntax.Simple.{Simple}
use Rattle.rsml_syntax.specs.declared.syntax.Simple.TheVariants as simples
use Rattle.rsml_syntax.specs.declared.syntax.Spec.{Spec}
use Rattle.rsml_syntax.specs.declared.syntax.Sum.{Sum}
use Rattle.rsml_syntax.specs.declared.syntax.Term.{Term}
use Rattle.rsml_syntax.specs.declared.syntax.Value.{Value}
use Rattle.rsml_syntax.specs.declared.syntax.Value.TheVariants as values
use Rattle.rsml_syntax.specs.declared.token.Mark.{Mark}
use Rattle.rsml_syntax.specs.declared.token.Token.{Token}
use Rattle.rsml_syntax.specs.declared.token.Word.TheVariants as words
use Rattle.rsml_syntax.specs.grammar.Grammar as put
use Rattle.rsml_syntax.specs.text.Tokens.{Tokens}
use Rattle.claim_syntax.specs.declared.claim.Claim.{Claim}
use Rattle.claim_syntax.specs.Grammar as written
use Rattle.claim_syntax.specs.Joined.{macro_of, joined}

-- It is written before other tokens, and adds as many as it has alone.
record Adds (f : Tokens → Tokens) : Type 0 where
  adds : (rest : Tokens) → length (f rest) ≡ length (f []) + length rest

nothing : Adds (λ rest. rest)
nothing = record { adds = λ rest. omega arith }

-- one more token before
before : {f : Tokens → Tokens} (t : Token) → Adds f → Adds (λ rest. t ∷ f rest)
before t a = record { adds = λ rest. let h = a.adds rest in omega (arith, h) }

one : (t : Token) → Adds (λ rest. t ∷ rest)
one t = before t nothing

-- one and then another
then : {f g : Tokens → Tokens} → Adds f → Adds g → Adds (λ rest. f (g rest))
then {f} {g} a b = record { adds = λ rest. let x = a.adds (g rest) in let y = b.adds rest in let z = a.adds (g []) in omega (arith, x, y, z) }

module _ {A : Type 0} (f : A → Tokens → Tokens) (each_adds : (x : A) → Adds (f x)) where
  all : (xs : List A) → Adds (put.each f xs)
  all [] = nothing
  all (x ∷ xs) = then (each_adds x) (all xs)

  all_after : (m : Mark) (xs : List A) → Adds (put.each_after m f xs)
  all_after m [] = nothing
  all_after m (x ∷ xs) = before _ (then (each_adds x) (all_after m xs))

  all_between : (m : Mark) (xs : List A) → Adds (put.separated m f xs)
  all_between m [] = nothing
  all_between m (x ∷ xs) = then (each_adds x) (all_after m xs)

minus : (b : Bool) → Adds (put.minus b)
minus true = one _
minus false = nothing

signed : (s : Signed) → Adds (put.signed s)
signed s = then (minus s.minus) (one _)

amount : (a : Amount) → Adds (put.amount a)
amount (amounts.Number n) = one _
amount (amounts.Name n) = one _

size : (a : Option Amount) → Adds (put.size a)
size None = nothing
size (Some a) = before _ (then (amount a) (one _))

index : (i : Index) → Adds (put.index i)
index (indices.Number n) = one _
index (indices.Name n) = one _
index indices.This = one _

indexed : (i : Option Index) → Adds (put.indexed i)
indexed None = nothing
indexed (Some i) = before _ (then (index i) (one _))

mention : (m : Mention) → Adds (put.mention m)
mention m = before _ (indexed m.index)

initial : (i : Initial) → Adds (put.initial i)
initial (initials.Number s) = signed s
initial (initials.Name n) = one _

operand : (o : Operand) → Adds (put.operand o)
operand (operands.Number n) = one _
operand (operands.Mention m) = mention m
operand (operands.Previous m) = before _ (mention m)

terms : (ts : List Term) → Adds (put.terms ts)
terms [] = nothing
terms (t ∷ ts) = then (minus t.minus) (then (operand t.operand) (all put.later_term (λ u. before _ (operand u.operand)) ts))

sum : (s : Sum) → Adds (put.sum s)
sum s = terms s.terms

simple : (x : Simple) → Adds (put.simple x)
simple (simples.In path) = before _ (all_between put.mention mention _ path)
simple (simples.Macro m) = before _ (mention m)
simple (simples.Compare left r right) = then (sum left) (before _ (sum right))
simple (simples.Function f r right) = before _ (then (mention f) (before _ (sum right)))

phrase : (p : Phrase) → Adds (put.phrase p)
phrase (phrases.Plain inner) = simple inner
phrase (phrases.Any variable bound inner) = before _ (before _ (before _ (then (amount bound) (before _ (simple inner)))))
phrase (phrases.Every variable bound inner) = before _ (before _ (before _ (then (amount bound) (before _ (simple inner)))))

cell : (c : Cell) → Adds (put.cell c)
cell cells.T = one _
cell cells.F = one _
cell cells.Dot = one _

row : (r : Row) → Adds (put.row r)
row r = then (phrase r.phrase) (before _ (then (all put.cell cell r.cells) (one _)))

table : (rows : List Row) → Adds (put.table rows)
table rows = before _ (then (all put.row row rows) (one _))

guard : (g : Guard) → Adds (put.guard g)
guard guards.Always = one _
guard (guards.Table rows) = table rows

case_of : (c : Case) → Adds (put.case_of c)
case_of c = then (sum c.value) (before _ (then (guard c.guard) (one _)))

value : (v : Value) → Adds (put.value v)
value (values.Sum s) = sum s
value (values.Function f) = before _ (mention f)

answer : (a : Answer) → Adds (put.answer a)
answer answers.Quiet = one _
answer (answers.Values vs) = before _ (then (all_between put.value value _ vs) (one _))

send_case : (c : SendCase) → Adds (put.send_case c)
send_case c = before _ (then (mention c.trigger) (before _ (then (guard c.guard) (then (answer c.answer) (one _)))))

name : (n : List ℕ) → Adds (put.name n)
name n = one _

declaration : (d : Decl) → Adds (put.declaration d)
declaration (decls.Enumeration n names) = before _ (before _ (before _ (then (all_between put.name name _ names) (one _))))
declaration (decls.Range n low high) = before _ (before _ (then (signed low) (before _ (then (signed high) (one _)))))
declaration (decls.Constant n v) = before _ (before _ (before _ (then (signed v) (one _))))
declaration (decls.Input n s kind i) = before _ (before _ (then (size s) (before _ (before _ (before _ (then (initial i) (one _)))))))
declaration (decls.Event n s) = before _ (before _ (then (size s) (one _)))
declaration (decls.Macro n s rows) = before _ (before _ (then (size s) (table rows)))
declaration (decls.Function n s cases) = before _ (before _ (then (size s) (before _ (then (all put.case_of case_of cases) (one _)))))
declaration (decls.Receive n s inputs raised) =
    before _ (before _ (then (size s) (before _ (then (all_between put.mention mention _ inputs) (before _ (before _ (then (mention raised) (one _))))))))
declaration (decls.Send n s fields cases) =
    before _ (before _ (then (size s) (before _ (then (all_between put.name name _ fields) (before _ (before _ (then (all put.send_case send_case cases) (one _))))))))

-- Claims among declarations.

both_lists : {A : Type 0} (f : A → Tokens → Tokens) (xs ys : List A) (rest : Tokens) → put.each f (xs ++ ys) rest ≡ put.each f xs (put.each f ys rest)
both_lists f [] ys rest = refl
both_lists f (x ∷ xs) ys rest = ap (f x) (both_lists f xs ys rest)

as_macros : (cs : List Claim) (rest : Tokens) → put.each put.declaration (map macro_of cs) rest ≡ put.each written.claim cs rest
as_macros [] rest = refl
as_macros (c ∷ cs) rest = ap (written.claim c) (as_macros cs rest)

claims : (cs : List Claim) → Adds (put.each written.claim cs)
claims cs = all written.claim (λ c. before _ (before _ (table c.rows))) cs

-- the joined specification has as many tokens as both have
pub joined_length : (s : Spec) (cs : List Claim) → length (put.tokens_of (joined s cs)) ≡ length (put.tokens_of s) + length (written.claims_tokens cs)
joined_length s cs =
    let rest = put.word words.State (put.name s.top (put.body s.body [])) in
    let split = ap (λ (ts : Tokens). length ts) (both_lists put.declaration s.decls (map macro_of cs) rest ∙ ap (put.each put.declaration s.decls) (as_macros cs rest)) in
    let outer = (all put.declaration declaration s.decls).adds (put.each written.claim cs rest) in
    let own = (all put.declaration declaration s.decls).adds rest in
    let inner = (claims cs).adds rest in
    omega (arith, split, outer, own, inner)
