-- Phrases that are compared as equal are one phrase, and what follows for the numbers of phrases.
use Rattle.std.proofs.Common.{rules, ◌≡◌, ℕ, zero, suc, Bool, true, false, ◌&&◌, ◌||◌, List, [], ◌∷◌, ◌++◌, Some, inl, inr, if◌then◌else◌, refl, sym, ap, ◌∙◌, slice_get, true≢false, nat_eq}
use Rattle.std.specs.Cmp.{first_so, second_so}
use Rattle.std.specs.Cmp.Lexicographic.{pointwise}
use Rattle.std.specs.List.{list_any, IsDistinct, AllByRecursion}
use Rattle.std.specs.Ordering.{int_eq}
use Rattle.std.proofs.lemmas.Bool.Decides.{Decides-int_eq, Decides-eqb}
use Rattle.indexmap.specs.IndexSet.{insert_key}
use Rattle.rsml_meaning.proofs.Same.{nat_same}
use denote.Enum.Bare.{sameb, same_true, true_same}
use Rattle.rsml_syntax.specs.contracts.syntax.Relation as relation_type
use Rattle.rsml_ground.specs.Numbers.{HaveOneNumber, HasNumber, IsWith}
use Rattle.rsml_ground.specs.declared.sums.GroundOperand.{GroundOperand}
use Rattle.rsml_ground.specs.declared.sums.GroundOperand.TheVariants as operands
use Rattle.rsml_ground.specs.declared.sums.GroundTerm.{GroundTerm}
use Rattle.rsml_ground.specs.declared.sums.GroundSum.{GroundSum}
use Rattle.rsml_ground.specs.declared.phrases.GroundPhrase.{GroundPhrase}
use Rattle.rsml_ground.specs.declared.phrases.GroundPhrase.TheVariants as phrases
use Rattle.rsml_ground.specs.contracts.sums.GroundOperandPartialEq.TheImpl as operand_eq
use Rattle.rsml_ground.specs.contracts.sums.GroundTermPartialEq.TheImpl as term_eq
use Rattle.rsml_ground.specs.contracts.sums.GroundSumPartialEq.TheImpl as sum_eq
use Rattle.rsml_ground.specs.contracts.phrases.GroundPhrasePartialEq.TheImpl as phrase_eq

-- What is compared as equal is one.

pointwise_same : {A : Type 0} (eq : A → A → Bool) → ((x y : A) → eq x y ≡ true → x ≡ y) → (xs ys : List A) → pointwise eq xs ys ≡ true → xs ≡ ys
pointwise_same eq same [] [] h = refl
pointwise_same eq same (x ∷ xs) (y ∷ ys) h = λ i. same x y (first_so (eq x y) (pointwise eq xs ys) h) i ∷ pointwise_same eq same xs ys (second_so (eq x y) (pointwise eq xs ys) h) i
pointwise_same eq same [] (y ∷ ys) h = absurd (true≢false (sym h))
pointwise_same eq same (x ∷ xs) [] h = absurd (true≢false (sym h))

abbrev equal_operands : GroundOperand → GroundOperand → Bool
equal_operands x y = (operand_eq.ghosts).eq x y

operand_same : (x y : GroundOperand) → equal_operands x y ≡ true → x ≡ y
operand_same (operands.Number n) (operands.Number m) h = ap operands.Number ((Decides-int_eq n m).0 h)
operand_same (operands.Cell n) (operands.Cell m) h = ap operands.Cell (nat_same n m h)
operand_same (operands.Number n) (operands.Cell m) h = absurd (true≢false (sym h))
operand_same (operands.Cell n) (operands.Number m) h = absurd (true≢false (sym h))

abbrev equal_terms : GroundTerm → GroundTerm → Bool
equal_terms x y = (term_eq.ghosts).eq x y

new_term : Bool → GroundOperand → GroundTerm
new_term minus operand = record { minus = minus; operand = operand }

pub term_same : (x y : GroundTerm) → equal_terms x y ≡ true → x ≡ y
unfolding new_term
term_same x y h = by x.minus y.minus x.operand y.operand h
  where
    by : (a b : Bool) (p q : GroundOperand) → equal_terms (record { minus = a; operand = p }) (record { minus = b; operand = q }) ≡ true → new_term a p ≡ new_term b q
    by true true p q h = ap (new_term true) (operand_same p q h)
    by false false p q h = ap (new_term false) (operand_same p q h)
    by true false p q h = absurd (true≢false (sym h))
    by false true p q h = absurd (true≢false (sym h))

abbrev equal_sums : GroundSum → GroundSum → Bool
equal_sums x y = (sum_eq.ghosts).eq x y

new_sum : List GroundTerm → GroundSum
new_sum terms = record { terms = terms }

pub sum_same : (x y : GroundSum) → equal_sums x y ≡ true → x ≡ y
unfolding new_sum
sum_same x y h = ap new_sum (pointwise_same equal_terms term_same x.terms y.terms h)

abbrev equal_phrases : GroundPhrase → GroundPhrase → Bool
equal_phrases x y = (phrase_eq.ghosts).eq x y

pub phrase_same : (x y : GroundPhrase) → equal_phrases x y ≡ true → x ≡ y
phrase_same (phrases.In n) (phrases.In m) h = ap phrases.In (nat_same n m h)
phrase_same (phrases.Macro n) (phrases.Macro m) h = ap phrases.Macro (nat_same n m h)
phrase_same (phrases.Any ns) (phrases.Any ms) h = ap phrases.Any (pointwise_same nat_eq nat_same ns ms h)
phrase_same (phrases.Every ns) (phrases.Every ms) h = ap phrases.Every (pointwise_same nat_eq nat_same ns ms h)
phrase_same (phrases.Compare x r y) (phrases.Compare u q v) h =
    let first = sum_same x u (first_so (equal_sums x u) (sameb relation_type.the_type r q && equal_sums y v) h) in
    let rest = second_so (equal_sums x u) (sameb relation_type.the_type r q && equal_sums y v) h in
    let second = same_true relation_type.the_type (search rules) r q (first_so (sameb relation_type.the_type r q) (equal_sums y v) rest) in
    let third = sum_same y v (second_so (sameb relation_type.the_type r q) (equal_sums y v) rest) in
    λ i. phrases.Compare (first i) (second i) (third i)
phrase_same (phrases.Function n r c) (phrases.Function m q d) h =
    let first = nat_same n m (first_so (nat_eq n m) (sameb relation_type.the_type r q && int_eq c d) h) in
    let rest = second_so (nat_eq n m) (sameb relation_type.the_type r q && int_eq c d) h in
    let second = same_true relation_type.the_type (search rules) r q (first_so (sameb relation_type.the_type r q) (int_eq c d) rest) in
    let third = (Decides-int_eq c d).0 (second_so (sameb relation_type.the_type r q) (int_eq c d) rest) in
    λ i. phrases.Function (first i) (second i) (third i)
phrase_same (phrases.In n) (phrases.Macro m) h = absurd (true≢false (sym h))
phrase_same (phrases.In n) (phrases.Any ms) h = absurd (true≢false (sym h))
phrase_same (phrases.In n) (phrases.Every ms) h = absurd (true≢false (sym h))
phrase_same (phrases.In n) (phrases.Compare u q v) h = absurd (true≢false (sym h))
phrase_same (phrases.In n) (phrases.Function m q d) h = absurd (true≢false (sym h))
phrase_same (phrases.Macro n) (phrases.In m) h = absurd (true≢false (sym h))
phrase_same (phrases.Macro n) (phrases.Any ms) h = absurd (true≢false (sym h))
phrase_same (phrases.Macro n) (phrases.Every ms) h = absurd (true≢false (sym h))
phrase_same (phrases.Macro n) (phrases.Compare u q v) h = absurd (true≢false (sym h))
phrase_same (phrases.Macro n) (phrases.Function m q d) h = absurd (true≢false (sym h))
phrase_same (phrases.Any ns) (phrases.In m) h = absurd (true≢false (sym h))
phrase_same (phrases.Any ns) (phrases.Macro m) h = absurd (true≢false (sym h))
phrase_same (phrases.Any ns) (phrases.Every ms) h = absurd (true≢false (sym h))
phrase_same (phrases.Any ns) (phrases.Compare u q v) h = absurd (true≢false (sym h))
phrase_same (phrases.Any ns) (phrases.Function m q d) h = absurd (true≢false (sym h))
phrase_same (phrases.Every ns) (phrases.In m) h = absurd (true≢false (sym h))
phrase_same (phrases.Every ns) (phrases.Macro m) h = absurd (true≢false (sym h))
phrase_same (phrases.Every ns) (phrases.Any ms) h = absurd (true≢false (sym h))
phrase_same (phrases.Every ns) (phrases.Compare u q v) h = absurd (true≢false (sym h))
phrase_same (phrases.Every ns) (phrases.Function m q d) h = absurd (true≢false (sym h))
phrase_same (phrases.Compare x r y) (phrases.In m) h = absurd (true≢false (sym h))
phrase_same (phrases.Compare x r y) (phrases.Macro m) h = absurd (true≢false (sym h))
phrase_same (phrases.Compare x r y) (phrases.Any ms) h = absurd (true≢false (sym h))
phrase_same (phrases.Compare x r y) (phrases.Every ms) h = absurd (true≢false (sym h))
phrase_same (phrases.Compare x r y) (phrases.Function m q d) h = absurd (true≢false (sym h))
phrase_same (phrases.Function n r c) (phrases.In m) h = absurd (true≢false (sym h))
phrase_same (phrases.Function n r c) (phrases.Macro m) h = absurd (true≢false (sym h))
phrase_same (phrases.Function n r c) (phrases.Any ms) h = absurd (true≢false (sym h))
phrase_same (phrases.Function n r c) (phrases.Every ms) h = absurd (true≢false (sym h))
phrase_same (phrases.Function n r c) (phrases.Compare u q v) h = absurd (true≢false (sym h))

-- The numbers of phrases.

-- where one is equal to it, the phrase itself is there
found : (p : GroundPhrase) (ps : List GroundPhrase) → list_any (equal_phrases p) ps ≡ true → HasNumber ps p
found p [] h = absurd (true≢false (sym h))
found p (q ∷ ps) h = by_test (equal_phrases p q) refl h (found p ps)
  where
    by_test : (b : Bool) → equal_phrases p q ≡ b → (b || list_any (equal_phrases p) ps) ≡ true → (list_any (equal_phrases p) ps ≡ true → HasNumber ps p) → HasNumber (q ∷ ps) p
    by_test true e k rest = (0, ap (λ z. Some z) (sym (phrase_same p q e)))
    by_test false e k rest = let r = rest k in (suc r.0, r.1)

-- the phrases after one more was put in
pub added : (ps qs : List GroundPhrase) (p : GroundPhrase) → qs ≡ insert_key equal_phrases ps p → IsWith ps p qs
added ps qs p e = by_test (list_any (equal_phrases p) ps) refl e
  where
    by_test : (b : Bool) → list_any (equal_phrases p) ps ≡ b → qs ≡ (if b then ps else ps ++ (p ∷ [])) → IsWith ps p qs
    by_test true t k = inl (found p ps t, k)
    by_test false t k = inr k

some_same : {A : Type 0} {a b : A} → Some a ≡ Some b → a ≡ b
some_same h = cc

none_at : (p : GroundPhrase) (ps : List GroundPhrase) (k : ℕ) → equal_phrases p p ≡ true → AllByRecursion (λ q. equal_phrases p q ≡ false) ps → slice_get ps k ≡ Some p → ⊥
none_at p [] k e h is = cc
none_at p (q ∷ ps) zero e h is = true≢false (sym e ∙ ap (equal_phrases p) (sym (some_same is)) ∙ h.0)
none_at p (q ∷ ps) (suc k) e h is = none_at p ps k e h.1 is

-- where no phrase is equal to one after it, none has two numbers
one_number_by : ((p : GroundPhrase) → equal_phrases p p ≡ true) → (ps : List GroundPhrase) → IsDistinct equal_phrases ps → HaveOneNumber ps
unfolding IsDistinct
one_number_by e [] h j k p a b = cc
one_number_by e (q ∷ ps) h zero zero p a b = refl
one_number_by e (q ∷ ps) h zero (suc k) p a b = absurd (none_at q ps k (e q) h.0 (b ∙ sym a))
one_number_by e (q ∷ ps) h (suc j) zero p a b = absurd (none_at q ps j (e q) h.0 (a ∙ sym b))
one_number_by e (q ∷ ps) h (suc j) (suc k) p a b = ap suc (one_number_by e ps h.1 j k p a b)

-- A phrase is equal to itself.

nat_itself : (n : ℕ) → nat_eq n n ≡ true
nat_itself n = (Decides-eqb n n).1 refl

pointwise_itself : {A : Type 0} (eq : A → A → Bool) → ((x : A) → eq x x ≡ true) → (xs : List A) → pointwise eq xs xs ≡ true
pointwise_itself eq h [] = refl
pointwise_itself eq h (x ∷ xs) = ap (λ b. b && pointwise eq xs xs) (h x) ∙ pointwise_itself eq h xs

operand_itself : (x : GroundOperand) → equal_operands x x ≡ true
operand_itself (operands.Number n) = (Decides-int_eq n n).1 refl
operand_itself (operands.Cell n) = nat_itself n

term_itself : (x : GroundTerm) → equal_terms x x ≡ true
term_itself x = by x.minus x.operand
  where
    by : (a : Bool) (p : GroundOperand) → equal_terms (record { minus = a; operand = p }) (record { minus = a; operand = p }) ≡ true
    by true p = operand_itself p
    by false p = operand_itself p

sum_itself : (x : GroundSum) → equal_sums x x ≡ true
sum_itself x = pointwise_itself equal_terms term_itself x.terms

both : (a b : Bool) → a ≡ true → b ≡ true → (a && b) ≡ true
both a b h k = ap (λ c. c && b) h ∙ k

phrase_itself : (p : GroundPhrase) → equal_phrases p p ≡ true
phrase_itself (phrases.In n) = nat_itself n
phrase_itself (phrases.Macro n) = nat_itself n
phrase_itself (phrases.Any ns) = pointwise_itself nat_eq nat_itself ns
phrase_itself (phrases.Every ns) = pointwise_itself nat_eq nat_itself ns
phrase_itself (phrases.Compare x r y) =
    both (equal_sums x x) (sameb relation_type.the_type r r && equal_sums y y) (sum_itself x)
    (both (sameb relation_type.the_type r r) (equal_sums y y) (true_same relation_type.the_type r r refl) (sum_itself y))
phrase_itself (phrases.Function n r c) =
    both (nat_eq n n) (sameb relation_type.the_type r r && int_eq c c) (nat_itself n)
    (both (sameb relation_type.the_type r r) (int_eq c c) (true_same relation_type.the_type r r refl) ((Decides-int_eq c c).1 refl))

pub one_number : (ps : List GroundPhrase) → IsDistinct equal_phrases ps → HaveOneNumber ps
one_number ps h = one_number_by phrase_itself ps h
