-- What is spelled is read again: tokens and lists.
use Rattle.std.proofs.Common.{◌≡◌, ℕ, zero, suc, ◌+◌, ◌≤◌, length, arith, Bool, true, false, List, [], ◌∷◌, Ok, Err, refl, sym, ap, ◌∙◌}
use Rattle.std.specs.Prelude.{not, IsTrue}
use Rattle.std.specs.List.{list_all}
use denote.Enum.Bare.{true_same}
use Rattle.rsml_syntax.specs.grammar.Grammar as put
use Rattle.rsml_syntax.specs.grammar.Layout.{is_mark}
use Rattle.rsml_syntax.specs.text.Marks.{same_mark}
use Rattle.rsml_syntax.specs.text.Tokens.{Tokens}
use Rattle.rsml_syntax.specs.grammar.WellFormed.{has_items}
use Rattle.rsml_syntax.specs.text.Words.{same_word}
use Rattle.rsml_syntax.specs.contracts.token.Mark as M
use Rattle.rsml_syntax.specs.contracts.token.Word as W
use Rattle.rsml_syntax.specs.declared.token.Mark.{Mark}
use Rattle.rsml_syntax.specs.declared.token.Mark.TheVariants as marks
use Rattle.rsml_syntax.specs.declared.token.Token.{Token}
use Rattle.rsml_syntax.specs.declared.token.Word.{Word}
use Rattle.rsml_parser.specs.Parsers.{Parser, ◌>>=◌, ◌>>◌, and_then, pure, first, sees_mark, word, mark, is_not, many_from, many, separated, until, in_parentheses}
use Rattle.rsml_parser.proofs.Outcomes.{then_ok, takes_first, takes_second}
use Rattle.rsml_parser.proofs.Lists.{Shrinks, many_fuel}
use Rattle.rsml_parser.proofs.Spelling.{halves, each_after, in_parens}

pub word_again : (w : Word) (rest : Tokens) → word w (put.word w rest) ≡ Ok (tt, rest)
unfolding word
word_again w rest = takes_first (same_word w w) (Ok (tt, rest)) (Err (false, put.word w rest)) (true_same W.the_type w w refl)

pub mark_again : (m : Mark) (rest : Tokens) → mark m (put.mark m rest) ≡ Ok (tt, rest)
unfolding mark
mark_again m rest = takes_first (same_mark m m) (Ok (tt, rest)) (Err (false, put.mark m rest)) (true_same M.the_type m m refl)

-- Items, each of which begins so and is free to stand before the next.

module _ {A : Type 0} (test : Token → Bool) (item : Parser A) (spell : A → Tokens → Tokens) (good : A → Bool) (Free : Tokens → Type 0)
    (again : (x : A) (rest : Tokens) → IsTrue (good x) → Free rest → item (spell x rest) ≡ Ok (x, rest))
    (start : (x : A) (rest : Tokens) → IsTrue (good x) → first test (spell x rest) ≡ true)
    (next : (x : A) (rest : Tokens) → IsTrue (good x) → Free (spell x rest)) where
  pub each_free : (xs : List A) (rest : Tokens) → IsTrue (list_all good xs) → Free rest → Free (put.each spell xs rest)
  each_free [] rest all free = free
  each_free (x ∷ xs) rest all free = next x (put.each spell xs rest) (halves (good x) (list_all good xs) all).0

  from_again : (n : ℕ) (xs : List A) (rest : Tokens) → length xs ≤ n → IsTrue (list_all good xs) → Free rest → first test rest ≡ false → many_from (first test) item n (put.each spell xs rest) ≡ Ok (xs, rest)
  unfolding many_from
  from_again zero [] rest l all free b = refl
  from_again (suc n) [] rest l all free b = takes_second (first test rest) _ (pure [] rest) b
  from_again zero (x ∷ xs) rest l all free b = absurd (omega (arith, l))
  from_again (suc n) (x ∷ xs) rest l all free b =
      let ts = put.each spell xs rest in
      let is = halves (good x) (list_all good xs) all in
      takes_first (first test (spell x ts)) _ _ (start x ts is.0)
      ∙ then_ok (item (spell x ts)) (λ x. many_from (first test) item n >>= (λ xs. pure (x ∷ xs))) x ts (again x ts is.0 (each_free xs rest is.1 free))
      ∙ then_ok (many_from (first test) item n ts) (λ xs. pure (x ∷ xs)) xs rest (from_again n xs rest (omega (arith, l)) is.1 free b)

  pub many_again : Shrinks item → (xs : List A) (rest : Tokens) → IsTrue (list_all good xs) → Free rest → first test rest ≡ false → many (first test) item (put.each spell xs rest) ≡ Ok (xs, rest)
  unfolding many
  many_again sh xs rest all free b =
      let n = length (put.each spell xs rest) in
      many_fuel test item sh n (length xs + n) (put.each spell xs rest) (omega arith) (omega arith) ∙ from_again (length xs + n) xs rest (omega arith) all free b

-- Items up to the mark, before which an item may stand.
module _ {A : Type 0} (m : Mark) (item : Parser A) (spell : A → Tokens → Tokens) (good : A → Bool) (Free : Tokens → Type 0)
    (again : (x : A) (rest : Tokens) → IsTrue (good x) → Free rest → item (spell x rest) ≡ Ok (x, rest))
    (start : (x : A) (rest : Tokens) → IsTrue (good x) → first (is_not m) (spell x rest) ≡ true)
    (next : (x : A) (rest : Tokens) → IsTrue (good x) → Free (spell x rest)) (close : (rest : Tokens) → Free (put.mark m rest)) (shrinks : Shrinks item) where
  pub until_again : (xs : List A) (rest : Tokens) → IsTrue (list_all good xs) → until m item (put.each spell xs (put.mark m rest)) ≡ Ok (xs, rest)
  until_again xs rest all =
      then_ok (many (first (is_not m)) item (put.each spell xs (put.mark m rest))) (λ xs. mark m >> pure xs) xs (put.mark m rest)
      (many_again (is_not m) item spell good Free again start next shrinks xs (put.mark m rest) all (close rest) (ap not (true_same M.the_type m m refl)))
      ∙ then_ok (mark m (put.mark m rest)) (λ _. pure xs) tt rest (mark_again m rest)

-- Items with a mark between, before which an item may stand.
module _ {A : Type 0} (m : Mark) (item : Parser A) (spell : A → Tokens → Tokens) (good : A → Bool) (Free : Tokens → Type 0)
    (again : (x : A) (rest : Tokens) → IsTrue (good x) → Free rest → item (spell x rest) ≡ Ok (x, rest))
    (next : (rest : Tokens) → Free (put.mark m rest)) (shrinks : Shrinks (mark m >> item)) where
  after_again : (x : A) (rest : Tokens) → IsTrue (good x) → Free rest → (mark m >> item) (put.mark m (spell x rest)) ≡ Ok (x, rest)
  after_again x rest is free = then_ok (mark m (put.mark m (spell x rest))) (λ _. item) tt (spell x rest) (mark_again m (spell x rest)) ∙ again x rest is free

  after_free : (xs : List A) (rest : Tokens) → Free rest → Free (put.each_after m spell xs rest)
  after_free [] rest free = free
  after_free (x ∷ xs) rest free = next (spell x (put.each_after m spell xs rest))

  pub separated_again : (xs : List A) (rest : Tokens) → IsTrue (has_items xs) → IsTrue (list_all good xs) → Free rest → sees_mark m rest ≡ false →
      separated m item (put.separated m spell xs rest) ≡ Ok (xs, rest)
  separated_again [] rest has all free b = absurd cc
  separated_again (x ∷ xs) rest has all free b =
      let is = halves (good x) (list_all good xs) all in
      let ts = put.each_after m spell xs rest in
      then_ok (item (spell x ts)) (λ x. many (sees_mark m) (mark m >> item) >>= (λ xs. pure (x ∷ xs))) x ts (again x ts is.0 (after_free xs rest free))
      ∙ then_ok (many (sees_mark m) (mark m >> item) ts) (λ xs. pure (x ∷ xs)) xs rest
      (ap (many (sees_mark m) (mark m >> item)) (sym (each_after m spell xs rest))
      ∙ many_again (is_mark m) (mark m >> item) (λ x r. put.mark m (spell x r)) good Free after_again (λ x r is. true_same M.the_type m m refl) (λ x r is. next (spell x r)) shrinks xs rest is.1 free b)

-- in parentheses
module _ {A : Type 0} (item : Parser A) (spell : A → Tokens → Tokens) (good : A → Bool) (Free : Tokens → Type 0)
    (again : (x : A) (rest : Tokens) → IsTrue (good x) → Free rest → item (spell x rest) ≡ Ok (x, rest))
    (start : (x : A) (rest : Tokens) → IsTrue (good x) → sees_mark marks.CloseParen (spell x rest) ≡ false)
    (comma : (rest : Tokens) → Free (put.mark marks.Comma rest)) (close : (rest : Tokens) → Free (put.mark marks.CloseParen rest))
    (shrinks : Shrinks (mark marks.Comma >> item)) where
  pub in_parentheses_again : (xs : List A) (rest : Tokens) → IsTrue (list_all good xs) → in_parentheses item (in_parens spell xs rest) ≡ Ok (xs, rest)
  unfolding and_then mark
  in_parentheses_again [] rest all = refl
  in_parentheses_again (x ∷ xs) rest all =
      let ts = put.separated marks.Comma spell (x ∷ xs) (put.mark marks.CloseParen rest) in
      let is = halves (good x) (list_all good xs) all in
      takes_second (sees_mark marks.CloseParen ts) _ _ (start x (put.each_after marks.Comma spell xs (put.mark marks.CloseParen rest)) is.0)
      ∙ then_ok (separated marks.Comma item ts) (λ xs. mark marks.CloseParen >> pure xs) (x ∷ xs) (put.mark marks.CloseParen rest)
      (separated_again marks.Comma item spell good Free again comma shrinks (x ∷ xs) (put.mark marks.CloseParen rest) refl all (close rest) refl)
