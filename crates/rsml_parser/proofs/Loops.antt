-- A loop that reads items while one begins, beside `many_from`.
use Rattle.std.proofs.Common.{◌≡◌, ℕ, zero, suc, ◌+◌, ◌-◌, ◌<◌, ◌≤◌, Bool, true, false, List, [], ◌∷◌, ◌++◌, length, Ok, Err, append-nil, refl, sym, ap, ◌∙◌, arith, append_assoc}
use Rattle.rsml_syntax.specs.text.Tokens.{Tokens}
use Rattle.rsml_syntax.specs.declared.token.Mark.{Mark}
use Rattle.rsml_syntax.specs.declared.token.Token.{Token}
use Rattle.rsml_parser.specs.declared.reader.Fault.{Fault}
use Rattle.rsml_parser.specs.declared.reader.Fault.TheVariants as faults
use Rattle.rsml_parser.specs.Parsers.{Fails, Stop, Outcome, Parser, ◌>>=◌, ◌>>◌, and_then, pure, first, sees_mark, skip, mark, many_from, many, and_more, separated}
use Rattle.rsml_parser.proofs.Outcomes.{takes_first, takes_second, then_ok, then_err}
use Rattle.rsml_syntax.specs.grammar.Layout.{is_mark}

-- a fault is passed on
pub passed_on : {A B : Type 0} (r : Outcome A) (s : Outcome B) (e : Fault) (left : Tokens) → ((stop : Stop) → r ≡ Err stop → s ≡ Err stop) → Fails r e left → Fails s e left
passed_on r s faults.NoMemory left f h = tt
passed_on r s faults.Syntax left f h = f (false, left) h
passed_on r s faults.TooDeep left f h = f (true, left) h

-- the mark that is seen is read
pub mark_seen : {A : Type 0} (m : Mark) (item : Parser A) (ts : Tokens) → sees_mark m ts ≡ true → (mark m >> item) ts ≡ item (skip ts)
unfolding mark and_then
mark_seen m item ts b = then_ok (mark m ts) (λ _. item) tt (skip ts) (takes_first (sees_mark m ts) _ _ b)

module _ {A : Type 0} (test : Token → Bool) (item : Parser A) where
  -- some items are found, and the others are still to be read
  unfoldable pub going : ℕ → List A → Parser (List A)
  going n found = many_from (first test) item n >>= (λ more. pure (found ++ more))

  pub starts : (n : ℕ) (found : List A) (ts : Tokens) → n ≡ length ts → going (n - 0) found ts ≡ and_more (first test) item found ts
  unfolding going and_more many
  starts n found ts e = let k : n - 0 ≡ length ts = omega (arith, e) in ap (λ k. going k found ts) k

  -- where none is found before
  pub none_found : (found : List A) (ts : Tokens) → found ≡ [] → and_more (first test) item found ts ≡ many (first test) item ts
  unfolding and_more and_then
  none_found found ts e = ap (λ found. and_more (first test) item found ts) e ∙ plain (many (first test) item ts)
    where
      plain : (o : Outcome (List A)) → and_then o (λ more. pure ([] ++ more)) ≡ o
      plain (Ok p) = refl
      plain (Err s) = refl

  stops : (n : ℕ) (found : List A) (ts : Tokens) → first test ts ≡ false → many_from (first test) item n ts ≡ Ok ([], ts)
  unfolding many_from
  stops zero found ts b = refl
  stops (suc n) found ts b = takes_second (first test ts) _ (pure [] ts) b

  -- no item begins
  pub stopped : (n : ℕ) (found : List A) (ts : Tokens) (y : Outcome (List A)) → first test ts ≡ false → going n found ts ≡ y → y ≡ Ok (found, ts)
  unfolding going
  stopped n found ts y b h =
      sym h ∙ then_ok (many_from (first test) item n ts) (λ more. pure (found ++ more)) [] ts (stops n found ts b)
      ∙ ap (λ (l : List A). Ok (l, ts)) (append-nil found)

  -- no turn is left
  pub ended : (n at : ℕ) (found : List A) (ts : Tokens) (y : Outcome (List A)) → n ≤ at → going (n - at) found ts ≡ y → y ≡ Ok (found, ts)
  unfolding going and_then many_from
  ended n at found ts y le h =
      let none : n - at ≡ 0 = omega arith in
      sym h ∙ ap (λ k. going k found ts) none ∙ ap (λ (l : List A). Ok (l, ts)) (append-nil found)

  one : (n : ℕ) (ts : Tokens) → first test ts ≡ true → many_from (first test) item (suc n) ts ≡ and_then (item ts) (λ x. many_from (first test) item n >>= (λ xs. pure (x ∷ xs)))
  unfolding many_from
  one n ts b = takes_first (first test ts) _ (pure [] ts) b

  -- an item was read
  pub turn : (n at : ℕ) (found : List A) (ts after : Tokens) (x : A) (y : Outcome (List A)) → at < n → first test ts ≡ true → item ts ≡ Ok (x, after) →
      going (n - at) found ts ≡ y → going (n - (at + 1)) (found ++ x ∷ []) after ≡ y
  unfolding going and_then
  turn n at found ts after x y lt b e h =
      let k : n - at ≡ suc (n - (at + 1)) = omega arith in
      let more : A → Parser (List A) = λ x. many_from (first test) item (n - (at + 1)) >>= (λ xs. pure (x ∷ xs)) in
      sym (ap (λ k. going k found ts) k ∙ ap (λ o. and_then o (λ more. pure (found ++ more))) (one (n - (at + 1)) ts b ∙ then_ok (item ts) more x after e)
      ∙ joins (many_from (first test) item (n - (at + 1)) after)) ∙ h
    where
      joins : (o : Outcome (List A)) → and_then (and_then o (λ xs. pure (x ∷ xs))) (λ more. pure (found ++ more)) ≡ and_then o (λ more. pure ((found ++ x ∷ []) ++ more))
      joins (Ok p) = ap (λ (l : List A). Ok (l, p.1)) (sym (append_assoc found (x ∷ []) p.0))
      joins (Err s) = refl

  -- an item failed
  pub failed : (n at : ℕ) (found : List A) (ts : Tokens) (y : Outcome (List A)) → at < n → first test ts ≡ true → (s : Stop) → item ts ≡ Err s →
      going (n - at) found ts ≡ y → y ≡ Err s
  unfolding going
  failed n at found ts y lt b s e h =
      let k : n - at ≡ suc (n - (at + 1)) = omega arith in
      let more : A → Parser (List A) = λ x. many_from (first test) item (n - (at + 1)) >>= (λ xs. pure (x ∷ xs)) in
      sym h ∙ ap (λ k. going k found ts) k
      ∙ then_err (many_from (first test) item (suc (n - (at + 1))) ts) (λ more. pure (found ++ more)) s (one (n - (at + 1)) ts b ∙ then_err (item ts) more s e)

-- the first of some items was read
pub starts_after : {A : Type 0} (m : Mark) (item : Parser A) (n : ℕ) (found : List A) (x : A) (ts after : Tokens) → n ≡ length after → found ≡ x ∷ [] →
    item ts ≡ Ok (x, after) → going (is_mark m) (mark m >> item) (n - 0) found after ≡ separated m item ts
unfolding going many
starts_after {A} m item n found x ts after e f h =
    let k : n - 0 ≡ length after = omega (arith, e) in
    let rest : A → Parser (List A) = λ x. many (sees_mark m) (mark m >> item) >>= (λ xs. pure (x ∷ xs)) in
    ap (λ k. going (is_mark m) (mark m >> item) k found after) k ∙ ap (λ l. going (is_mark m) (mark m >> item) (length after) l after) f
    ∙ sym (then_ok (item ts) rest x after h)
