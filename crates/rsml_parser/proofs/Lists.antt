-- The laws of lists, and of the end of the tokens.
use Rattle.std.proofs.Common.{◌≡◌, inl, inr, length-append, ℕ, zero, suc, ◌+◌, ◌<◌, ◌≤◌, Bool, true, false, List, [], ◌∷◌, ◌++◌, length, Ok, Err, refl, sym, ap, ◌∙◌, arith, subst}
use Rattle.std.specs.Prelude.{if◌then◌else◌}
use Rattle.rsml_syntax.specs.text.Tokens.{Tokens}
use Rattle.rsml_syntax.specs.declared.token.Mark.{Mark}
use Rattle.rsml_syntax.specs.declared.token.Token.{Token}
use Rattle.rsml_syntax.specs.declared.token.Word.{Word}
use Rattle.rsml_parser.specs.Parsers.{Stop, Outcome, Parser, ◌>>=◌, and_then, pure, choose, first, sees_word, sees_mark, word, mark, end, many_from, many}
use Rattle.rsml_syntax.specs.grammar.Grammar as put
use Rattle.rsml_parser.proofs.Forms.{Shares, Form, Then, left, none_yet, past, form_bind, form_pure, form_as, form_if}
use Rattle.rsml_parser.proofs.Leaves.{form_word, form_mark}
use Rattle.rsml_parser.proofs.Outcomes.{same_ok, same_err, bind_ok, chosen, cancel}

-- A reading that takes a token.

pub record Shrinks {A : Type 0} (read : Parser A) : Type 0 where
  pub less : (ts : Tokens) (x : A) (rest : Tokens) → read ts ≡ Ok (x, rest) → length rest < length ts

skips : (b : Bool) (t : Token) (ts : Tokens) (x : Unit {0}) (rest : Tokens) → (let o : Outcome (Unit {0}) = if b then Ok (tt, ts) else Err (false, t ∷ ts) in o) ≡ Ok (x, rest) → length rest < length (t ∷ ts)
skips true t ts x rest h = let n = ap length (same_ok tt x ts rest h).1 in omega (arith, n)
skips false t ts x rest h = absurd cc

shrinks_word : (w : Word) → Shrinks (word w)
unfolding word
shrinks_word w = record { less = less }
  where
    less : (ts : Tokens) (x : Unit {0}) (rest : Tokens) → word w ts ≡ Ok (x, rest) → length rest < length ts
    less [] x rest h = absurd cc
    less (t ∷ ts) x rest h = skips (sees_word w (t ∷ ts)) t ts x rest h

shrinks_mark : (m : Mark) → Shrinks (mark m)
unfolding mark
shrinks_mark m = record { less = less }
  where
    less : (ts : Tokens) (x : Unit {0}) (rest : Tokens) → mark m ts ≡ Ok (x, rest) → length rest < length ts
    less [] x rest h = absurd cc
    less (t ∷ ts) x rest h = skips (sees_mark m (t ∷ ts)) t ts x rest h

shrinks_first : {A B : Type 0} {p : Parser A} {f : A → Parser B} {Q : Bool → A → B → Tokens → Tokens → Type 0} → Shrinks p → ((x : A) → Form (f x) (λ k. Q k x)) → Shrinks (p >>= f)
shrinks_first {A} {B} {p} {f} {Q} one two = record {
  less = λ ts y rest h.
      let e = bind_ok (p ts) f (y, rest) h in
      let l = left (two e.0.0) e.0.1 y rest e.2 in
      let n = ap length l.1 in let m = length-append l.0 rest in let k = one.less ts e.0.0 e.0.1 e.1 in omega (arith, n, m, k);
}

shrinks_later : {A B : Type 0} {p : Parser A} {P : Bool → A → Tokens → Tokens → Type 0} {f : A → Parser B} → Form p P → ((x : A) → Shrinks (f x)) → Shrinks (p >>= f)
shrinks_later {A} {B} {p} {P} {f} one two = record {
  less = λ ts y rest h.
      let e = bind_ok (p ts) f (y, rest) h in
      let l = left one ts e.0.0 e.0.1 e.1 in
      let n = ap length l.1 in let m = length-append l.0 e.0.1 in let k = (two e.0.0).less e.0.1 y rest e.2 in omega (arith, n, m, k);
}

shrinks_if : {A : Type 0} {test : Token → Bool} {p q : Parser A} → Shrinks p → Shrinks q → Shrinks (choose (first test) p q)
shrinks_if {A} {test} {p} {q} one two = record {
  less = λ ts x rest h.
      elim (chosen (first test ts) (p ts) (q ts) (Ok (x, rest)) h) [ inl e ↦ one.less ts x rest e.1 | inr e ↦ two.less ts x rest e.1 ];
}

-- The laws of a reading that takes a token: an item of a list.
pub record Item {A : Type 0} (read : Parser A) (P : Bool → A → Tokens → Tokens → Type 0) : Type 0 where
  pub form : Form read P
  pub shrinks : Shrinks read

pub item_word : {A : Type 0} {f : Unit {0} → Parser A} {Q : Bool → Unit {0} → A → Tokens → Tokens → Type 0} (w : Word) → ((x : Unit {0}) → Form (f x) (λ k. Q k x)) →
    Item (word w >>= f) (λ k. Then (λ _ rest us. us ≡ put.word w rest) (Q k))
item_word w two = record { form = form_bind (form_word w) two; shrinks = shrinks_first (shrinks_word w) two }

pub item_mark : {A : Type 0} {f : Unit {0} → Parser A} {Q : Bool → Unit {0} → A → Tokens → Tokens → Type 0} (m : Mark) → ((x : Unit {0}) → Form (f x) (λ k. Q k x)) →
    Item (mark m >>= f) (λ k. Then (λ _ rest us. us ≡ put.mark m rest) (Q k))
item_mark m two = record { form = form_bind (form_mark m) two; shrinks = shrinks_first (shrinks_mark m) two }

pub item_first : {A B : Type 0} {p : Parser A} {P : Bool → A → Tokens → Tokens → Type 0} {f : A → Parser B} {Q : Bool → A → B → Tokens → Tokens → Type 0} →
    Item p P → ((x : A) → Form (f x) (λ k. Q k x)) → Item (p >>= f) (λ k. Then (P k) (Q k))
item_first one two = record { form = form_bind one.form two; shrinks = shrinks_first one.shrinks two }

pub item_later : {A B : Type 0} {p : Parser A} {P : Bool → A → Tokens → Tokens → Type 0} {f : A → Parser B} {Q : Bool → A → B → Tokens → Tokens → Type 0} →
    Form p P → ((x : A) → Item (f x) (λ k. Q k x)) → Item (p >>= f) (λ k. Then (P k) (Q k))
item_later one two = record { form = form_bind one (λ x. (two x).form); shrinks = shrinks_later one (λ x. (two x).shrinks) }

pub item_if : {A : Type 0} {test : Token → Bool} {p q : Parser A} {P : Bool → A → Tokens → Tokens → Type 0} → Item p P → Item q P → Item (choose (first test) p q) P
item_if one two = record { form = form_if one.form two.form; shrinks = shrinks_if one.shrinks two.shrinks }

pub item_as : {A : Type 0} {read : Parser A} {P Q : Bool → A → Tokens → Tokens → Type 0} → Item read P →
    ((k : Bool) (x : A) (rest us : Tokens) → P k x rest us → Q k x rest us) → Item read Q
item_as item say = record { form = form_as item.form say; shrinks = item.shrinks }

-- Items while one begins.

abbrev pub Each : {A : Type 0} → (A → Tokens → Tokens → Type 0) → List A → Tokens → Tokens → Type 0
Each P [] rest us = us ≡ rest
Each P (x ∷ xs) rest us = (mid : Tokens) × P x mid us × Each P xs rest mid

no_items : {A : Type 0} (P : Bool → A → Tokens → Tokens → Type 0) → Form (pure []) (λ k. Each (P k))
no_items {A} P = form_as (form_pure []) (λ k xs rest us s. subst (λ (l : List A). Each (P k) l rest us) (sym s.0) s.1)

pub form_many_from : {A : Type 0} {item : Parser A} {P : Bool → A → Tokens → Tokens → Type 0} (test : Token → Bool) → Form item P → (n : ℕ) → Form (many_from (first test) item n) (λ k. Each (P k))
unfolding many_from
form_many_from {A} {item} {P} test form zero = no_items P
form_many_from {A} {item} {P} test form (suc n) =
    form_if (form_as (form_bind form (λ x. form_bind (form_many_from test form n) (λ xs. form_pure (x ∷ xs)))) (λ k l rest us s.
    let r = s.later in
    subst (λ (l : List A). Each (P k) l rest us) (sym r.later.0) (s.mid, s.before, subst (λ m. Each (P k) r.got m s.mid) r.later.1 r.before))) (no_items P)

-- more turns than tokens change nothing
pub many_fuel : {A : Type 0} (test : Token → Bool) (item : Parser A) → Shrinks item → (n m : ℕ) (ts : Tokens) → length ts ≤ n → length ts ≤ m → many_from (first test) item n ts ≡ many_from (first test) item m ts
unfolding many_from and_then
many_fuel test item sh zero zero ts l k = refl
many_fuel test item sh zero (suc m) [] l k = refl
many_fuel test item sh (suc n) zero [] l k = refl
many_fuel test item sh (suc n) (suc m) [] l k = refl
many_fuel test item sh zero m (t ∷ ts) l k = absurd (omega (arith, l))
many_fuel test item sh n zero (t ∷ ts) l k = absurd (omega (arith, k))
many_fuel {A} test item sh (suc n) (suc m) (t ∷ ts) l k =
    ap (λ o. if test t then o else pure [] (t ∷ ts)) (go (item (t ∷ ts)) refl (many_fuel test item sh n m))
  where
    rest_of : ℕ → A → Parser (List A)
    rest_of j x = many_from (first test) item j >>= (λ xs. pure (x ∷ xs))

    go : (o : Outcome A) → item (t ∷ ts) ≡ o → ((us : Tokens) → length us ≤ n → length us ≤ m → many_from (first test) item n us ≡ many_from (first test) item m us) → and_then o (rest_of n) ≡ and_then o (rest_of m)
    go (Ok p) e rec = let lt = sh.less (t ∷ ts) p.0 p.1 e in ap (λ o. and_then o (λ xs. pure (p.0 ∷ xs))) (rec p.1 (omega (arith, lt, l)) (omega (arith, lt, k)))
    go (Err s) e rec = refl

pub form_many : {A : Type 0} {item : Parser A} {P : Bool → A → Tokens → Tokens → Type 0} (test : Token → Bool) → Item item P → Form (many (first test) item) (λ k. Each (P k))
unfolding many
form_many {A} {item} {P} test is = record {
  takes = λ k ts. (form_many_from test is.form (length ts)).takes k ts;
  lifts = λ k ts. (form_many_from test is.form (length ts)).lifts k ts;
  begins = λ k ts. (form_many_from test is.form (length ts)).begins k ts;
  opens = λ ts. (form_many_from test is.form (length ts)).opens ts;
  least = ([], λ k rest fit. record { us = rest; spelled = refl; fit = fit });
  same = λ front t a b x g h. let n = length (front ++ t ∷ a) + length (front ++ t ∷ b) in
      many_fuel test item is.shrinks (length (front ++ t ∷ b)) n (front ++ t ∷ b) (omega arith) (omega arith)
      ∙ (form_many_from test is.form n).same front t a b x g (many_fuel test item is.shrinks n (length (front ++ t ∷ a)) (front ++ t ∷ a) (omega arith) (omega arith) ∙ h);
  fails = λ front t a b k g h. let n = length (front ++ t ∷ a) + length (front ++ t ∷ b) in
      many_fuel test item is.shrinks (length (front ++ t ∷ b)) n (front ++ t ∷ b) (omega arith) (omega arith)
      ∙ (form_many_from test is.form n).fails front t a b k g (many_fuel test item is.shrinks n (length (front ++ t ∷ a)) (front ++ t ∷ a) (omega arith) (omega arith) ∙ h);
}

-- The end.

pub form_end : Form end (λ _ x rest us. us ≡ rest)
unfolding end
form_end = record {
  takes = λ k. took;
  lifts = λ k ts x rest h stop more s. record { us = more; spelled = refl; shares = subst (λ l. Shares l stop more) (sym (took ts x rest h)) s };
  begins = λ k ts s h. (tt, λ rest fit. record { us = rest; spelled = refl; shares = subst (λ l. Shares ts l rest) (stopped k ts s h) (none_yet ts rest fit) });
  opens = never;
  least = (tt, λ k rest fit. record { us = rest; spelled = refl; fit = fit });
  same = same_end;
  fails = fails_end;
}
  where
    took : (ts : Tokens) (x : Unit {0}) (rest : Tokens) → end ts ≡ Ok (x, rest) → ts ≡ rest
    took [] x rest h = (same_ok tt x [] rest h).1
    took (t ∷ ts) x rest h = absurd cc

    at : (k : Bool) (ts : Tokens) → ts ≡ past k (false, ts)
    at true ts = refl
    at false ts = refl

    stopped : (k : Bool) (ts : Tokens) (s : Stop) → end ts ≡ Err s → ts ≡ past k s
    stopped k [] s h = absurd cc
    stopped k (t ∷ ts) (j, r) h = let e = same_err false j (t ∷ ts) r h in at k (t ∷ ts) ∙ ap (λ (b : Bool). past k (b, t ∷ ts)) e.0 ∙ ap (λ (l : Tokens). past k (j, l)) e.1

    never : (ts : Tokens) → end ts ≡ Err (true, []) → ⊥
    never [] h = cc
    never (t ∷ ts) h = let e = (same_err false true (t ∷ ts) [] h).0 in cc

    same_end : (front : Tokens) (t : Token) (a b : Tokens) (x : Unit {0}) (g : Tokens) → end (front ++ t ∷ a) ≡ Ok (x, g ++ t ∷ a) → end (front ++ t ∷ b) ≡ Ok (x, g ++ t ∷ b)
    same_end [] t a b x g h = absurd cc
    same_end (u ∷ us) t a b x g h = absurd cc

    fails_end : (front : Tokens) (t : Token) (a b : Tokens) (k : Bool) (g : Tokens) → end (front ++ t ∷ a) ≡ Err (k, g ++ t ∷ a) → end (front ++ t ∷ b) ≡ Err (k, g ++ t ∷ b)
    fails_end [] t a b k g h = let e = same_err false k (t ∷ a) (g ++ t ∷ a) h in
        ap (λ (j : Bool). Err (j, t ∷ b)) e.0 ∙ ap (λ (l : Tokens). Err (k, l ++ t ∷ b)) (cancel [] g (t ∷ a) e.1)
    fails_end (u ∷ us) t a b k g h = let e = same_err false k (u ∷ us ++ t ∷ a) (g ++ t ∷ a) h in
        ap (λ (j : Bool). Err (j, u ∷ us ++ t ∷ b)) e.0 ∙ ap (λ (l : Tokens). Err (k, l ++ t ∷ b)) (cancel (u ∷ us) g (t ∷ a) e.1)
