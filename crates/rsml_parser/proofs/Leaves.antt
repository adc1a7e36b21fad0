-- The laws of reading one token, and of the end.
use Rattle.std.proofs.Common.{◌≡◌, inl, inr, length-append, ℕ, Bool, true, false, List, [], ◌∷◌, ◌++◌, length, Option, Some, None, Ok, Err, refl, sym, ap, ◌∙◌, arith, rules, subst}
use Rattle.std.specs.Prelude.{if◌then◌else◌, IsFalse}
use Rattle.std.proofs.Math.Bool.{or-true}
use Rattle.std.proofs.lemmas.Str.{encode_ascii}
use denote.Enum.Bare.{same_true}
use Rattle.rsml_syntax.specs.grammar.Grammar as put
use Rattle.rsml_syntax.specs.grammar.Layout.{is_mark, is_the_word}
use Rattle.rsml_syntax.specs.text.Tokens.{Tokens, IsToken, is_word}
use Rattle.rsml_syntax.specs.text.Words.{spelling}
use Rattle.rsml_syntax.specs.contracts.token.Mark as M
use Rattle.rsml_syntax.specs.contracts.token.Word as W
use Rattle.rsml_syntax.specs.declared.edition.Edition.TheVariants as editions
use Rattle.rsml_syntax.specs.declared.token.Mark.{Mark}
use Rattle.rsml_syntax.specs.declared.token.Token.{Token}
use Rattle.rsml_syntax.specs.declared.token.Token.TheVariants as token
use Rattle.rsml_syntax.specs.declared.token.Word.{Word}
use Rattle.rsml_parser.specs.Parsers.{Stop, Outcome, Parser, first, found, of_first, skip, word, mark, name, number, seen_name, seen_number}
use Rattle.rsml_parser.proofs.Forms.{Shares, Form, none_yet, one_more, past, form_same}
use Rattle.rsml_parser.proofs.Outcomes.{same_ok, same_err, chosen, cancel}

-- Read by a look at the first token.

abbrev pub looked : {A : Type 0} → (Token → Option A) → Parser A
looked see ts = found (of_first see ts) ts

found_ok : {A : Type 0} (o : Option A) (ts : Tokens) (x : A) (r : Tokens) → found o ts ≡ Ok (x, r) → (o ≡ Some x) × (skip ts ≡ r)
found_ok (Some y) ts x r h = let e = same_ok y x (skip ts) r h in (ap (λ z. Some z) e.0, e.1)
found_ok None ts x r h = absurd cc

pub found_err : {A : Type 0} (o : Option A) (ts : Tokens) (k : Bool) (r : Tokens) → found o ts ≡ Err (k, r) → (o ≡ None) × (false ≡ k) × (ts ≡ r)
found_err (Some y) ts k r h = absurd cc
found_err None ts k r h = let e = same_err false k ts r h in (refl, e.0, e.1)

-- The token is told by what was seen of it. `any` is put in where there is none.
pub form_looked : {A : Type 0} (see : Token → Option A) (spell : A → Token) (any : A) → IsToken editions.Second (spell any) →
    ((t : Token) (x : A) → see t ≡ Some x → t ≡ spell x) → Form (looked see) (λ _ x rest us. us ≡ spell x ∷ rest)
form_looked {A} see spell any fits sees = record {
  takes = λ k. took;
  lifts = λ k ts x rest h stop more s. record {
    us = spell x ∷ more;
    spelled = refl;
    shares = subst (λ l. Shares l stop (spell x ∷ more)) (sym (took ts x rest h)) (one_more (spell x) rest stop more s);
  };
  begins = λ k ts s h. (
    any,
    λ rest fit. record {
      us = spell any ∷ rest;
      spelled = refl;
      shares = subst (λ l. Shares ts l (spell any ∷ rest)) (stopped k ts s h) (none_yet ts (spell any ∷ rest) (fits, fit));
    },
  );
  opens = λ ts h. absurd (let e = (found_err (of_first see ts) ts true [] h).1 in cc);
  least = (any, λ k rest fit. record { us = spell any ∷ rest; spelled = refl; fit = (fits, fit) });
  same = same_looked;
  fails = fails_looked;
}
  where
    took : (ts : Tokens) (x : A) (rest : Tokens) → looked see ts ≡ Ok (x, rest) → ts ≡ spell x ∷ rest
    took [] x rest h = absurd cc
    took (t ∷ ts) x rest h = let e = found_ok (see t) (t ∷ ts) x rest h in ap (λ u. u ∷ ts) (sees t x e.0) ∙ ap (λ l. spell x ∷ l) e.1

    at : (k : Bool) (ts : Tokens) → ts ≡ past k (false, ts)
    at true ts = refl
    at false ts = refl

    stopped : (k : Bool) (ts : Tokens) (s : Stop) → looked see ts ≡ Err s → ts ≡ past k s
    stopped k ts (j, r) h = let e = found_err (of_first see ts) ts j r h in at k ts ∙ ap (λ (b : Bool). past k (b, ts)) e.1 ∙ ap (λ (l : Tokens). past k (j, l)) e.2

    same_looked : (front : Tokens) (t : Token) (a b : Tokens) (x : A) (g : Tokens) → looked see (front ++ t ∷ a) ≡ Ok (x, g ++ t ∷ a) → looked see (front ++ t ∷ b) ≡ Ok (x, g ++ t ∷ b)
    same_looked [] t a b x g h = let e = found_ok (see t) (t ∷ a) x (g ++ t ∷ a) h in let n = ap length e.1 in let l = length-append g (t ∷ a) in absurd (omega (arith, n, l))
    same_looked (u ∷ us) t a b x g h = let e = found_ok (see u) (u ∷ us ++ t ∷ a) x (g ++ t ∷ a) h in
        ap (λ o. found o (u ∷ us ++ t ∷ b)) e.0 ∙ ap (λ (l : Tokens). Ok (x, l ++ t ∷ b)) (cancel us g (t ∷ a) e.1)

    fails_looked : (front : Tokens) (t : Token) (a b : Tokens) (k : Bool) (g : Tokens) → looked see (front ++ t ∷ a) ≡ Err (k, g ++ t ∷ a) → looked see (front ++ t ∷ b) ≡ Err (k, g ++ t ∷ b)
    fails_looked [] t a b k g h = let e = found_err (see t) (t ∷ a) k (g ++ t ∷ a) h in
        ap (λ o. found o (t ∷ b)) e.0 ∙ ap (λ (j : Bool). Err (j, t ∷ b)) e.1 ∙ ap (λ (l : Tokens). Err (k, l ++ t ∷ b)) (cancel [] g (t ∷ a) e.2)
    fails_looked (u ∷ us) t a b k g h = let e = found_err (see u) (u ∷ us ++ t ∷ a) k (g ++ t ∷ a) h in
        ap (λ o. found o (u ∷ us ++ t ∷ b)) e.0 ∙ ap (λ (j : Bool). Err (j, u ∷ us ++ t ∷ b)) e.1 ∙ ap (λ (l : Tokens). Err (k, l ++ t ∷ b)) (cancel (u ∷ us) g (t ∷ a) e.2)

-- A token that is known.

abbrev seen : (test : Token → Bool) → Token → Option (Unit {0})
seen test t = if test t then Some tt else None

looked_is : (test : Token → Bool) (ts : Tokens) → (let o : Outcome (Unit {0}) = if first test ts then Ok (tt, skip ts) else Err (false, ts) in o) ≡ looked (seen test) ts
looked_is test [] = refl
looked_is test (t ∷ ts) = way (test t)
  where
    way : (b : Bool) → (let o : Outcome (Unit {0}) = if b then Ok (tt, ts) else Err (false, t ∷ ts) in o) ≡ found (if b then Some tt else None) (t ∷ ts)
    way true = refl
    way false = refl

form_known : (read : Parser (Unit {0})) (test : Token → Bool) (known : Token) → ((ts : Tokens) → read ts ≡ (if first test ts then Ok (tt, skip ts) else Err (false, ts))) → IsToken editions.Second known →
    ((t : Token) → test t ≡ true → t ≡ known) → Form read (λ _ x rest us. us ≡ known ∷ rest)
form_known read test known is fits tells = form_same read (λ ts. is ts ∙ looked_is test ts) (form_looked (seen test) (λ _. known) tt fits sees)
  where
    sees : (t : Token) (x : Unit {0}) → seen test t ≡ Some x → t ≡ known
    sees t x h = elim (chosen (test t) (Some tt) None (Some x) h) [ inl e ↦ tells t e.0 | inr e ↦ absurd (let n = e.1 in cc) ]

pub is_known_word : (w : Word) (t : Token) → is_the_word w t ≡ true → t ≡ token.Word w
is_known_word w (token.Word v) h = ap (λ (x : Word). token.Word x) (sym (same_true W.the_type (search rules) w v h))
is_known_word w (token.Name n) h = absurd cc
is_known_word w (token.Number n) h = absurd cc
is_known_word w (token.Mark m) h = absurd cc

is_known_mark : (m : Mark) (t : Token) → is_mark m t ≡ true → t ≡ token.Mark m
is_known_mark m (token.Mark v) h = ap (λ (x : Mark). token.Mark x) (sym (same_true M.the_type (search rules) m v h))
is_known_mark m (token.Name n) h = absurd cc
is_known_mark m (token.Number n) h = absurd cc
is_known_mark m (token.Word w) h = absurd cc

pub form_word : (w : Word) → Form (word w) (λ _ x rest us. us ≡ put.word w rest)
unfolding word
form_word w = form_known (word w) (is_the_word w) (token.Word w) (λ ts. refl) refl (is_known_word w)

pub form_mark : (m : Mark) → Form (mark m) (λ _ x rest us. us ≡ put.mark m rest)
unfolding mark
form_mark m = form_known (mark m) (is_mark m) (token.Mark m) (λ ts. refl) refl (is_known_mark m)

-- A name, and a number.

no_word : IsFalse (is_word editions.Second (95 ∷ []))
unfolding spelling
no_word = refl

pub underscore : IsToken editions.Second (token.Name (95 ∷ []))
underscore = (95 ∷ [], refl, sym (ap (λ (l : List ℕ). l ++ []) (encode_ascii 95 (omega arith))), simp or-true, no_word)

pub form_name : Form name (λ _ n rest us. us ≡ put.name n rest)
unfolding name
form_name = form_looked seen_name (λ n. token.Name n) (95 ∷ []) underscore sees
  where
    sees : (t : Token) (n : List ℕ) → seen_name t ≡ Some n → t ≡ token.Name n
    sees (token.Name m) n h = ap (λ (k : List ℕ). token.Name k) (let e : m ≡ n = cc in e)
    sees (token.Word w) n h = absurd cc
    sees (token.Number w) n h = absurd cc
    sees (token.Mark w) n h = absurd cc

pub form_number : Form number (λ _ n rest us. us ≡ put.number n rest)
unfolding number
form_number = form_looked seen_number (λ n. token.Number n) 0 (omega arith) sees
  where
    sees : (t : Token) (n : ℕ) → seen_number t ≡ Some n → t ≡ token.Number n
    sees (token.Number m) n h = ap (λ (k : ℕ). token.Number k) (let e : m ≡ n = cc in e)
    sees (token.Word w) n h = absurd cc
    sees (token.Name w) n h = absurd cc
    sees (token.Mark w) n h = absurd cc
