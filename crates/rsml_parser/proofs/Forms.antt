-- What reading has to do with what is spelled: the laws of a reading, closed under the ways to put readings together.
use Rattle.std.proofs.Common.{◌≡◌, inl, inr, Bool, true, false, [], ◌∷◌, ◌++◌, Ok, Err, refl, sym, ap, ◌∙◌, subst, append_assoc}
use Rattle.rsml_syntax.specs.text.Tokens.{Tokens, AreTokens}
use Rattle.rsml_syntax.specs.declared.edition.Edition.TheVariants as editions
use Rattle.rsml_syntax.specs.declared.token.Token.{Token}
use Rattle.rsml_parser.specs.Parsers.{Stop, Parser, ◌>>=◌, pure, choose, first}
use Rattle.rsml_parser.proofs.Outcomes.{same_ok, bind_ok, bind_err, then_ok, then_err, chosen, takes_first, takes_second, cancel}

abbrev pub Fit : Tokens → Type 0
Fit ts = AreTokens editions.Second ts

-- before `stop`, ts and us are the same; and what us has after that are tokens
pub record Shares (ts stop us : Tokens) : Type 0 where
  pub front : Tokens
  pub tail : Tokens
  pub have : ts ≡ front ++ stop
  pub given : us ≡ front ++ tail
  pub fit : Fit tail

-- us spells x before rest, and is as ts before stop
pub record Spelled {A : Type 0} (P : A → Tokens → Tokens → Type 0) (x : A) (rest ts stop : Tokens) : Type 0 where
  pub us : Tokens
  pub spelled : P x rest us
  pub shares : Shares ts stop us

-- tokens spell x before rest
pub record Least {A : Type 0} (P : A → Tokens → Tokens → Type 0) (x : A) (rest : Tokens) : Type 0 where
  pub us : Tokens
  pub spelled : P x rest us
  pub fit : Fit us

-- the tokens after the first, where that opens a state
abbrev pub beyond : Bool → Tokens → Tokens
beyond false ts = ts
beyond true [] = []
beyond true (t ∷ ts) = ts

-- what need not be shared at a fault: all that is left; or, where one more state may be nested, what is left after the
-- token that opens it
abbrev pub past : Bool → Stop → Tokens
past false s = s.1
past true s = beyond s.0 s.1

-- `P k x rest ts` says that ts is the tokens of x and then rest, where k says whether one more state may be nested.
-- What is read is spelled so; what follows may be put in place of what is left; what comes before a fault goes on in
-- some way; a state too many is opened by a token; something is spelled before any rest; and neither what is read nor
-- the fault depends on what comes later.
pub record Form {A : Type 0} (read : Parser A) (P : Bool → A → Tokens → Tokens → Type 0) : Type 0 where
  pub takes : (k : Bool) (ts : Tokens) (x : A) (rest : Tokens) → read ts ≡ Ok (x, rest) → P k x rest ts
  pub lifts : (k : Bool) (ts : Tokens) (x : A) (rest : Tokens) → read ts ≡ Ok (x, rest) → (stop more : Tokens) → Shares rest stop more → Spelled (P k) x more ts stop
  pub begins : (k : Bool) (ts : Tokens) (s : Stop) → read ts ≡ Err s → (x : A) × ((rest : Tokens) → Fit rest → Spelled (P k) x rest ts (past k s))
  pub opens : (ts : Tokens) → read ts ≡ Err (true, []) → ⊥
  pub least : (x : A) × ((k : Bool) (rest : Tokens) → Fit rest → Least (P k) x rest)
  pub same : (front : Tokens) (t : Token) (a b : Tokens) (x : A) (g : Tokens) → read (front ++ t ∷ a) ≡ Ok (x, g ++ t ∷ a) → read (front ++ t ∷ b) ≡ Ok (x, g ++ t ∷ b)
  pub fails : (front : Tokens) (t : Token) (a b : Tokens) (k : Bool) (g : Tokens) → read (front ++ t ∷ a) ≡ Err (k, g ++ t ∷ a) → read (front ++ t ∷ b) ≡ Err (k, g ++ t ∷ b)

-- nothing is the same yet
pub none_yet : (ts more : Tokens) → Fit more → Shares ts ts more
none_yet ts more fit = record { front = []; tail = more; have = refl; given = refl; fit = fit }

pub one_more : (t : Token) (ts stop us : Tokens) → Shares ts stop us → Shares (t ∷ ts) stop (t ∷ us)
one_more t ts stop us s = record { front = t ∷ s.front; tail = s.tail; have = ap (λ l. t ∷ l) s.have; given = ap (λ l. t ∷ l) s.given; fit = s.fit }

module _ {A : Type 0} {read : Parser A} {P : Bool → A → Tokens → Tokens → Type 0} (form : Form read P) where
  -- what is left is the last part
  pub left : (ts : Tokens) (x : A) (rest : Tokens) → read ts ≡ Ok (x, rest) → (front : Tokens) × (ts ≡ front ++ rest)
  left ts x rest h = let s = form.lifts false ts x rest h rest [] (record { front = []; tail = []; have = refl; given = refl; fit = refl }) in (s.shares.front, s.shares.have)

  -- what is left at a fault is the last part
  pub left_at_fault : (ts : Tokens) (s : Stop) → read ts ≡ Err s → (front : Tokens) × (ts ≡ front ++ s.1)
  left_at_fault ts s h = let b = form.begins false ts s h in let u = b.1 [] refl in (u.shares.front, u.shares.have)

-- One after another.

pub record Then {A B : Type 0} (P : A → Tokens → Tokens → Type 0) (Q : A → B → Tokens → Tokens → Type 0) (y : B) (rest us : Tokens) : Type 0 where
  pub got : A
  pub mid : Tokens
  pub before : P got mid us
  pub later : Q got y rest mid

pub form_bind : {A B : Type 0} {p : Parser A} {P : Bool → A → Tokens → Tokens → Type 0} {f : A → Parser B} {Q : Bool → A → B → Tokens → Tokens → Type 0} →
    Form p P → ((x : A) → Form (f x) (λ k. Q k x)) → Form (p >>= f) (λ k. Then (P k) (Q k))
form_bind {A} {B} {p} {P} {f} {Q} one two = record {
  takes = λ k ts y rest h. let e = bind_ok (p ts) f (y, rest) h in
      record { got = e.0.0; mid = e.0.1; before = one.takes k ts e.0.0 e.0.1 e.1; later = (two e.0.0).takes k e.0.1 y rest e.2 };
  lifts = λ k ts y rest h stop more s. let e = bind_ok (p ts) f (y, rest) h in
      joined k e.0.0 y more ts e.0.1 stop ((two e.0.0).lifts k e.0.1 y rest e.2 stop more s) (λ us s. one.lifts k ts e.0.0 e.0.1 e.1 stop us s);
  begins = λ k ts s h. elim (bind_err (p ts) f s h) [
    | inl e ↦ let b = one.begins k ts s e in (
      (two b.0).least.0,
      λ rest fit. let l = (two b.0).least.1 k rest fit in let u = b.1 l.us l.fit in
          record { us = u.us; spelled = record { got = b.0; mid = l.us; before = u.spelled; later = l.spelled }; shares = u.shares },
    )
    | inr e ↦ let b = (two e.0.0).begins k e.0.1 s e.2 in
        (b.0, λ rest fit. joined k e.0.0 b.0 rest ts e.0.1 (past k s) (b.1 rest fit) (λ us s2. one.lifts k ts e.0.0 e.0.1 e.1 (past k s) us s2))
  ];
  opens = λ ts h. elim (bind_err (p ts) f (true, []) h) [ inl e ↦ one.opens ts e | inr e ↦ (two e.0.0).opens e.0.1 e.2 ];
  least = let a = one.least in let b = (two a.0).least in (
    b.0,
    λ k rest fit. let l = b.1 k rest fit in let u = a.1 k l.us l.fit in
        record { us = u.us; spelled = record { got = a.0; mid = l.us; before = u.spelled; later = l.spelled }; fit = u.fit },
  );
  same = λ front t a b y g h. let e = bind_ok (p (front ++ t ∷ a)) f (y, g ++ t ∷ a) h in
      let l = left (two e.0.0) e.0.1 y (g ++ t ∷ a) e.2 in
      let m = l.1 ∙ sym (append_assoc l.0 g (t ∷ a)) in
      then_ok (p (front ++ t ∷ b)) f e.0.0 ((l.0 ++ g) ++ t ∷ b) (one.same front t a b e.0.0 (l.0 ++ g) (e.1 ∙ ap (λ r. Ok (e.0.0, r)) m))
      ∙ (two e.0.0).same (l.0 ++ g) t a b y g (sym (ap (f e.0.0) m) ∙ e.2);
  fails = λ front t a b k g h. elim (bind_err (p (front ++ t ∷ a)) f (k, g ++ t ∷ a) h) [
    | inl e ↦ then_err (p (front ++ t ∷ b)) f (k, g ++ t ∷ b) (one.fails front t a b k g e)
    | inr e ↦ let l = left_at_fault (two e.0.0) e.0.1 (k, g ++ t ∷ a) e.2 in
        let m = l.1 ∙ sym (append_assoc l.0 g (t ∷ a)) in
        then_ok (p (front ++ t ∷ b)) f e.0.0 ((l.0 ++ g) ++ t ∷ b) (one.same front t a b e.0.0 (l.0 ++ g) (e.1 ∙ ap (λ r. Ok (e.0.0, r)) m))
        ∙ (two e.0.0).fails (l.0 ++ g) t a b k g (sym (ap (f e.0.0) m) ∙ e.2)
  ];
}
  where
    joined : (k : Bool) (x : A) (y : B) (rest ts ts' stop : Tokens) → Spelled (Q k x) y rest ts' stop → ((us : Tokens) → Shares ts' stop us → Spelled (P k) x us ts stop) → Spelled (Then (P k) (Q k)) y rest ts stop
    joined k x y rest ts ts' stop s up = let u = up s.us s.shares in
        record { us = u.us; spelled = record { got = x; mid = s.us; before = u.spelled; later = s.spelled }; shares = u.shares }

-- Nothing more.

pub form_pure : {A : Type 0} (x : A) → Form (pure x) (λ _ y rest us. (y ≡ x) × (us ≡ rest))
form_pure {A} x = record {
  takes = λ k ts y rest h. let e = same_ok x y ts rest h in (sym e.0, e.1);
  lifts = λ k ts y rest h stop more s. let e = same_ok x y ts rest h in
      record { us = more; spelled = (sym e.0, refl); shares = subst (λ r. Shares r stop more) (sym e.1) s };
  begins = λ k ts s h. absurd cc;
  opens = λ ts h. cc;
  least = (x, λ k rest fit. record { us = rest; spelled = (refl, refl); fit = fit });
  same = λ front t a b y g h. let e = same_ok x y (front ++ t ∷ a) (g ++ t ∷ a) h in
      ap (λ (z : A). Ok (z, front ++ t ∷ b)) e.0 ∙ ap (λ (l : Tokens). Ok (y, l ++ t ∷ b)) (cancel front g (t ∷ a) e.1);
  fails = λ front t a b k g h. absurd cc;
}

-- Said in another way.

pub form_as : {A : Type 0} {read : Parser A} {P Q : Bool → A → Tokens → Tokens → Type 0} → Form read P →
    ((k : Bool) (x : A) (rest us : Tokens) → P k x rest us → Q k x rest us) → Form read Q
form_as form say = record {
  takes = λ k ts x rest h. say k x rest ts (form.takes k ts x rest h);
  lifts = λ k ts x rest h stop more s. let u = form.lifts k ts x rest h stop more s in record { us = u.us; spelled = say k x more u.us u.spelled; shares = u.shares };
  begins = λ k ts s h. let b = form.begins k ts s h in
      (b.0, λ rest fit. let u = b.1 rest fit in record { us = u.us; spelled = say k b.0 rest u.us u.spelled; shares = u.shares });
  opens = form.opens;
  least = let l = form.least in (l.0, λ k rest fit. let u = l.1 k rest fit in record { us = u.us; spelled = say k l.0 rest u.us u.spelled; fit = u.fit });
  same = form.same;
  fails = form.fails;
}

-- Read in another way.

pub form_same : {A : Type 0} {q : Parser A} {P : Bool → A → Tokens → Tokens → Type 0} (p : Parser A) → ((ts : Tokens) → p ts ≡ q ts) → Form q P → Form p P
form_same p e form = record {
  takes = λ k ts x rest h. form.takes k ts x rest (sym (e ts) ∙ h);
  lifts = λ k ts x rest h. form.lifts k ts x rest (sym (e ts) ∙ h);
  begins = λ k ts s h. form.begins k ts s (sym (e ts) ∙ h);
  opens = λ ts h. form.opens ts (sym (e ts) ∙ h);
  least = form.least;
  same = λ front t a b x g h. e (front ++ t ∷ b) ∙ form.same front t a b x g (sym (e (front ++ t ∷ a)) ∙ h);
  fails = λ front t a b k g h. e (front ++ t ∷ b) ∙ form.fails front t a b k g (sym (e (front ++ t ∷ a)) ∙ h);
}

-- One of two.

-- a test of the first token does not depend on what comes after one
pub same_first : (test : Token → Bool) (front : Tokens) (t : Token) (a b : Tokens) → first test (front ++ t ∷ a) ≡ first test (front ++ t ∷ b)
same_first test [] t a b = refl
same_first test (u ∷ us) t a b = refl

pub form_if : {A : Type 0} {test : Token → Bool} {p q : Parser A} {P : Bool → A → Tokens → Tokens → Type 0} → Form p P → Form q P → Form (choose (first test) p q) P
form_if {A} {test} {p} {q} {P} one two = record {
  takes = λ k ts x rest h. elim (chosen (first test ts) (p ts) (q ts) (Ok (x, rest)) h) [ inl e ↦ one.takes k ts x rest e.1 | inr e ↦ two.takes k ts x rest e.1 ];
  lifts = λ k ts x rest h. elim (chosen (first test ts) (p ts) (q ts) (Ok (x, rest)) h) [ inl e ↦ one.lifts k ts x rest e.1 | inr e ↦ two.lifts k ts x rest e.1 ];
  begins = λ k ts s h. elim (chosen (first test ts) (p ts) (q ts) (Err s) h) [ inl e ↦ one.begins k ts s e.1 | inr e ↦ two.begins k ts s e.1 ];
  opens = λ ts h. elim (chosen (first test ts) (p ts) (q ts) (Err (true, [])) h) [ inl e ↦ one.opens ts e.1 | inr e ↦ two.opens ts e.1 ];
  least = two.least;
  same = λ front t a b x g h. elim (chosen (first test (front ++ t ∷ a)) (p (front ++ t ∷ a)) (q (front ++ t ∷ a)) (Ok (x, g ++ t ∷ a)) h) [
    | inl e ↦ way_first front t a b e.0 ∙ one.same front t a b x g e.1
    | inr e ↦ way_second front t a b e.0 ∙ two.same front t a b x g e.1
  ];
  fails = λ front t a b k g h. elim (chosen (first test (front ++ t ∷ a)) (p (front ++ t ∷ a)) (q (front ++ t ∷ a)) (Err (k, g ++ t ∷ a)) h) [
    | inl e ↦ way_first front t a b e.0 ∙ one.fails front t a b k g e.1
    | inr e ↦ way_second front t a b e.0 ∙ two.fails front t a b k g e.1
  ];
}
  where
    way_first : (front : Tokens) (t : Token) (a b : Tokens) → first test (front ++ t ∷ a) ≡ true → choose (first test) p q (front ++ t ∷ b) ≡ p (front ++ t ∷ b)
    way_first front t a b e = takes_first (first test (front ++ t ∷ b)) (p (front ++ t ∷ b)) (q (front ++ t ∷ b)) (same_first test front t b a ∙ e)

    way_second : (front : Tokens) (t : Token) (a b : Tokens) → first test (front ++ t ∷ a) ≡ false → choose (first test) p q (front ++ t ∷ b) ≡ q (front ++ t ∷ b)
    way_second front t a b e = takes_second (first test (front ++ t ∷ b)) (p (front ++ t ∷ b)) (q (front ++ t ∷ b)) (same_first test front t b a ∙ e)
