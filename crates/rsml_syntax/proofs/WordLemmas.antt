-- Reserved words and marks at the front of characters.
use Rattle.std.proofs.Common.{◌≡◌, ℕ, ◌<◌, Bool, true, false, cond, ◌||◌, ◌&&◌, ◌==◌, ◌⊎◌, inl, inr, List, [], ◌∷◌, ◌++◌, length, take, drop, Option, Some, None, find, nat_eq, nat_lt, refl, sym, ap, ◌∙◌, subst, arith, lit<}
use Rattle.std.specs.Prelude.{if◌then◌else◌}
use Rattle.std.specs.Char.{is_ascii_alphabetic}
use Rattle.std.specs.List.{list_all, list_any, starts_with}
use Rattle.std.specs.Str.{encode_utf8_all, all_scalars, bytes_eq}
use Rattle.std.specs.Cmp.Lexicographic.{same_text, pointwise}
use Rattle.std.proofs.lemmas.Bool.Decides.{nat_tests}
use Rattle.std.proofs.lemmas.Option.{same_Some}
use Rattle.std.proofs.lemmas.List.{take-append-drop}
use Rattle.std.proofs.lemmas.Str.{encodes_same}
use lib.Utf8.{encode}
use Rattle.unicode_ident.proofs.IdentLemmas.{is_xid_start-ascii}
use Rattle.rsml_syntax.specs.declared.edition.Edition.{Edition}
use Rattle.rsml_syntax.specs.declared.token.Mark.{Mark}
use Rattle.rsml_syntax.specs.declared.token.Mark.TheVariants as mark
use Rattle.rsml_syntax.specs.declared.token.Word.{Word}
use Rattle.rsml_syntax.specs.declared.token.Word.TheVariants as word
use Rattle.rsml_syntax.specs.declared.token.Token.TheVariants as token
use Rattle.rsml_syntax.specs.declared.token.TheConstants.{WORDS, MARKS}
use Rattle.rsml_syntax.specs.text.Characters.{is_white, is_start, is_continuing, is_digit, is_name}
use Rattle.rsml_syntax.specs.text.Marks as marks
use Rattle.rsml_syntax.specs.text.Marks.{mark_at}
use Rattle.rsml_syntax.specs.text.Names.{Name, same}
use Rattle.rsml_syntax.specs.helpers.Scanning.{named, word_or_name}
use Rattle.rsml_syntax.specs.text.Tokens.{Spells, is_reserved, is_word, begins_longer}
use Rattle.rsml_syntax.specs.text.Words as words
use Rattle.rsml_syntax.specs.text.Words.{word_of}
use Rattle.rsml_syntax.proofs.CharacterLemmas.{both, neither, start_continues}

-- Searching a list.

pub find_passes : {A : Type 0} (p : A → Bool) (xs : List A) (x : A) → find p xs ≡ Some x → p x ≡ true
find_passes p [] x h = absurd (cc)
find_passes p (y ∷ ys) x h = step (find_passes p ys x) (p y) refl h
  where
    step : (find p ys ≡ Some x → p x ≡ true) → (b : Bool) → b ≡ p y → cond b (Some y) (find p ys) ≡ Some x → p x ≡ true
    step rec true e h = ap p (sym (same_Some y x h)) ∙ sym e
    step rec false e h = rec h

pub find_none : {A : Type 0} (p : A → Bool) (xs : List A) → list_any p xs ≡ false → find p xs ≡ None
find_none p [] h = refl
find_none p (y ∷ ys) h = let k = neither (p y) (list_any p ys) h in rw k.0 (find_none p ys k.1)

pub none_found : {A : Type 0} (p : A → Bool) (xs : List A) → find p xs ≡ None → list_any p xs ≡ false
none_found p [] h = refl
none_found p (y ∷ ys) h = step (none_found p ys) (p y) h
  where
    step : (find p ys ≡ None → list_any p ys ≡ false) → (b : Bool) → cond b (Some y) (find p ys) ≡ None → (b || list_any p ys) ≡ false
    step rec true h = absurd (cc)
    step rec false h = rec h

-- what is found is in the list
pub found_any : {A : Type 0} (p q : A → Bool) (xs : List A) (x : A) → find p xs ≡ Some x → q x ≡ true → list_any q xs ≡ true
found_any p q [] x h k = absurd (cc)
found_any p q (y ∷ ys) x h k = step (λ h. found_any p q ys x h k) (p y) h (q y) refl
  where
    step : (find p ys ≡ Some x → list_any q ys ≡ true) → (b : Bool) → cond b (Some y) (find p ys) ≡ Some x → (c : Bool) → c ≡ q y → (c || list_any q ys) ≡ true
    step rec b h true e = refl
    step rec true h false e = absurd (let same : q y ≡ true = ap q (same_Some y x h) ∙ k in cc)
    step rec false h false e = rec h

pub any_none : {A : Type 0} (q : A → Bool) (xs : List A) → ((x : A) → q x ≡ false) → list_any q xs ≡ false
any_none q [] h = refl
any_none q (y ∷ ys) h = rw (h y) (any_none q ys h)

-- what is passed over on the way
skipped : {A : Type 0} (p : A → Bool) (y : A) (ys : List A) (x : A) → find p (y ∷ ys) ≡ Some x → (y ≡ x → ⊥) → (p y ≡ false) × (find p ys ≡ Some x)
skipped p y ys x h other = step (p y) refl h
  where
    step : (b : Bool) → b ≡ p y → cond b (Some y) (find p ys) ≡ Some x → (p y ≡ false) × (find p ys ≡ Some x)
    step true e h = absurd (other (same_Some y x h))
    step false e h = (sym e, h)

-- Words.

pub word_found : (n : Name) (w : Word) → word_of n ≡ Some w → n ≡ words.spelling w
unfolding word_of
word_found n w h = same_text n (words.spelling w) (sym (find_passes (λ w. bytes_eq n (words.spelling w)) WORDS w h))

-- a word's characters: they are its bytes, letters all, and the word is found by them
pub record IsSpelled (w : Word) : Type 0 where
  pub again : word_of (words.spelling w) ≡ Some w
  pub bytes : encode_utf8_all (words.spelling w) ≡ words.spelling w
  pub letters : list_all is_ascii_alphabetic (words.spelling w) ≡ true
  pub scalars : all_scalars (words.spelling w) ≡ true
  pub some : nat_lt 0 (length (words.spelling w)) ≡ true

pub word_spelled : (w : Word) → IsSpelled w
unfolding word_of words.spelling encode
word_spelled word.All = record { again = refl; bytes = refl; letters = refl; scalars = refl; some = refl }
word_spelled word.Always = record { again = refl; bytes = refl; letters = refl; scalars = refl; some = refl }
word_spelled word.Array = record { again = refl; bytes = refl; letters = refl; scalars = refl; some = refl }
word_spelled word.Bus = record { again = refl; bytes = refl; letters = refl; scalars = refl; some = refl }
word_spelled word.Constant = record { again = refl; bytes = refl; letters = refl; scalars = refl; some = refl }
word_spelled word.Default = record { again = refl; bytes = refl; letters = refl; scalars = refl; some = refl }
word_spelled word.Enumeration = record { again = refl; bytes = refl; letters = refl; scalars = refl; some = refl }
word_spelled word.Event = record { again = refl; bytes = refl; letters = refl; scalars = refl; some = refl }
word_spelled word.Every = record { again = refl; bytes = refl; letters = refl; scalars = refl; some = refl }
word_spelled word.Function = record { again = refl; bytes = refl; letters = refl; scalars = refl; some = refl }
word_spelled word.In = record { again = refl; bytes = refl; letters = refl; scalars = refl; some = refl }
word_spelled word.Input = record { again = refl; bytes = refl; letters = refl; scalars = refl; some = refl }
word_spelled word.Macro = record { again = refl; bytes = refl; letters = refl; scalars = refl; some = refl }
word_spelled word.Move = record { again = refl; bytes = refl; letters = refl; scalars = refl; some = refl }
word_spelled word.Of = record { again = refl; bytes = refl; letters = refl; scalars = refl; some = refl }
word_spelled word.On = record { again = refl; bytes = refl; letters = refl; scalars = refl; some = refl }
word_spelled word.One = record { again = refl; bytes = refl; letters = refl; scalars = refl; some = refl }
word_spelled word.Previous = record { again = refl; bytes = refl; letters = refl; scalars = refl; some = refl }
word_spelled word.Quiet = record { again = refl; bytes = refl; letters = refl; scalars = refl; some = refl }
word_spelled word.Raise = record { again = refl; bytes = refl; letters = refl; scalars = refl; some = refl }
word_spelled word.Range = record { again = refl; bytes = refl; letters = refl; scalars = refl; some = refl }
word_spelled word.Receive = record { again = refl; bytes = refl; letters = refl; scalars = refl; some = refl }
word_spelled word.Send = record { again = refl; bytes = refl; letters = refl; scalars = refl; some = refl }
word_spelled word.Any = record { again = refl; bytes = refl; letters = refl; scalars = refl; some = refl }
word_spelled word.Specification = record { again = refl; bytes = refl; letters = refl; scalars = refl; some = refl }
word_spelled word.State = record { again = refl; bytes = refl; letters = refl; scalars = refl; some = refl }
word_spelled word.Stay = record { again = refl; bytes = refl; letters = refl; scalars = refl; some = refl }
word_spelled word.This = record { again = refl; bytes = refl; letters = refl; scalars = refl; some = refl }
word_spelled word.When = record { again = refl; bytes = refl; letters = refl; scalars = refl; some = refl }
word_spelled word.T = record { again = refl; bytes = refl; letters = refl; scalars = refl; some = refl }
word_spelled word.F = record { again = refl; bytes = refl; letters = refl; scalars = refl; some = refl }

letters_continue : (cs : List ℕ) → list_all is_ascii_alphabetic cs ≡ true → list_all is_continuing cs ≡ true
letters_continue [] h = refl
letters_continue (c ∷ cs) h =
    let k = both (is_ascii_alphabetic c) (list_all is_ascii_alphabetic cs) h in
    rw (start_continues c (letter_starts c k.0)) (letters_continue cs k.1)
  where
    letter_starts : (c : ℕ) → is_ascii_alphabetic c ≡ true → is_start c ≡ true
    letter_starts c h = let low : c < 128 = grind (arith, nat_tests) in rw (is_xid_start-ascii c low, h) refl

pub letters_name : (cs : List ℕ) → list_all is_ascii_alphabetic cs ≡ true → nat_lt 0 (length cs) ≡ true → is_name cs ≡ true
letters_name [] h some = absurd (cc)
letters_name (c ∷ cs) h some =
    let k = both (is_ascii_alphabetic c) (list_all is_ascii_alphabetic cs) h in
    let low : c < 128 = letter_low c k.0 in
    rw (is_xid_start-ascii c low, k.0) (letters_continue cs k.1)
  where
    letter_low : (c : ℕ) → is_ascii_alphabetic c ≡ true → c < 128
    letter_low c h = grind (arith, nat_tests)

pub word_is_name : (w : Word) → is_name (words.spelling w) ≡ true
word_is_name w = let s = word_spelled w in letters_name (words.spelling w) s.letters s.some

-- the bytes of a word are those of its characters alone
pub word_characters : (w : Word) (cs : List ℕ) → encode_utf8_all cs ≡ words.spelling w → cs ≡ words.spelling w
word_characters w cs h = encodes_same cs (words.spelling w) (h ∙ sym (word_spelled w).bytes)

abbrev pub reserves : Edition → Option Word → Bool
reserves e None = false
reserves e (Some w) = is_reserved e w

-- whether the edition reserves a name is whether it reserves the word that is found
pub reserved_found : (e : Edition) (n : Name) → reserves e (word_of n) ≡ true → is_word e n ≡ true
unfolding word_of
reserved_found e n h = step (word_of n) refl h
  where
    step : (o : Option Word) → o ≡ word_of n → reserves e o ≡ true → is_word e n ≡ true
    step None same h = absurd (cc)
    step (Some w) same h =
        found_any (λ w. bytes_eq n (words.spelling w)) (λ w. is_reserved e w && bytes_eq n (words.spelling w)) WORDS w (sym same)
        (rw h (find_passes (λ w. bytes_eq n (words.spelling w)) WORDS w (sym same)))

and_false : (b : Bool) → (b && false) ≡ false
and_false true = refl
and_false false = refl

pub unreserved_found : (e : Edition) (n : Name) → reserves e (word_of n) ≡ false → is_word e n ≡ false
unreserved_found e n h = any_none (λ w. is_reserved e w && same n (words.spelling w)) WORDS (λ w. each w (same n (words.spelling w)) refl)
  where
    each : (w : Word) (b : Bool) → b ≡ same n (words.spelling w) → (is_reserved e w && b) ≡ false
    each w true e' =
        let found : word_of n ≡ Some w = ap word_of (same_text n (words.spelling w) e') ∙ (word_spelled w).again in
        ap (λ b. b && true) (sym (ap (reserves e) found) ∙ h)
    each w false e' = and_false (is_reserved e w)

pub named_word : (e : Edition) (w : Word) → is_reserved e w ≡ true → named e (words.spelling w) ≡ token.Word w
unfolding named
named_word e w h = rw ((word_spelled w).again, h) refl

pub named_name : (e : Edition) (n : Name) → is_word e n ≡ false → named e n ≡ token.Name n
unfolding named
named_name e n h = step (word_of n) (reserved_found e n)
  where
    step : (o : Option Word) → (reserves e o ≡ true → is_word e n ≡ true) → word_or_name e o n ≡ token.Name n
    step None k = refl
    step (Some w) k = test (is_reserved e w) k
      where
        test : (b : Bool) → (b ≡ true → is_word e n ≡ true) → (if b then token.Word w else token.Name n) ≡ token.Name n
        test true k = absurd (let t = k refl in cc)
        test false k = refl

pub named_spelled : (e : Edition) (cs : List ℕ) → is_name cs ≡ true → Spells e (named e (encode_utf8_all cs)) cs
unfolding named
named_spelled e cs is = step (word_of (encode_utf8_all cs)) refl
  where
    step : (o : Option Word) → o ≡ word_of (encode_utf8_all cs) → Spells e (word_or_name e o (encode_utf8_all cs)) cs
    step None same = (refl, is, unreserved_found e (encode_utf8_all cs) (ap (reserves e) (sym same)))
    step (Some w) same = test (is_reserved e w) refl
      where
        test : (b : Bool) → b ≡ is_reserved e w → Spells e (if b then token.Word w else token.Name (encode_utf8_all cs)) cs
        test true k = (word_characters w cs (word_found (encode_utf8_all cs) w (sym same)), sym k)
        test false k = (refl, is, unreserved_found e (encode_utf8_all cs) (ap (reserves e) (sym same) ∙ sym k))

-- Marks.

no_start : (c : ℕ) → c < 128 → is_ascii_alphabetic c ≡ false → (c == 95) ≡ false → is_start c ≡ false
no_start c low h k = rw (is_xid_start-ascii c low, h, k) refl

-- a mark's first character begins no name, number or blank; its characters are its bytes
pub record IsMarked (m : Mark) : Type 0 where
  pub head : ℕ
  pub tail : List ℕ
  pub parts : marks.spelling m ≡ head ∷ tail
  pub no_name : is_start head ≡ false
  pub no_digit : is_digit head ≡ false
  pub no_blank : (head == 35 || is_white head) ≡ false
  pub bytes : encode_utf8_all (marks.spelling m) ≡ marks.spelling m
  pub scalars : all_scalars (marks.spelling m) ≡ true
  pub short : (length (marks.spelling m) ≡ 1) ⊎ (length (marks.spelling m) ≡ 2)

pub mark_spelled : (m : Mark) → IsMarked m
unfolding marks.spelling encode
mark_spelled mark.Semicolon = record { head = 59; tail = []; parts = refl; no_name = no_start 59 (lit< tt) refl refl; no_digit = refl; no_blank = refl; bytes = refl; scalars = refl; short = inl refl }
mark_spelled mark.OpenBrace = record { head = 123; tail = []; parts = refl; no_name = no_start 123 (lit< tt) refl refl; no_digit = refl; no_blank = refl; bytes = refl; scalars = refl; short = inl refl }
mark_spelled mark.CloseBrace = record { head = 125; tail = []; parts = refl; no_name = no_start 125 (lit< tt) refl refl; no_digit = refl; no_blank = refl; bytes = refl; scalars = refl; short = inl refl }
mark_spelled mark.Comma = record { head = 44; tail = []; parts = refl; no_name = no_start 44 (lit< tt) refl refl; no_digit = refl; no_blank = refl; bytes = refl; scalars = refl; short = inl refl }
mark_spelled mark.DotDot = record { head = 46; tail = 46 ∷ []; parts = refl; no_name = no_start 46 (lit< tt) refl refl; no_digit = refl; no_blank = refl; bytes = refl; scalars = refl; short = inr refl }
mark_spelled mark.Dot = record { head = 46; tail = []; parts = refl; no_name = no_start 46 (lit< tt) refl refl; no_digit = refl; no_blank = refl; bytes = refl; scalars = refl; short = inl refl }
mark_spelled mark.Equal = record { head = 61; tail = []; parts = refl; no_name = no_start 61 (lit< tt) refl refl; no_digit = refl; no_blank = refl; bytes = refl; scalars = refl; short = inl refl }
mark_spelled mark.NotEqual = record { head = 33; tail = 61 ∷ []; parts = refl; no_name = no_start 33 (lit< tt) refl refl; no_digit = refl; no_blank = refl; bytes = refl; scalars = refl; short = inr refl }
mark_spelled mark.Less = record { head = 60; tail = []; parts = refl; no_name = no_start 60 (lit< tt) refl refl; no_digit = refl; no_blank = refl; bytes = refl; scalars = refl; short = inl refl }
mark_spelled mark.LessEqual = record { head = 60; tail = 61 ∷ []; parts = refl; no_name = no_start 60 (lit< tt) refl refl; no_digit = refl; no_blank = refl; bytes = refl; scalars = refl; short = inr refl }
mark_spelled mark.Greater = record { head = 62; tail = []; parts = refl; no_name = no_start 62 (lit< tt) refl refl; no_digit = refl; no_blank = refl; bytes = refl; scalars = refl; short = inl refl }
mark_spelled mark.GreaterEqual = record { head = 62; tail = 61 ∷ []; parts = refl; no_name = no_start 62 (lit< tt) refl refl; no_digit = refl; no_blank = refl; bytes = refl; scalars = refl; short = inr refl }
mark_spelled mark.OpenBracket = record { head = 91; tail = []; parts = refl; no_name = no_start 91 (lit< tt) refl refl; no_digit = refl; no_blank = refl; bytes = refl; scalars = refl; short = inl refl }
mark_spelled mark.CloseBracket = record { head = 93; tail = []; parts = refl; no_name = no_start 93 (lit< tt) refl refl; no_digit = refl; no_blank = refl; bytes = refl; scalars = refl; short = inl refl }
mark_spelled mark.OpenParen = record { head = 40; tail = []; parts = refl; no_name = no_start 40 (lit< tt) refl refl; no_digit = refl; no_blank = refl; bytes = refl; scalars = refl; short = inl refl }
mark_spelled mark.CloseParen = record { head = 41; tail = []; parts = refl; no_name = no_start 41 (lit< tt) refl refl; no_digit = refl; no_blank = refl; bytes = refl; scalars = refl; short = inl refl }
mark_spelled mark.Colon = record { head = 58; tail = []; parts = refl; no_name = no_start 58 (lit< tt) refl refl; no_digit = refl; no_blank = refl; bytes = refl; scalars = refl; short = inl refl }
mark_spelled mark.Arrow = record { head = 45; tail = 62 ∷ []; parts = refl; no_name = no_start 45 (lit< tt) refl refl; no_digit = refl; no_blank = refl; bytes = refl; scalars = refl; short = inr refl }
mark_spelled mark.Minus = record { head = 45; tail = []; parts = refl; no_name = no_start 45 (lit< tt) refl refl; no_digit = refl; no_blank = refl; bytes = refl; scalars = refl; short = inl refl }
mark_spelled mark.Plus = record { head = 43; tail = []; parts = refl; no_name = no_start 43 (lit< tt) refl refl; no_digit = refl; no_blank = refl; bytes = refl; scalars = refl; short = inl refl }
mark_spelled mark.Bar = record { head = 124; tail = []; parts = refl; no_name = no_start 124 (lit< tt) refl refl; no_digit = refl; no_blank = refl; bytes = refl; scalars = refl; short = inl refl }

pub mark_found : (cs : List ℕ) (m : Mark) → mark_at cs ≡ Some m → cs ≡ marks.spelling m ++ drop (length (marks.spelling m)) cs
unfolding mark_at
mark_found cs m h =
    let e : marks.spelling m ≡ take (length (marks.spelling m)) cs = same_text (marks.spelling m) _ (sym (find_passes (λ m. starts_with nat_eq cs (marks.spelling m)) MARKS m h)) in
    sym (take-append-drop (length (marks.spelling m)) cs) ∙ ap (λ l. l ++ drop (length (marks.spelling m)) cs) (sym e)

-- the longer marks come first
pub mark_longest : (cs : List ℕ) (m : Mark) → mark_at cs ≡ Some m → begins_longer m cs ≡ false
unfolding mark_at marks.spelling
mark_longest cs m h = elim (mark_spelled m).short [
  | inl one ↦ subst (λ (n : ℕ). list_any (λ x. nat_lt n (length (marks.spelling x)) && begins x) MARKS ≡ false) (sym one) (no_longer h (λ x e. differs x one e))
  | inr two ↦ subst (λ (n : ℕ). list_any (λ x. nat_lt n (length (marks.spelling x)) && begins x) MARKS ≡ false) (sym two) refl
]
  where
    begins : Mark → Bool
    begins x = starts_with nat_eq cs (marks.spelling x)

    differs : (x : Mark) → length (marks.spelling m) ≡ 1 → length (marks.spelling x) ≡ 2 → x ≡ m → ⊥
    differs x one two is = absurd (let e = sym two ∙ ap (λ m. length (marks.spelling m)) is ∙ one in omega arith)

    no_longer : find begins MARKS ≡ Some m → ((x : Mark) → length (marks.spelling x) ≡ 2 → x ≡ m → ⊥) →
        list_any (λ x. nat_lt 1 (length (marks.spelling x)) && begins x) MARKS ≡ false
    no_longer h other =
        let a = skipped begins mark.DotDot (drop 1 MARKS) m h (other mark.DotDot refl) in
        let b = skipped begins mark.NotEqual (drop 2 MARKS) m a.1 (other mark.NotEqual refl) in
        let c = skipped begins mark.LessEqual (drop 3 MARKS) m b.1 (other mark.LessEqual refl) in
        let d = skipped begins mark.GreaterEqual (drop 4 MARKS) m c.1 (other mark.GreaterEqual refl) in
        let e = skipped begins mark.Arrow (drop 5 MARKS) m d.1 (other mark.Arrow refl) in
        rw (a.0, b.0, c.0, d.0, e.0) refl

pub mark_again : (m : Mark) (more : List ℕ) → begins_longer m (marks.spelling m ++ more) ≡ false → mark_at (marks.spelling m ++ more) ≡ Some m
unfolding mark_at marks.spelling
mark_again mark.Semicolon more h = refl
mark_again mark.OpenBrace more h = refl
mark_again mark.CloseBrace more h = refl
mark_again mark.Comma more h = refl
mark_again mark.DotDot more h = refl
mark_again mark.Dot more h = rw (neither (pointwise nat_eq (46 ∷ []) (take 1 more)) false h).0 refl
mark_again mark.Equal more h = refl
mark_again mark.NotEqual more h = refl
mark_again mark.Less more h = rw (neither (pointwise nat_eq (61 ∷ []) (take 1 more)) false h).0 refl
mark_again mark.LessEqual more h = refl
mark_again mark.Greater more h = rw (neither (pointwise nat_eq (61 ∷ []) (take 1 more)) false h).0 refl
mark_again mark.GreaterEqual more h = refl
mark_again mark.OpenBracket more h = refl
mark_again mark.CloseBracket more h = refl
mark_again mark.OpenParen more h = refl
mark_again mark.CloseParen more h = refl
mark_again mark.Colon more h = refl
mark_again mark.Arrow more h = refl
mark_again mark.Minus more h = rw (neither (pointwise nat_eq (62 ∷ []) (take 1 more)) false h).0 refl
mark_again mark.Plus more h = refl
mark_again mark.Bar more h = refl

pub mark_none : (cs : List ℕ) → list_any (λ m. starts_with nat_eq cs (marks.spelling m)) MARKS ≡ false → mark_at cs ≡ None
unfolding mark_at
mark_none cs h = find_none (λ m. starts_with nat_eq cs (marks.spelling m)) MARKS h

pub none_mark : (cs : List ℕ) → mark_at cs ≡ None → list_any (λ m. starts_with nat_eq cs (marks.spelling m)) MARKS ≡ false
unfolding mark_at
none_mark cs h = none_found (λ m. starts_with nat_eq cs (marks.spelling m)) MARKS h
