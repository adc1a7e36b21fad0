-- The bytes of characters: what is ASCII in them is ASCII in the characters.
use Rattle.std.proofs.Common.{◌≡◌, ℕ, ◌+◌, ◌/◌, ◌%◌, ◌<◌, ◌≤◌, Bool, true, false, cond, ◌&&◌, ◌==◌, inl, inr, List, [], ◌∷◌, ◌++◌, length, drop, Some, find, nat_eq, nat_lt, refl, sym, ap, ◌∙◌, subst, arith}
use Rattle.std.specs.Prelude.{if◌then◌else◌}
use Rattle.std.specs.List.{list_all, starts_with}
use Rattle.std.specs.Str.{encode_utf8_all, all_scalars, chars, IsUtf8, IsCharBoundary}
use Rattle.std.proofs.lemmas.Bool.{cases_lt}
use Rattle.std.proofs.lemmas.Bool.Decides.{nat_tests}
use Rattle.std.proofs.lemmas.Str.{encode_ascii, chars_from_encodes, encodes-chars, scalars-chars, IsCharBoundary-from_drop}
use lib.Utf8.{encode, scalar}
use Rattle.rsml_syntax.specs.text.Characters.{is_white, is_digit}
use Rattle.rsml_syntax.specs.text.Characters.{passing}
use Rattle.rsml_syntax.specs.helpers.Scanning.{after_blanks, after_comment, after_passing}
use Rattle.rsml_syntax.proofs.CharacterLemmas.{both}
use Rattle.rsml_syntax.specs.declared.token.Mark.{Mark}
use Rattle.rsml_syntax.specs.declared.token.Mark.TheVariants as mark
use Rattle.rsml_syntax.specs.declared.token.TheConstants.{MARKS}
use Rattle.rsml_syntax.specs.text.Marks as marks
use Rattle.rsml_syntax.specs.text.Marks.{mark_at}
use Rattle.rsml_lexer.specs.Bytes.{is_ascii_continuing}

-- no byte is ASCII
pub High : List ℕ → Type 0
High [] = Unit {0}
High (b ∷ bs) = (128 ≤ b) × High bs

-- the bytes of a character outside ASCII: some, and none of them ASCII
record IsWide (bs : List ℕ) : Type 0 where
  pub some : 0 < length bs
  pub high : High bs

pick : (b : Bool) (xs ys : List ℕ) → (b ≡ true → IsWide xs) → (b ≡ false → IsWide ys) → IsWide (cond b xs ys)
pick true xs ys f g = f refl
pick false xs ys f g = g refl

wide : (c : ℕ) → 128 ≤ c → IsWide (encode c)
unfolding encode High
wide c h =
    pick (nat_lt c 128) (c ∷ []) (cond (nat_lt c 2048) two (cond (nat_lt c 65536) three four)) (λ low. absurd (grind (arith, nat_tests)))
    (λ _. pick (nat_lt c 2048) two (cond (nat_lt c 65536) three four) (λ _. record { some = omega arith; high = (omega arith, (omega arith, tt)) })
    (λ _. pick (nat_lt c 65536) three four (λ _. record { some = omega arith; high = (omega arith, (omega arith, (omega arith, tt))) })
    (λ _. record { some = omega arith; high = (omega arith, (omega arith, (omega arith, (omega arith, tt)))) })))
  where
    next : ℕ → ℕ
    next bits = 128 + bits % 64

    two : List ℕ
    two = (192 + c / 64) ∷ next c ∷ []

    three : List ℕ
    three = (224 + c / 4096) ∷ next (c / 64) ∷ next c ∷ []

    four : List ℕ
    four = (240 + c / 262144) ∷ next (c / 4096) ∷ next (c / 64) ∷ next c ∷ []

-- Blanks.

comment_over : (hs rest : List ℕ) → High hs → after_comment (hs ++ rest) ≡ after_comment rest
unfolding High
comment_over [] rest h = refl
comment_over (b ∷ hs) rest h = rw (no_line b h.0) (comment_over hs rest h.1)
  where
    no_line : (b : ℕ) → 128 ≤ b → (b == 10) ≡ false
    no_line b h = grind (arith, nat_tests)

no_blank_byte : (b : ℕ) → 128 ≤ b → ((b == 35) ≡ false) × (is_white b ≡ false)
no_blank_byte b h = (grind (arith, nat_tests), grind (arith, nat_tests))

blanks_stop : (hs rest : List ℕ) → IsWide hs → after_blanks (hs ++ rest) ≡ hs ++ rest
unfolding High
blanks_stop [] rest h = absurd (let s = h.some in omega arith)
blanks_stop (b ∷ hs) rest h = let k = no_blank_byte b h.high.0 in rw (k.0, k.1) refl

-- blanks go off the bytes as they go off the characters
mutual
  pub blanks_bytes : (cs : List ℕ) → after_blanks (encode_utf8_all cs) ≡ encode_utf8_all (after_blanks cs)
  blanks_bytes [] = refl
  blanks_bytes (c ∷ cs) = elim (cases_lt c 128) [
    | inl low ↦ ap (λ l. after_blanks (l ++ encode_utf8_all cs)) (encode_ascii c low) ∙
        elim (c == 35) as (λ b. (if b then after_comment (encode_utf8_all cs) else if is_white c then after_blanks (encode_utf8_all cs) else c ∷ encode_utf8_all cs)
        ≡ encode_utf8_all (if b then after_comment cs else if is_white c then after_blanks cs else c ∷ cs)) [
          | true ↦ comment_bytes cs
          | false ↦ elim (is_white c) as (λ w. (if w then after_blanks (encode_utf8_all cs) else c ∷ encode_utf8_all cs) ≡ encode_utf8_all (if w then after_blanks cs else c ∷ cs)) [
            | true ↦ blanks_bytes cs
            | false ↦ ap (λ l. l ++ encode_utf8_all cs) (sym (encode_ascii c low))
          ]
        ]
    | inr high ↦ let k = no_blank_byte c high in blanks_stop (encode c) (encode_utf8_all cs) (wide c high) ∙ ap encode_utf8_all (sym (stays k.0 k.1))
  ]
    where
      stays : (c == 35) ≡ false → is_white c ≡ false → after_blanks (c ∷ cs) ≡ c ∷ cs
      stays a b = rw (a, b) refl

  pub comment_bytes : (cs : List ℕ) → after_comment (encode_utf8_all cs) ≡ encode_utf8_all (after_comment cs)
  comment_bytes [] = refl
  comment_bytes (c ∷ cs) = elim (cases_lt c 128) [
    | inl low ↦ ap (λ l. after_comment (l ++ encode_utf8_all cs)) (encode_ascii c low) ∙
        elim (c == 10) as (λ b. (if b then after_blanks (encode_utf8_all cs) else after_comment (encode_utf8_all cs)) ≡ encode_utf8_all (if b then after_blanks cs else after_comment cs)) [
          | true ↦ blanks_bytes cs
          | false ↦ comment_bytes cs
        ]
    | inr high ↦ comment_over (encode c) (encode_utf8_all cs) (wide c high).high ∙ comment_bytes cs ∙ ap encode_utf8_all (sym (goes c high))
  ]
    where
      goes : (c : ℕ) → 128 ≤ c → after_comment (c ∷ cs) ≡ after_comment cs
      goes c high = let k : (c == 10) ≡ false = grind (arith, nat_tests) in rw k refl

mutual
  blanks_scalars : (cs : List ℕ) → all_scalars cs ≡ true → all_scalars (after_blanks cs) ≡ true
  blanks_scalars [] h = refl
  blanks_scalars (c ∷ cs) h =
      elim (c == 35) as (λ b. all_scalars (if b then after_comment cs else if is_white c then after_blanks cs else c ∷ cs) ≡ true) [
        | true ↦ comment_scalars cs (both (scalar c) (all_scalars cs) h).1
        | false ↦ elim (is_white c) as (λ w. all_scalars (if w then after_blanks cs else c ∷ cs) ≡ true) [
          | true ↦ blanks_scalars cs (both (scalar c) (all_scalars cs) h).1
          | false ↦ h
        ]
      ]

  comment_scalars : (cs : List ℕ) → all_scalars cs ≡ true → all_scalars (after_comment cs) ≡ true
  comment_scalars [] h = refl
  comment_scalars (c ∷ cs) h =
      elim (c == 10) as (λ b. all_scalars (if b then after_blanks cs else after_comment cs) ≡ true) [
        | true ↦ blanks_scalars cs (both (scalar c) (all_scalars cs) h).1
        | false ↦ comment_scalars cs (both (scalar c) (all_scalars cs) h).1
      ]

-- what is left is text, and its characters are what is left of the characters
pub blanks_text : (bs : List ℕ) → IsUtf8 bs → IsUtf8 (after_blanks bs) × (chars (after_blanks bs) ≡ after_blanks (chars bs))
blanks_text bs u =
    let is : encode_utf8_all (after_blanks (chars bs)) ≡ after_blanks bs = sym (blanks_bytes (chars bs)) ∙ ap after_blanks (encodes-chars bs u) in
    let text : IsUtf8 (after_blanks bs) = (after_blanks (chars bs), (blanks_scalars (chars bs) (scalars-chars bs u), is)) in
    (text, sym (chars_from_encodes (after_blanks (chars bs)) (after_blanks bs) text is))

-- the text may be cut where its blanks end
pub blanks_cut : (text bytes : List ℕ) (n : ℕ) → IsUtf8 text → bytes ≡ text → drop n bytes ≡ after_blanks bytes → n ≤ length bytes → IsCharBoundary text n
blanks_cut text bytes n u same is le =
    let left : drop n text ≡ after_blanks text = ap (drop n) (sym same) ∙ is ∙ ap after_blanks same in
    IsCharBoundary-from_drop text n (omega (arith, le, ap length same)) (subst IsUtf8 (sym left) (blanks_text text u).0)

-- Characters of ASCII at the front.

passing_stops : (test : ℕ → Bool) (hs rest : List ℕ) → ((c : ℕ) → test c ≡ true → c < 128) → IsWide hs →
    (passing test (hs ++ rest) ≡ []) × (after_passing test (hs ++ rest) ≡ hs ++ rest)
unfolding High
passing_stops test [] rest low h = absurd (let s = h.some in omega arith)
passing_stops test (b ∷ hs) rest low h =
    elim (test b) as (λ t. test b ≡ t → ((if t then b ∷ passing test (hs ++ rest) else []) ≡ []) × ((if t then after_passing test (hs ++ rest) else b ∷ (hs ++ rest)) ≡ b ∷ (hs ++ rest))) [
      | true ↦ λ e. absurd (let l = low b e in let k = h.high.0 in omega arith)
      | false ↦ λ e. (refl, refl)
    ] refl

-- what an ASCII test splits off the bytes is what it splits off the characters
pub record Split (test : ℕ → Bool) (cs : List ℕ) : Type 0 where
  pub front : passing test (encode_utf8_all cs) ≡ passing test cs
  pub rest : after_passing test (encode_utf8_all cs) ≡ encode_utf8_all (after_passing test cs)
  pub same : encode_utf8_all (passing test cs) ≡ passing test cs

pub split_bytes : (test : ℕ → Bool) (cs : List ℕ) → ((c : ℕ) → test c ≡ true → c < 128) → Split test cs
split_bytes test [] low = record { front = refl; rest = refl; same = refl }
split_bytes test (c ∷ cs) low =
    let r = split_bytes test cs low in
    elim (test c) as (λ t. test c ≡ t → Split test (c ∷ cs)) [
      | true ↦ λ e.
          let one = encode_ascii c (low c e) in
          record {
            front = ap (λ l. passing test (l ++ encode_utf8_all cs)) one ∙ rw e (ap (λ l. c ∷ l) r.front);
            rest = ap (λ l. after_passing test (l ++ encode_utf8_all cs)) one ∙ rw e r.rest;
            same = rw e (ap (λ l. l ++ encode_utf8_all (passing test cs)) one ∙ ap (λ l. c ∷ l) r.same);
          }
      | false ↦ λ e. elim (cases_lt c 128) [
        | inl l ↦ let one = encode_ascii c l in record {
          front = ap (λ l. passing test (l ++ encode_utf8_all cs)) one ∙ rw e refl;
          rest = ap (λ l. after_passing test (l ++ encode_utf8_all cs)) one ∙ rw e (ap (λ l. l ++ encode_utf8_all cs) (sym one));
          same = rw e refl;
        }
        | inr h ↦ let s = passing_stops test (encode c) (encode_utf8_all cs) low (wide c h) in record {
          front = s.0 ∙ rw e refl;
          rest = s.1 ∙ rw e refl;
          same = rw e refl;
        }
      ]
    ] refl

pub digit_low : (c : ℕ) → is_digit c ≡ true → c < 128
digit_low c h = grind (arith, nat_tests)

pub continuing_low : (c : ℕ) → is_ascii_continuing c ≡ true → c < 128
continuing_low c h = grind (arith, nat_tests)

-- A mark's bytes are ASCII.

low_list : List ℕ → Bool
low_list m = list_all (λ c. nat_lt c 128) m

high_differs : (m hs rest : List ℕ) → low_list m ≡ true → 0 < length m → IsWide hs → starts_with nat_eq (hs ++ rest) m ≡ false
unfolding High low_list
high_differs [] hs rest low some h = absurd (omega arith)
high_differs (c ∷ m) [] rest low some h = absurd (let s = h.some in omega arith)
high_differs (c ∷ m) (b ∷ hs) rest low some h =
    let l = (both (nat_lt c 128) (list_all (λ c. nat_lt c 128) m) low).0 in
    let k : nat_eq c b ≡ false = differ c b l h.high.0 in rw k refl
  where
    differ : (c b : ℕ) → nat_lt c 128 ≡ true → 128 ≤ b → nat_eq c b ≡ false
    differ c b l h = grind (arith, nat_tests)

starts_bytes : (m cs : List ℕ) → low_list m ≡ true → starts_with nat_eq (encode_utf8_all cs) m ≡ starts_with nat_eq cs m
unfolding low_list
starts_bytes [] cs low = refl
starts_bytes (x ∷ m) [] low = refl
starts_bytes (x ∷ m) (c ∷ cs) low =
    let b = both (nat_lt x 128) (list_all (λ c. nat_lt c 128) m) low in
    elim (cases_lt c 128) [
      | inl l ↦ ap (λ l. starts_with nat_eq (l ++ encode_utf8_all cs) (x ∷ m)) (encode_ascii c l) ∙ ap (λ t. nat_eq x c && t) (starts_bytes m cs b.1)
      | inr h ↦ high_differs (x ∷ m) (encode c) (encode_utf8_all cs) low (omega arith) (wide c h) ∙ sym (other x c b.0 h)
    ]
  where
    other : (x c : ℕ) → nat_lt x 128 ≡ true → 128 ≤ c → starts_with nat_eq (c ∷ cs) (x ∷ m) ≡ false
    other x c l h = let k : nat_eq x c ≡ false = grind (arith, nat_tests) in rw k refl

find_same : {A : Type 0} (p q : A → Bool) (xs : List A) → ((x : A) → p x ≡ q x) → find p xs ≡ find q xs
find_same p q [] h = refl
find_same p q (x ∷ xs) h = ap (λ b. cond b (Some x) (find p xs)) (h x) ∙ ap (λ o. cond (q x) (Some x) o) (find_same p q xs h)

mark_low : (m : Mark) → low_list (marks.spelling m) ≡ true
unfolding marks.spelling low_list
mark_low mark.Semicolon = refl
mark_low mark.OpenBrace = refl
mark_low mark.CloseBrace = refl
mark_low mark.Comma = refl
mark_low mark.DotDot = refl
mark_low mark.Dot = refl
mark_low mark.Equal = refl
mark_low mark.NotEqual = refl
mark_low mark.Less = refl
mark_low mark.LessEqual = refl
mark_low mark.Greater = refl
mark_low mark.GreaterEqual = refl
mark_low mark.OpenBracket = refl
mark_low mark.CloseBracket = refl
mark_low mark.OpenParen = refl
mark_low mark.CloseParen = refl
mark_low mark.Colon = refl
mark_low mark.Arrow = refl
mark_low mark.Minus = refl
mark_low mark.Plus = refl
mark_low mark.Bar = refl

-- the mark at the front of the bytes is that of the characters
pub mark_bytes : (cs : List ℕ) → mark_at (encode_utf8_all cs) ≡ mark_at cs
unfolding mark_at
mark_bytes cs = find_same (λ m. starts_with nat_eq (encode_utf8_all cs) (marks.spelling m)) (λ m. starts_with nat_eq cs (marks.spelling m)) MARKS (λ m. starts_bytes (marks.spelling m) cs (mark_low m))
