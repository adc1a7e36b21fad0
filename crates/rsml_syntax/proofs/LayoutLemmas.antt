-- The layout of tokens lexes to these tokens.
use Rattle.std.proofs.Common.{◌≡◌, ℕ, zero, suc, ◌+◌, ◌-◌, ◌*◌, ◌/◌, ◌%◌, ◌^◌, ◌<◌, ◌≤◌, Bool, true, false, not, ◌||◌, ◌&&◌, ◌==◌, inl, inr, List, [], ◌∷◌, ◌++◌, replicate, refl, sym, ap, ◌∙◌, subst, arith, rules, lit<}
use Rattle.std.specs.Prelude.{if◌then◌else◌}
use Rattle.std.specs.Char.{is_ascii_alphanumeric}
use Rattle.std.specs.Fmt.{decimal}
use Rattle.std.specs.List.{list_all}
use Rattle.std.specs.Str.{encode_utf8_all, all_scalars}
use Rattle.std.proofs.lemmas.Bool.Decides.{nat_tests}
use Rattle.std.proofs.lemmas.Fmt.{decimal_by_steps, IsAscii-decimal}
use Rattle.std.proofs.lemmas.Str.{encodes-append, encodes-IsAscii}
use denote.Enum.Bare.{same_true}
use lib.Utf8.{encode, scalar, low_scalar}
use Rattle.unicode_ident.proofs.IdentLemmas.{is_xid_start-ascii, is_xid_continue-ascii}
use Rattle.rsml_syntax.specs.contracts.token.Mark as the_marks
use Rattle.rsml_syntax.specs.declared.edition.Edition.{Edition}
use Rattle.rsml_syntax.specs.declared.token.Mark.{Mark}
use Rattle.rsml_syntax.specs.declared.token.Mark.TheVariants as mark
use Rattle.rsml_syntax.specs.declared.token.Placed.{Placed}
use Rattle.rsml_syntax.specs.declared.token.Token.{Token}
use Rattle.rsml_syntax.specs.declared.token.Token.TheVariants as token
use Rattle.rsml_syntax.specs.text.Characters.{are_blanks, is_start, is_continuing, is_digit, are_digits, digits_value, digits_value_from}
use Rattle.rsml_syntax.specs.grammar.Layout.{text_of, is_mark, is_a_name, open_after, breaks_line, joins, new_line, space_between, layout_from, layout}
use Rattle.rsml_syntax.specs.text.Lexing.{bytes_of, Scans, Lexes, bare}
use Rattle.rsml_syntax.specs.text.Marks as marks
use Rattle.rsml_syntax.specs.text.Tokens.{Tokens, Spells, ends, greatest_number, IsToken, AreTokens}
use Rattle.rsml_syntax.specs.text.Words as words
use Rattle.rsml_syntax.proofs.CharacterLemmas.{both, either, neither, white_before}
use Rattle.rsml_syntax.proofs.WordLemmas.{word_spelled, mark_spelled}

-- Numbers in decimal.

record AreDecimal (n : ℕ) (ds : List ℕ) : Type 0 where
  some : are_digits ds ≡ true
  value : digits_value ds ≡ n

value_after : (n : ℕ) (ds : List ℕ) (c : ℕ) → digits_value_from n (ds ++ (c ∷ [])) ≡ digits_value_from n ds * 10 + (c - 48)
value_after n [] c = refl
value_after n (d ∷ ds) c = value_after (n * 10 + (d - 48)) ds c

all_after : (ds : List ℕ) (c : ℕ) → list_all is_digit ds ≡ true → is_digit c ≡ true → list_all is_digit (ds ++ (c ∷ [])) ≡ true
all_after [] c h k = rw k refl
all_after (d ∷ ds) c h k = let b = both (is_digit d) (list_all is_digit ds) h in rw b.0 (all_after ds c b.1 k)

digit_of : (k : ℕ) → k < 10 → is_digit (48 + k) ≡ true
digit_of k h = grind (arith, nat_tests)

one_digit : (n : ℕ) → n < 10 → AreDecimal n ((48 + n) ∷ [])
one_digit n h = record { some = rw (digit_of n h) refl; value = omega arith }

more_digits : (n : ℕ) (ds : List ℕ) → 10 ≤ n → AreDecimal (n / 10) ds → AreDecimal n (ds ++ ((48 + n % 10) ∷ []))
more_digits n [] h k = absurd (let s = k.some in cc)
more_digits n (d ∷ ds) h k =
    let b = both (is_digit d) (list_all is_digit ds) k.some in
    record {
      some = rw b.0 (all_after ds (48 + n % 10) b.1 (digit_of (n % 10) (omega arith)));
      value = value_after 0 (d ∷ ds) (48 + n % 10) ∙ ap (λ v. v * 10 + (48 + n % 10 - 48)) k.value ∙ omega arith;
    }

digits_scalars : (ds : List ℕ) → list_all is_digit ds ≡ true → all_scalars ds ≡ true
digits_scalars [] h = refl
digits_scalars (d ∷ ds) h =
    let b = both (is_digit d) (list_all is_digit ds) h in
    rw (low_scalar d (low d b.0)) (digits_scalars ds b.1)
  where
    low : (d : ℕ) → is_digit d ≡ true → d < 55296
    low d h = grind (arith, nat_tests)

are_all : (ds : List ℕ) → are_digits ds ≡ true → list_all is_digit ds ≡ true
are_all [] h = refl
are_all (d ∷ ds) h = h

-- The characters of a token's text.

record Written (e : Edition) (t : Token) : Type 0 where
  chars : List ℕ
  scalars : all_scalars chars ≡ true
  bytes : text_of t ≡ encode_utf8_all chars
  spells : Spells e t chars

fits : (n : ℕ) → n ≤ greatest_number → n < 2 ^ 64
fits n h = omega arith

written : (e : Edition) (t : Token) → IsToken e t → Written e t
written e (token.Word w) is = let s = word_spelled w in record { chars = words.spelling w; scalars = s.scalars; bytes = sym s.bytes; spells = (refl, is) }
written e (token.Name name) is = record { chars = is.0; scalars = is.1; bytes = is.2; spells = (is.2, is.3, is.4) }
written e (token.Number n) is =
    let small : n < 2 ^ 64 = fits n is in
    let d = decimal_by_steps AreDecimal one_digit more_digits n small in
    record {
      chars = decimal n;
      scalars = digits_scalars (decimal n) (are_all (decimal n) d.some);
      bytes = sym (encodes-IsAscii (decimal n) (IsAscii-decimal n small));
      spells = (d.some, d.value, is);
    }
written e (token.Mark m) is = let s = mark_spelled m in record { chars = marks.spelling m; scalars = s.scalars; bytes = sym s.bytes; spells = refl }

-- Where a token ends.

-- no token goes on with such a character
record Closes (c : ℕ) : Type 0 where
  no_name : is_continuing c ≡ false
  no_digit : is_digit c ≡ false
  no_dot : (46 == c) ≡ false
  no_equal : (61 == c) ≡ false
  no_greater : (62 == c) ≡ false

closes : (c : ℕ) → c < 128 → is_continuing c ≡ false → (is_digit c || (46 == c) || (61 == c) || (62 == c)) ≡ false → Closes c
closes c low name h =
    let a = neither (is_digit c || (46 == c) || (61 == c)) (62 == c) h in
    let b = neither (is_digit c || (46 == c)) (61 == c) a.0 in
    let d = neither (is_digit c) (46 == c) b.0 in
    record { no_name = name; no_digit = d.0; no_dot = d.1; no_equal = b.1; no_greater = a.1 }

mark_ends : (m : Mark) (c : ℕ) (more : List ℕ) → Closes c → ends (token.Mark m) (c ∷ more) ≡ true
unfolding marks.spelling
mark_ends mark.Semicolon c more h = refl
mark_ends mark.OpenBrace c more h = refl
mark_ends mark.CloseBrace c more h = refl
mark_ends mark.Comma c more h = refl
mark_ends mark.DotDot c more h = refl
mark_ends mark.Dot c more h = rw h.no_dot refl
mark_ends mark.Equal c more h = refl
mark_ends mark.NotEqual c more h = refl
mark_ends mark.Less c more h = rw h.no_equal refl
mark_ends mark.LessEqual c more h = refl
mark_ends mark.Greater c more h = rw h.no_equal refl
mark_ends mark.GreaterEqual c more h = refl
mark_ends mark.OpenBracket c more h = refl
mark_ends mark.CloseBracket c more h = refl
mark_ends mark.OpenParen c more h = refl
mark_ends mark.CloseParen c more h = refl
mark_ends mark.Colon c more h = refl
mark_ends mark.Arrow c more h = refl
mark_ends mark.Minus c more h = rw h.no_greater refl
mark_ends mark.Plus c more h = refl
mark_ends mark.Bar c more h = refl

ends_before : (t : Token) (c : ℕ) (more : List ℕ) → Closes c → ends t (c ∷ more) ≡ true
ends_before (token.Word w) c more h = ap not h.no_name
ends_before (token.Name name) c more h = ap not h.no_name
ends_before (token.Number n) c more h = ap not h.no_digit
ends_before (token.Mark m) c more h = mark_ends m c more h

space_closes : Closes 32
space_closes = closes 32 (lit< tt) (is_xid_continue-ascii 32 (lit< tt)) refl

line_closes : Closes 10
line_closes = closes 10 (lit< tt) (is_xid_continue-ascii 10 (lit< tt)) refl

is_the_mark : (m : Mark) (t : Token) → is_mark m t ≡ true → t ≡ token.Mark m
is_the_mark m (token.Word w) h = absurd (cc)
is_the_mark m (token.Name n) h = absurd (cc)
is_the_mark m (token.Number n) h = absurd (cc)
is_the_mark m (token.Mark x) h = ap token.Mark (sym (same_true the_marks.the_type (search rules) m x h))

-- a mark that closes what stands before it
mark_closes : (e : Edition) (a b : Token) (m : Mark) (s more : List ℕ) (c : ℕ) → is_mark m b ≡ true → Spells e b s → marks.spelling m ≡ c ∷ [] → Closes c → ends a (s ++ more) ≡ true
mark_closes e a b m s more c is spelled one h =
    let same : s ≡ marks.spelling m = subst (λ (t : Token). Spells e t s) (is_the_mark m b is) spelled in
    subst (λ (l : List ℕ). ends a (l ++ more) ≡ true) (sym (same ∙ one)) (ends_before a c more h)

opens_ends : (a : Token) (m : Mark) (more : List ℕ) → is_mark m a ≡ true → ends (token.Mark m) more ≡ true → ends a more ≡ true
opens_ends a m more is h = subst (λ (t : Token). ends t more ≡ true) (sym (is_the_mark m a is)) h

-- no name begins with a dot
no_dot : (c : ℕ) → is_start c ≡ true → (46 == c) ≡ false
no_dot c h = elim (46 == c) as (λ b. (46 == c) ≡ b → (46 == c) ≡ false) [
  | true ↦ λ e. absurd (let same : 46 ≡ c = grind (arith, nat_tests) in let s = sym h ∙ ap is_start (sym same) ∙ is_xid_start_dot in cc)
  | false ↦ λ e. e
] refl
  where
    is_xid_start_dot : is_start 46 ≡ false
    is_xid_start_dot = rw (is_xid_start-ascii 46 (lit< tt)) refl

-- a name after a dot
dot_ends : (e : Edition) (a b : Token) (s more : List ℕ) → (is_mark mark.Dot a && is_a_name b) ≡ true → Spells e b s → ends a (s ++ more) ≡ true
unfolding marks.spelling
dot_ends e a b s more h spelled =
    let k = both (is_mark mark.Dot a) (is_a_name b) h in
    subst (λ (t : Token). ends t (s ++ more) ≡ true) (sym (is_the_mark mark.Dot a k.0)) (named b s k.1 spelled)
  where
    named : (b : Token) (s : List ℕ) → is_a_name b ≡ true → Spells e b s → ends (token.Mark mark.Dot) (s ++ more) ≡ true
    named (token.Word w) s is h = absurd (cc)
    named (token.Name n) [] is h = absurd (let k = h.1 in cc)
    named (token.Name n) (c ∷ s) is h = rw (no_dot c (both (is_start c) (list_all is_continuing s) h.1).0) refl
    named (token.Number n) s is h = absurd (cc)
    named (token.Mark m) s is h = absurd (cc)

ascii_closes : (c : ℕ) → c < 128 → (is_ascii_alphanumeric c || (c == 95)) ≡ false → (is_digit c || (46 == c) || (61 == c) || (62 == c)) ≡ false → Closes c
ascii_closes c low name h = closes c low (is_xid_continue-ascii c low ∙ name) h

-- a dot after a name or a bracket
before_dot : (e : Edition) (a b : Token) (s more : List ℕ) → (is_mark mark.Dot b && (is_a_name a || is_mark mark.CloseBracket a)) ≡ true → Spells e b s → ends a (s ++ more) ≡ true
unfolding marks.spelling
before_dot e a b s more h spelled =
    let k = both (is_mark mark.Dot b) (is_a_name a || is_mark mark.CloseBracket a) h in
    let same : s ≡ marks.spelling mark.Dot = subst (λ (t : Token). Spells e t s) (is_the_mark mark.Dot b k.0) spelled in
    subst (λ (l : List ℕ). ends a (l ++ more) ≡ true) (sym same) (elim (either (is_a_name a) (is_mark mark.CloseBracket a) k.1) [
      | inl name ↦ named a name
      | inr bracket ↦ opens_ends a mark.CloseBracket (46 ∷ more) bracket refl
    ])
  where
    named : (a : Token) → is_a_name a ≡ true → ends a (46 ∷ more) ≡ true
    named (token.Word w) is = absurd (cc)
    named (token.Name n) is = ap not (is_xid_continue-ascii 46 (lit< tt))
    named (token.Number n) is = absurd (cc)
    named (token.Mark m) is = absurd (cc)

-- what closes the token before it
closed_ends : (e : Edition) (a b : Token) (s more : List ℕ) →
    (is_mark mark.Semicolon b || is_mark mark.Comma b || is_mark mark.OpenBracket b || is_mark mark.CloseBracket b || is_mark mark.CloseParen b) ≡ true → Spells e b s → ends a (s ++ more) ≡ true
unfolding marks.spelling
closed_ends e a b s more h spelled =
    elim (either (is_mark mark.Semicolon b || is_mark mark.Comma b || is_mark mark.OpenBracket b || is_mark mark.CloseBracket b) (is_mark mark.CloseParen b) h) [
      | inr h ↦ mark_closes e a b mark.CloseParen s more 41 h spelled refl (ascii_closes 41 (lit< tt) refl refl)
      | inl h ↦ elim (either (is_mark mark.Semicolon b || is_mark mark.Comma b || is_mark mark.OpenBracket b) (is_mark mark.CloseBracket b) h) [
        | inr h ↦ mark_closes e a b mark.CloseBracket s more 93 h spelled refl (ascii_closes 93 (lit< tt) refl refl)
        | inl h ↦ elim (either (is_mark mark.Semicolon b || is_mark mark.Comma b) (is_mark mark.OpenBracket b) h) [
          | inr h ↦ mark_closes e a b mark.OpenBracket s more 91 h spelled refl (ascii_closes 91 (lit< tt) refl refl)
          | inl h ↦ elim (either (is_mark mark.Semicolon b) (is_mark mark.Comma b) h) [
            | inr h ↦ mark_closes e a b mark.Comma s more 44 h spelled refl (ascii_closes 44 (lit< tt) refl refl)
            | inl h ↦ mark_closes e a b mark.Semicolon s more 59 h spelled refl (ascii_closes 59 (lit< tt) refl refl)
          ]
        ]
      ]
    ]

-- what joins the token before it ends that
joined_ends : (e : Edition) (a b : Token) (s more : List ℕ) → joins a b ≡ true → Spells e b s → ends a (s ++ more) ≡ true
unfolding marks.spelling
joined_ends e a b s more h spelled =
    elim (either (close || is_mark mark.OpenBracket a || is_mark mark.OpenParen a || (is_mark mark.Dot b && (is_a_name a || is_mark mark.CloseBracket a))) (is_mark mark.Dot a && is_a_name b) h) [
      | inr h ↦ dot_ends e a b s more h spelled
      | inl h ↦ elim (either (close || is_mark mark.OpenBracket a || is_mark mark.OpenParen a) (is_mark mark.Dot b && (is_a_name a || is_mark mark.CloseBracket a)) h) [
        | inr h ↦ before_dot e a b s more h spelled
        | inl h ↦ elim (either (close || is_mark mark.OpenBracket a) (is_mark mark.OpenParen a) h) [
          | inr h ↦ opens_ends a mark.OpenParen (s ++ more) h refl
          | inl h ↦ elim (either close (is_mark mark.OpenBracket a) h) [
            | inr h ↦ opens_ends a mark.OpenBracket (s ++ more) h refl
            | inl h ↦ closed_ends e a b s more h spelled
          ]
        ]
      ]
    ]
  where
    close : Bool
    close = is_mark mark.Semicolon b || is_mark mark.Comma b || is_mark mark.OpenBracket b || is_mark mark.CloseBracket b || is_mark mark.CloseParen b

-- The space between two tokens.

record IsSpace (gap : List ℕ) : Type 0 where
  blank : are_blanks false gap ≡ true
  scalars : all_scalars gap ≡ true
  bytes : encode_utf8_all gap ≡ gap

spaces : (n : ℕ) → IsSpace (replicate n 32)
unfolding encode
spaces zero = record { blank = refl; scalars = refl; bytes = refl }
spaces (suc n) = let r = spaces n in record { blank = white_before false 32 (replicate n 32) refl refl r.blank; scalars = r.scalars; bytes = ap (λ l. 32 ∷ l) r.bytes }

line_spaces : (n : ℕ) → IsSpace (10 ∷ replicate n 32)
unfolding encode
line_spaces n = let r = spaces n in record { blank = white_before false 10 (replicate n 32) refl refl r.blank; scalars = r.scalars; bytes = ap (λ l. 10 ∷ l) r.bytes }

between_is_space : (depth : ℕ) (a b : Token) → IsSpace (space_between depth a b)
unfolding encode
between_is_space depth a b = elim (breaks_line a b) as (λ x. IsSpace (if x then new_line (if is_mark mark.CloseBrace b then depth - 1 else depth) else if joins a b then [] else 32 ∷ [])) [
  | true ↦ line_spaces (2 * (if is_mark mark.CloseBrace b then depth - 1 else depth))
  | false ↦ elim (joins a b) as (λ y. IsSpace (if y then [] else 32 ∷ [])) [ true ↦ spaces 0 | false ↦ spaces 1 ]
]

-- the token ends where the space and the next token follow
between_ends : (e : Edition) (depth : ℕ) (a b : Token) (s more : List ℕ) → Spells e b s → ends a (space_between depth a b ++ (s ++ more)) ≡ true
between_ends e depth a b s more spelled =
    elim (breaks_line a b) as (λ x. ends a ((if x then new_line (if is_mark mark.CloseBrace b then depth - 1 else depth) else if joins a b then [] else 32 ∷ []) ++ (s ++ more)) ≡ true) [
      | true ↦ ends_before a 10 _ line_closes
      | false ↦ elim (joins a b) as (λ y. joins a b ≡ y → ends a ((if y then [] else 32 ∷ []) ++ (s ++ more)) ≡ true) [
        | true ↦ λ h. joined_ends e a b s more h spelled
        | false ↦ λ h. ends_before a 32 _ space_closes
      ] refl
    ]

-- The layout, token by token.

record Laid (e : Edition) (depth at : ℕ) (a : Token) (ts : Tokens) : Type 0 where
  spelling : List ℕ
  more : List ℕ
  scalars : all_scalars (spelling ++ more) ≡ true
  bytes : layout_from depth a ts ≡ encode_utf8_all (spelling ++ more)
  spells : Spells e a spelling
  ended : ends a more ≡ true
  placed : List Placed
  scans : Scans e (at + bytes_of spelling) more placed (10 ∷ [])
  same : bare placed ≡ ts

scalars-append : (xs ys : List ℕ) → all_scalars xs ≡ true → all_scalars ys ≡ true → all_scalars (xs ++ ys) ≡ true
scalars-append [] ys h k = k
scalars-append (x ∷ xs) ys h k = let b = both (scalar x) (all_scalars xs) h in rw b.0 (scalars-append xs ys b.1 k)

laid : (e : Edition) (depth at : ℕ) (a : Token) (ts : Tokens) → AreTokens e (a ∷ ts) → Laid e depth at a ts
unfolding encode
laid e depth at a [] is =
    let w = written e a is.0 in
    record {
      spelling = w.chars;
      more = 10 ∷ [];
      scalars = scalars-append w.chars (10 ∷ []) w.scalars refl;
      bytes = ap (λ l. l ++ (10 ∷ [])) w.bytes ∙ sym (encodes-append w.chars (10 ∷ []));
      spells = w.spells;
      ended = ends_before a 10 [] line_closes;
      placed = [];
      scans = refl;
      same = refl;
    }
laid e depth at a (b ∷ ts) is =
    let w = written e a is.0 in
    let gap : List ℕ = space_between (open_after depth a) a b in
    let g = between_is_space (open_after depth a) a b in
    let r = laid e (open_after depth a) (at + bytes_of w.chars + bytes_of gap) b ts is.1 in
    let place : Placed = record { token = b; at = at + bytes_of w.chars + bytes_of gap } in
    record {
      spelling = w.chars;
      more = gap ++ (r.spelling ++ r.more);
      scalars = scalars-append w.chars (gap ++ (r.spelling ++ r.more)) w.scalars (scalars-append gap (r.spelling ++ r.more) g.scalars r.scalars);
      bytes = ap (λ l. text_of a ++ (gap ++ l)) r.bytes
          ∙ ap (λ l. l ++ (gap ++ encode_utf8_all (r.spelling ++ r.more))) w.bytes
          ∙ ap (λ l. encode_utf8_all w.chars ++ (l ++ encode_utf8_all (r.spelling ++ r.more))) (sym g.bytes)
          ∙ ap (λ l. encode_utf8_all w.chars ++ l) (sym (encodes-append gap (r.spelling ++ r.more)))
          ∙ sym (encodes-append w.chars (gap ++ (r.spelling ++ r.more)));
      spells = w.spells;
      ended = between_ends e (open_after depth a) a b r.spelling r.more r.spells;
      placed = place ∷ r.placed;
      scans = (gap, r.spelling, r.more, refl, g.blank, refl, r.spells, r.ended, r.scans);
      same = ap (λ l. b ∷ l) r.same;
    }

-- the layout of tokens is a text of these very tokens
pub layout_lexes : (e : Edition) (ts : Tokens) → AreTokens e ts → (ps : List Placed) × Lexes e (layout ts) ps × (bare ps ≡ ts)
layout_lexes e [] is = ([], ([], refl, refl, ([], refl, refl)), refl)
layout_lexes e (a ∷ ts) is =
    let r = laid e 0 0 a ts is in
    let first : Placed = record { token = a; at = 0 } in (
      first ∷ r.placed,
      (r.spelling ++ r.more, r.scalars, r.bytes, (10 ∷ [], ([], r.spelling, r.more, refl, refl, refl, r.spells, r.ended, r.scans), refl)),
      ap (λ l. a ∷ l) r.same,
    )
