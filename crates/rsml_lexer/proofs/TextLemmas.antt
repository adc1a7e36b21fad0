-- What the reader of tokens needs of a text and its characters.
use Rattle.std.proofs.Common.{◌≡◌, ℕ, ◌+◌, ◌<◌, ◌≤◌, Bool, true, false, List, [], ◌∷◌, ◌++◌, length, take, drop, Some, None, nat_le, get_or, refl, sym, ap, ◌∙◌, subst, arith, append_assoc, add-zero, length-append}
use Rattle.std.specs.Prelude.{if◌then◌else◌}
use Rattle.std.specs.Char.{len_utf8}
use Rattle.std.specs.List.{list_all}
use Rattle.std.specs.Str.{encode_utf8_all, all_scalars, chars, IsUtf8, IsCharBoundary}
use Rattle.std.proofs.Math.Seq.{take-add}
use Rattle.std.proofs.lemmas.Bool.Decides.{nat_tests}
use Rattle.std.proofs.lemmas.List.{append-nil, take_at, length-take-le, length-drop, get_or-drop}
use Rattle.std.proofs.lemmas.Str.{encodes-append, chars-encodes, encodes-chars, scalars-chars, cons_from_encodes, length-encode, len_utf8_bounds, char_from_byte, IsCharBoundary-from_drop}
use lib.Utf8.{encode}
use Rattle.unicode_ident.proofs.IdentLemmas.{is_xid_continue-ascii}
use Rattle.rsml_syntax.specs.declared.edition.Edition.{Edition}
use Rattle.rsml_syntax.specs.declared.token.Mark.{Mark}
use Rattle.rsml_syntax.specs.declared.token.Token.{Token}
use Rattle.rsml_syntax.specs.declared.token.Token.TheVariants as token
use Rattle.rsml_syntax.specs.text.Characters.{is_start, is_continuing, is_digit, digits_at, digits_value}
use Rattle.rsml_syntax.specs.text.Lexing.{bytes_of}
use Rattle.rsml_syntax.specs.text.Marks as marks
use Rattle.rsml_syntax.specs.text.Marks.{mark_at}
use Rattle.rsml_syntax.specs.text.Characters.{passing}
use Rattle.rsml_syntax.specs.helpers.Scanning.{after_passing, named, Cut, TooBig, Bad, front, front_named, front_number, front_marked}
use Rattle.rsml_syntax.specs.text.Tokens.{first_is, greatest_number}
use Rattle.rsml_syntax.proofs.CharacterLemmas.{both, split_whole, split_passes, split_ends, split_again}
use Rattle.rsml_syntax.proofs.WordLemmas.{mark_spelled}
use Rattle.rsml_lexer.specs.Bytes.{is_ascii_continuing}
use Rattle.rsml_lexer.specs.Answers.{IsNumber}
use Rattle.rsml_lexer.proofs.ByteLemmas.{split_bytes, digit_low, continuing_low, mark_bytes}

-- The length of a name.

-- a text that goes on after some characters
split_text : (cs done rest : List ℕ) → encode_utf8_all cs ≡ encode_utf8_all done ++ rest → (es : List ℕ) × (cs ≡ done ++ es) × (encode_utf8_all es ≡ rest)
split_text cs [] rest h = (cs, refl, h)
split_text cs (c ∷ done) rest h =
    let one = cons_from_encodes cs (encode_utf8_all done ++ rest) c (h ∙ append_assoc (encode c) (encode_utf8_all done) rest) in
    let r = split_text one.0 done rest one.2 in
    (r.0, one.1 ∙ ap (λ l. c ∷ l) r.1, r.2)

-- some characters have passed, and these bytes are left
pub record Passed (text rest : List ℕ) (len : ℕ) : Type 0 where
  pub done : List ℕ
  pub whole : text ≡ encode_utf8_all done ++ rest
  pub all : list_all is_continuing done ≡ true
  pub taken : len ≡ length (encode_utf8_all done)

pub none_passed : (text : List ℕ) → Passed text text 0
none_passed text = record { done = []; whole = refl; all = refl; taken = refl }

all_push : (done : List ℕ) (c : ℕ) → list_all is_continuing done ≡ true → is_continuing c ≡ true → list_all is_continuing (done ++ (c ∷ [])) ≡ true
all_push [] c h k = rw k refl
all_push (d ∷ done) c h k = let b = both (is_continuing d) (list_all is_continuing done) h in rw b.0 (all_push done c b.1 k)

pub more_passed : (text rest left : List ℕ) (len c : ℕ) → Passed text rest len → rest ≡ encode c ++ left → is_continuing c ≡ true → Passed text left (len + len_utf8 c)
more_passed text rest left len c p h k =
    let one : encode_utf8_all (p.done ++ (c ∷ [])) ≡ encode_utf8_all p.done ++ encode c = encodes-append p.done (c ∷ []) ∙ ap (λ l. encode_utf8_all p.done ++ l) (append-nil (encode c)) in
    record {
      done = p.done ++ (c ∷ []);
      whole = p.whole ∙ ap (λ l. encode_utf8_all p.done ++ l) h ∙ sym (append_assoc (encode_utf8_all p.done) (encode c) left) ∙ ap (λ l. l ++ left) (sym one);
      all = all_push p.done c p.all k;
      taken = omega (arith, p.taken, ap length one, length-append (encode_utf8_all p.done) (encode c), length-encode c);
    }

pub passed_within : (text rest : List ℕ) (len : ℕ) → Passed text rest len → len + length rest ≡ length text
passed_within text rest len p = omega (arith, p.taken, ap length p.whole, length-append (encode_utf8_all p.done) rest)

len_some : (c : ℕ) → 1 ≤ len_utf8 c
len_some c = (len_utf8_bounds c).0

-- the next character, if there is one, does not go on in a name
abbrev pub Stops : List ℕ → Type 0
Stops rest = (es : List ℕ) → encode_utf8_all es ≡ rest → first_is is_continuing es ≡ false

pub empty_stops : (rest : List ℕ) → length rest ≡ 0 → Stops rest
empty_stops rest h [] e = refl
empty_stops rest h (c ∷ es) e =
    absurd (omega (arith, h, ap length e, length-append (encode c) (encode_utf8_all es), length-encode c, len_some c))

pub other_stops : (rest left : List ℕ) (c : ℕ) → rest ≡ encode c ++ left → is_continuing c ≡ false → Stops rest
other_stops rest left c h k es e = let one = cons_from_encodes es left c (e ∙ h) in subst (λ (l : List ℕ). first_is is_continuing l ≡ false) (sym one.1) k

pub passed_front : (text rest : List ℕ) (len : ℕ) → IsUtf8 text → Passed text rest len → Stops rest → take len text ≡ encode_utf8_all (passing is_continuing (chars text))
passed_front text rest len u p stop =
    let s = split_text (chars text) p.done rest (encodes-chars text u ∙ p.whole) in
    let r = split_again is_continuing p.done s.0 p.all (stop s.0 s.2) in
    ap (take len) p.whole ∙ take_at (encode_utf8_all p.done) rest len (sym p.taken) ∙ ap encode_utf8_all (sym r.0) ∙ ap (λ l. encode_utf8_all (passing is_continuing l)) (sym s.1)

-- The ASCII characters of a name, and then the others.

asc_continues : (c : ℕ) → is_ascii_continuing c ≡ true → is_continuing c ≡ true
asc_continues c h = is_xid_continue-ascii c (continuing_low c h) ∙ h

all_continue : (cs : List ℕ) → list_all is_ascii_continuing cs ≡ true → list_all is_continuing cs ≡ true
all_continue [] h = refl
all_continue (c ∷ cs) h = let b = both (is_ascii_continuing c) (list_all is_ascii_continuing cs) h in rw (asc_continues c b.0) (all_continue cs b.1)

passing_over : (xs ys : List ℕ) → list_all is_continuing xs ≡ true → passing is_continuing (xs ++ ys) ≡ xs ++ passing is_continuing ys
passing_over [] ys h = refl
passing_over (x ∷ xs) ys h = let b = both (is_continuing x) (list_all is_continuing xs) h in rw b.0 (ap (λ l. x ∷ l) (passing_over xs ys b.1))

scalars_after : (test : ℕ → Bool) (cs : List ℕ) → all_scalars cs ≡ true → all_scalars (after_passing test cs) ≡ true
scalars_after test [] h = refl
scalars_after test (c ∷ cs) h = elim (test c) as (λ t. all_scalars (if t then after_passing test cs else c ∷ cs) ≡ true) [
  | true ↦ scalars_after test cs (both _ (all_scalars cs) h).1
  | false ↦ h
]

-- what is left after the ASCII characters
pub ascii_rest : (text : List ℕ) (len : ℕ) → IsUtf8 text → drop len text ≡ after_passing is_ascii_continuing text →
    IsUtf8 (drop len text) × (chars (drop len text) ≡ after_passing is_ascii_continuing (chars text))
ascii_rest text len u h =
    let cs = chars text in
    let r : encode_utf8_all (after_passing is_ascii_continuing cs) ≡ drop len text =
    sym (split_bytes is_ascii_continuing cs continuing_low).rest ∙ ap (after_passing is_ascii_continuing) (encodes-chars text u) ∙ sym h in
    let scalar = scalars_after is_ascii_continuing cs (scalars-chars text u) in
    ((after_passing is_ascii_continuing cs, (scalar, r)), ap chars (sym r) ∙ chars-encodes (after_passing is_ascii_continuing cs) scalar)

-- the text may be cut there
pub ascii_cut : (text bytes : List ℕ) (len : ℕ) → IsUtf8 text → bytes ≡ text → drop len bytes ≡ after_passing is_ascii_continuing bytes → len ≤ length bytes → IsCharBoundary text len
ascii_cut text bytes len u same is le =
    IsCharBoundary-from_drop text len (omega (arith, le, ap length same)) (ascii_rest text len u (ap (drop len) (sym same) ∙ is ∙ ap (after_passing is_ascii_continuing) same)).0

-- the characters that pass are the ASCII ones and then those of the rest
ascii_front : (text : List ℕ) (len : ℕ) → IsUtf8 text → take len text ≡ passing is_ascii_continuing text →
    encode_utf8_all (passing is_continuing (chars text)) ≡ take len text ++ encode_utf8_all (passing is_continuing (after_passing is_ascii_continuing (chars text)))
ascii_front text len u h =
    let cs = chars text in
    let f = passing is_ascii_continuing cs in
    let r = after_passing is_ascii_continuing cs in
    let s = split_bytes is_ascii_continuing cs continuing_low in
    let whole : passing is_continuing cs ≡ f ++ passing is_continuing r =
    ap (passing is_continuing) (split_whole is_ascii_continuing cs) ∙ passing_over f r (all_continue f (split_passes is_ascii_continuing cs)) in
    let taken : encode_utf8_all f ≡ take len text = s.same ∙ sym s.front ∙ ap (passing is_ascii_continuing) (encodes-chars text u) ∙ sym h in
    ap encode_utf8_all whole ∙ encodes-append f (passing is_continuing r) ∙ ap (λ l. l ++ encode_utf8_all (passing is_continuing r)) taken

pub name_goes_on : (text : List ℕ) (len more : ℕ) → IsUtf8 text → take len text ≡ passing is_ascii_continuing text → drop len text ≡ after_passing is_ascii_continuing text →
    take more (drop len text) ≡ encode_utf8_all (passing is_continuing (chars (drop len text))) → take (len + more) text ≡ encode_utf8_all (passing is_continuing (chars text))
name_goes_on text len more u front rest h =
    let r = ascii_rest text len u rest in
    take-add len more text ∙ ap (λ l. take len text ++ l) (h ∙ ap (λ l. encode_utf8_all (passing is_continuing l)) r.1) ∙ sym (ascii_front text len u front)

-- where the byte after the ASCII characters is ASCII too, or none, no more follow
no_more : (r : List ℕ) → first_is is_ascii_continuing r ≡ false → ((c : ℕ) (cs : List ℕ) → r ≡ c ∷ cs → c < 128) → passing is_continuing r ≡ []
no_more [] no_asc low = refl
no_more (c ∷ cs) no_asc low = let k : is_continuing c ≡ false = is_xid_continue-ascii c (low c cs refl) ∙ no_asc in rw k refl

low_first : (text : List ℕ) (len c : ℕ) (more : List ℕ) → (len < length text → get_or text len 0 < 128) → drop len text ≡ encode c ++ more → c < 128
low_first text len c more low h =
    let some : 0 < length (drop len text) = omega (arith, ap length h, length-append (encode c) more, length-encode c, len_some c) in
    let within : len < length text = omega (arith, some, length-drop len text) in
    let byte : get_or (drop len text) 0 0 ≡ get_or text len 0 = get_or-drop len text 0 0 ∙ ap (λ i. get_or text i 0) (add-zero len) in
    let is : c ≡ get_or (drop len text) 0 0 = char_from_byte (drop len text) more c h (omega (arith, byte, low within)) some in
    omega (arith, is, byte, low within)

pub name_stops : (text : List ℕ) (len : ℕ) → IsUtf8 text → take len text ≡ passing is_ascii_continuing text → drop len text ≡ after_passing is_ascii_continuing text →
    (len < length text → get_or text len 0 < 128) → take len text ≡ encode_utf8_all (passing is_continuing (chars text))
name_stops text len u front rest low =
    let r = ascii_rest text len u rest in
    let none : passing is_continuing (after_passing is_ascii_continuing (chars text)) ≡ [] =
    no_more (after_passing is_ascii_continuing (chars text)) (split_ends is_ascii_continuing (chars text))
    (λ c cs e. low_first text len c (encode_utf8_all cs) low (sym (encodes-chars (drop len text) r.0) ∙ ap encode_utf8_all (r.1 ∙ e))) in
    sym (ascii_front text len u front ∙ ap (λ l. take len text ++ encode_utf8_all l) none ∙ append-nil (take len text))

-- What stands at the front.

starts : (text : List ℕ) → IsUtf8 text → 0 < length text → (c : ℕ) × (cs : List ℕ) × (chars text ≡ c ∷ cs)
starts text u some = step (chars text) refl
  where
    step : (l : List ℕ) → l ≡ chars text → (c : ℕ) × (cs : List ℕ) × (chars text ≡ c ∷ cs)
    step [] e = absurd (omega (arith, some, ap length (sym (encodes-chars text u)), ap (λ l. length (encode_utf8_all l)) (sym e)))
    step (c ∷ cs) e = (c, cs, sym e)

-- a name at the front, or a word
pub name_front : (e : Edition) (text : List ℕ) (len : ℕ) (t : Token) → IsUtf8 text → len ≤ length text → first_is is_start (chars text) ≡ true →
    take len text ≡ encode_utf8_all (passing is_continuing (chars text)) → t ≡ named e (take len text) →
    (spelling more : List ℕ) × (front e (chars text) ≡ Cut t spelling more) × (len ≡ bytes_of spelling)
unfolding front
name_front e text len t u le start taken is = step (chars text) refl
  where
    step : (l : List ℕ) → l ≡ chars text → (spelling more : List ℕ) × (front e (chars text) ≡ Cut t spelling more) × (len ≡ bytes_of spelling)
    step [] same = absurd (let s = ap (first_is is_start) same ∙ start in cc)
    step (c ∷ cs) same =
        let first : is_start c ≡ true = ap (first_is is_start) same ∙ start in (
          passing is_continuing (chars text),
          after_passing is_continuing (chars text),
          ap (front e) (sym same)
              ∙ ap (λ (b : Bool). if b then front_named e (c ∷ cs) else if is_digit c then front_number (c ∷ cs) else front_marked (mark_at (c ∷ cs)) (c ∷ cs)) first
              ∙ ap (front_named e) same
              ∙ ap (λ x. Cut x (passing is_continuing (chars text)) (after_passing is_continuing (chars text))) (sym (is ∙ ap (named e) taken)),
          sym (length-take-le len text le) ∙ ap length taken,
        )

digits_bytes : (text : List ℕ) → IsUtf8 text → (digits_at text ≡ digits_at (chars text)) × (bytes_of (digits_at (chars text)) ≡ length (digits_at (chars text)))
digits_bytes text u =
    let s = split_bytes is_digit (chars text) digit_low in
    (ap (passing is_digit) (sym (encodes-chars text u)) ∙ s.front, ap length s.same)

pub digits_are : (bytes : List ℕ) (len : ℕ) → take len bytes ≡ digits_at bytes → list_all is_digit (take len bytes) ≡ true
digits_are bytes len h = ap (list_all is_digit) h ∙ split_passes is_digit bytes

digits_some : (c : ℕ) (cs : List ℕ) → 0 < length (digits_at (c ∷ cs)) → is_digit c ≡ true
digits_some c cs some = elim (is_digit c) as (λ b. 0 < length (if b then c ∷ digits_at cs else []) → b ≡ true) [ true ↦ λ h. refl | false ↦ λ h. absurd (omega arith) ] some

digits_none : (c : ℕ) (cs : List ℕ) → length (digits_at (c ∷ cs)) ≡ 0 → is_digit c ≡ false
digits_none c cs none = elim (is_digit c) as (λ b. length (if b then c ∷ digits_at cs else []) ≡ 0 → b ≡ false) [ true ↦ λ h. absurd (omega arith) | false ↦ λ h. refl ] none

-- where no name begins and some digits stand, there is a number
number_at : (e : Edition) (text : List ℕ) (len : ℕ) → IsUtf8 text → len ≤ length text → 0 < len → first_is is_start (chars text) ≡ false → take len text ≡ digits_at text →
    (front e (chars text) ≡ front_number (chars text)) × (len ≡ bytes_of (digits_at (chars text))) × (take len text ≡ digits_at (chars text))
unfolding front
number_at e text len u le some start taken =
    let b = digits_bytes text u in
    let s = starts text u (omega arith) in
    let size : len ≡ length (digits_at (chars text)) = sym (length-take-le len text le) ∙ ap length (taken ∙ b.0) in
    let first : is_start s.0 ≡ false = ap (first_is is_start) (sym s.2) ∙ start in
    let digit : is_digit s.0 ≡ true = digits_some s.0 s.1 (omega (arith, some, size, ap (λ l. length (digits_at l)) s.2)) in (
      ap (front e) s.2
          ∙ ap (λ (b : Bool). if b then front_named e (s.0 ∷ s.1) else if is_digit s.0 then front_number (s.0 ∷ s.1) else front_marked (mark_at (s.0 ∷ s.1)) (s.0 ∷ s.1)) first
          ∙ ap (λ (b : Bool). if b then front_number (s.0 ∷ s.1) else front_marked (mark_at (s.0 ∷ s.1)) (s.0 ∷ s.1)) digit
          ∙ ap front_number (sym s.2),
      size ∙ sym b.1,
      taken ∙ b.0,
    )

pub small_front : (e : Edition) (text : List ℕ) (len n : ℕ) → IsUtf8 text → len ≤ length text → 0 < len → first_is is_start (chars text) ≡ false → take len text ≡ digits_at text →
    IsNumber (take len text) (Some n) → (spelling more : List ℕ) × (front e (chars text) ≡ Cut (token.Number n) spelling more) × (len ≡ bytes_of spelling)
small_front e text len n u le some start taken is =
    let k = number_at e text len u le some start taken in
    let value : n ≡ digits_value (digits_at (chars text)) = is.0 ∙ ap digits_value k.2 in
    let fits : nat_le (digits_value (digits_at (chars text))) greatest_number ≡ true = small (digits_value (digits_at (chars text))) (subst (λ (m : ℕ). m ≤ greatest_number) value is.1) in (
      digits_at (chars text),
      after_passing is_digit (chars text),
      k.0 ∙ ap (λ (b : Bool). (if b then Cut (token.Number (digits_value (digits_at (chars text)))) (digits_at (chars text)) (after_passing is_digit (chars text)) else TooBig)) fits
          ∙ ap (λ m. Cut (token.Number m) (digits_at (chars text)) (after_passing is_digit (chars text))) (sym value),
      k.1,
    )
  where
    small : (m : ℕ) → m ≤ greatest_number → nat_le m greatest_number ≡ true
    small m h = grind (arith, nat_tests)

pub big_front : (e : Edition) (text : List ℕ) (len : ℕ) → IsUtf8 text → len ≤ length text → 0 < len → first_is is_start (chars text) ≡ false → take len text ≡ digits_at text →
    IsNumber (take len text) None → front e (chars text) ≡ TooBig
big_front e text len u le some start taken is =
    let k = number_at e text len u le some start taken in
    let fits : nat_le (digits_value (digits_at (chars text))) greatest_number ≡ false = big (digits_value (digits_at (chars text))) (subst (λ l. greatest_number < digits_value l) k.2 is) in
    k.0 ∙ ap (λ (b : Bool). (if b then Cut (token.Number (digits_value (digits_at (chars text)))) (digits_at (chars text)) (after_passing is_digit (chars text)) else TooBig)) fits
  where
    big : (m : ℕ) → greatest_number < m → nat_le m greatest_number ≡ false
    big m h = grind (arith, nat_tests)

-- where neither a name nor a digit stands, there is a mark or nothing
marked_at : (e : Edition) (text : List ℕ) (len : ℕ) → IsUtf8 text → 0 < length text → len ≤ length text → len ≡ 0 → first_is is_start (chars text) ≡ false → take len text ≡ digits_at text →
    front e (chars text) ≡ front_marked (mark_at text) (chars text)
unfolding front
marked_at e text len u some le none start taken =
    let b = digits_bytes text u in
    let s = starts text u some in
    let first : is_start s.0 ≡ false = ap (first_is is_start) (sym s.2) ∙ start in
    let digit : is_digit s.0 ≡ false = digits_none s.0 s.1 (ap (λ l. length (digits_at l)) (sym s.2) ∙ sym (ap length (taken ∙ b.0)) ∙ length-take-le len text le ∙ none) in
    ap (front e) s.2
    ∙ ap (λ (b : Bool). if b then front_named e (s.0 ∷ s.1) else if is_digit s.0 then front_number (s.0 ∷ s.1) else front_marked (mark_at (s.0 ∷ s.1)) (s.0 ∷ s.1)) first
    ∙ ap (λ (b : Bool). if b then front_number (s.0 ∷ s.1) else front_marked (mark_at (s.0 ∷ s.1)) (s.0 ∷ s.1)) digit
    ∙ ap (λ l. front_marked (mark_at l) l) (sym s.2)
    ∙ ap (λ o. front_marked o (chars text)) (sym (mark_bytes (chars text)) ∙ ap mark_at (encodes-chars text u))

pub mark_front : (e : Edition) (text : List ℕ) (len : ℕ) (m : Mark) → IsUtf8 text → 0 < length text → len ≤ length text → len ≡ 0 → first_is is_start (chars text) ≡ false → take len text ≡ digits_at text →
    mark_at text ≡ Some m → (spelling more : List ℕ) × (front e (chars text) ≡ Cut (token.Mark m) spelling more) × (length (marks.spelling m) ≡ bytes_of spelling)
mark_front e text len m u some le none start taken is = (
  marks.spelling m,
  drop (length (marks.spelling m)) (chars text),
  marked_at e text len u some le none start taken ∙ ap (λ o. front_marked o (chars text)) is,
  ap length (sym (mark_spelled m).bytes),
)

pub bad_front : (e : Edition) (text : List ℕ) (len : ℕ) → IsUtf8 text → 0 < length text → len ≤ length text → len ≡ 0 → first_is is_start (chars text) ≡ false → take len text ≡ digits_at text →
    mark_at text ≡ None → front e (chars text) ≡ Bad
bad_front e text len u some le none start taken is = marked_at e text len u some le none start taken ∙ ap (λ o. front_marked o (chars text)) is
