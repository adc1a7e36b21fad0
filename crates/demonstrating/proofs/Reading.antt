-- The text of a plant is the layout of its tokens, and reads as it.
use Rattle.std.proofs.Common.{◌≡◌, ℕ, ◌<◌, ◌≤◌, Bool, true, false, not, ◌&&◌, List, [], ◌∷◌, length, refl, sym, arith}
use Rattle.std.specs.Char.{is_ascii_alphabetic}
use Rattle.std.specs.Cmp.{first_so, second_so}
use Rattle.std.specs.Fmt.{digits}
use Rattle.std.specs.List.{list_all}
use Rattle.std.specs.Prelude.{nat_le, nat_lt}
use Rattle.std.specs.Str.{all_scalars, IsAscii}
use Rattle.std.proofs.lemmas.Bool.Decides.{nat_tests}
use Rattle.std.proofs.lemmas.List.Sums.{AllPass-from_list_all}
use Rattle.std.proofs.lemmas.Str.{encodes-IsAscii}
use Rattle.std.proofs.lemmas.Str.Ascii.{IsAscii-from_all}
use lib.Utf8.{low_scalar}
use Rattle.rsml_syntax.specs.declared.edition.Edition.TheVariants as editions
use Rattle.rsml_syntax.specs.declared.token.Token.{Token}
use Rattle.rsml_syntax.specs.declared.token.Token.TheVariants as token
use Rattle.rsml_syntax.specs.grammar.Grammar.{tokens_of}
use Rattle.rsml_syntax.specs.grammar.Layout.{layout}
use Rattle.rsml_syntax.specs.grammar.Places.{Reads}
use Rattle.rsml_syntax.specs.grammar.WellFormed.{WellFormed}
use Rattle.rsml_syntax.specs.rules.Globals.{up_to}
use Rattle.rsml_syntax.specs.text.Names.{Name}
use Rattle.rsml_syntax.specs.text.Tokens.{Tokens, AreTokens, IsToken, IsFreeName, is_reserved, is_word, greatest_number}
use Rattle.rsml_syntax.specs.text.Words.{spelling}
use Rattle.rsml_syntax.specs.text.Marks as mark
use Rattle.rsml_syntax.proofs.PrintLemmas.{layout_reads}
use Rattle.rsml_syntax.proofs.WordLemmas.{letters_name}
use Rattle.rsml_meaning.proofs.Lists.{list_all_one}
use Rattle.demonstrating.specs.Plant.{plant}
use Rattle.demonstrating.specs.Text.{text}
use Rattle.demonstrating.proofs.Lists.{up_to_has}

-- Tokens whose names are of letters.

is_letters : Name → Bool
is_letters name = nat_lt 0 (length name) && (list_all is_ascii_alphabetic name && not (is_word editions.Second name))

is_plain : Token → Bool
is_plain (token.Word w) = is_reserved editions.Second w
is_plain (token.Name name) = is_letters name
is_plain (token.Number n) = nat_le n greatest_number
is_plain (token.Mark m) = true

letter_low : (c : ℕ) → is_ascii_alphabetic c ≡ true → c < 128
letter_low c h = grind (arith, nat_tests)

letters_scalars : (cs : List ℕ) → list_all is_ascii_alphabetic cs ≡ true → all_scalars cs ≡ true
letters_scalars [] h = refl
letters_scalars (c ∷ cs) h =
    let low = letter_low c (first_so (is_ascii_alphabetic c) (list_all is_ascii_alphabetic cs) h) in
    rw (low_scalar c (omega arith)) (letters_scalars cs (second_so (is_ascii_alphabetic c) (list_all is_ascii_alphabetic cs) h))

letters_ascii : (cs : List ℕ) → list_all is_ascii_alphabetic cs ≡ true → IsAscii cs
letters_ascii cs h = IsAscii-from_all cs (λ k d within. letter_low _ (AllPass-from_list_all is_ascii_alphabetic cs h k d within))

false_is : (b : Bool) → not b ≡ true → b ≡ false
false_is true h = sym h
false_is false h = refl

letters_free : (name : Name) → is_letters name ≡ true → IsFreeName editions.Second name
unfolding is_letters
letters_free name h =
    let some = first_so (nat_lt 0 (length name)) (list_all is_ascii_alphabetic name && not (is_word editions.Second name)) h in
    let others = second_so (nat_lt 0 (length name)) (list_all is_ascii_alphabetic name && not (is_word editions.Second name)) h in
    let letters = first_so (list_all is_ascii_alphabetic name) (not (is_word editions.Second name)) others in
    let free = second_so (list_all is_ascii_alphabetic name) (not (is_word editions.Second name)) others in (
      name,
      letters_scalars name letters,
      sym (encodes-IsAscii name (letters_ascii name letters)),
      letters_name name letters some,
      false_is (is_word editions.Second name) free,
    )

number_small : (n : ℕ) → nat_le n greatest_number ≡ true → n ≤ greatest_number
number_small n h = grind (arith, nat_tests)

plain_token : (t : Token) → is_plain t ≡ true → IsToken editions.Second t
unfolding is_plain
plain_token (token.Word w) h = h
plain_token (token.Name name) h = letters_free name h
plain_token (token.Number n) h = number_small n h
plain_token (token.Mark m) h = refl

plain_tokens : (ts : Tokens) → list_all is_plain ts ≡ true → AreTokens editions.Second ts
plain_tokens [] h = refl
plain_tokens (t ∷ ts) h =
    (plain_token t (first_so (is_plain t) (list_all is_plain ts) h), plain_tokens ts (second_so (is_plain t) (list_all is_plain ts) h))

-- The tokens of a plant, and their layout.

number_test : (n : ℕ) → n ≤ greatest_number → nat_le n greatest_number ≡ true
number_test n h = grind (arith, nat_tests)

plant_plain : (n : ℕ) → n ≤ greatest_number → list_all is_plain (tokens_of (plant n)) ≡ true
unfolding is_plain is_letters spelling
plant_plain n h = rw (number_test n h) refl

plant_formed : (n : ℕ) → n ≤ greatest_number → WellFormed (plant n)
plant_formed n h = record { tokens = plain_tokens (tokens_of (plant n)) (plant_plain n h); items = refl }

text_is_layout : (n : ℕ) → text n ≡ layout (tokens_of (plant n))
unfolding spelling mark.spelling digits
text_is_layout n = refl

pub text_reads : (n : ℕ) → n ≤ greatest_number → Reads (text n) (plant n)
text_reads n h =
    let formed = plant_formed n h in
    let r = layout_reads (plant n) (text n) formed (text_is_layout n) in
    (r.0, r.1, record { well_formed = formed; depth = omega arith; tokens = sym r.2 })

-- how long it is, computed for each number of units

is_short : ℕ → Bool
is_short n = nat_le (length (text n)) 1048576

all_short : list_all is_short (up_to 64) ≡ true
unfolding is_short digits
all_short = refl

short_is : (n : ℕ) → is_short n ≡ true → length (text n) ≤ 1048576
unfolding is_short
short_is n h = test (length (text n)) h
  where
    test : (l : ℕ) → nat_le l 1048576 ≡ true → l ≤ 1048576
    test l h = grind (arith, nat_tests)

pub text_short : (n : ℕ) → 1 ≤ n → n ≤ 64 → length (text n) ≤ 1048576
text_short n h k = short_is n (list_all_one is_short (up_to 64) n all_short (up_to_has 64 n h k))
