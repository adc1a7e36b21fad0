-- What the reader of tokens needs of words and numbers.
use Rattle.std.proofs.Common.{◌≡◌, ℕ, ◌+◌, ◌-◌, ◌*◌, ◌<◌, ◌≤◌, Bool, true, false, cond, ◌==◌, List, [], ◌∷◌, length, drop, Some, None, find, filter, get_or, refl, sym, ap, ◌∙◌, subst, arith}
use Rattle.std.specs.List.{slice_get}
use Rattle.std.specs.Str.{bytes_eq}
use Rattle.std.proofs.lemmas.List.{drop_more}
use Rattle.std.proofs.lemmas.Option.{same_Some}
use Rattle.rsml_syntax.specs.declared.token.TheConstants.{WORDS}
use Rattle.rsml_syntax.specs.text.Characters.{digits_value, digits_value_from}
use Rattle.rsml_syntax.specs.text.Tokens.{first_is, greatest_number}
use Rattle.rsml_syntax.specs.text.Words.{spelling, word_of}
use Rattle.rsml_lexer.specs.Bytes.{words_from}

-- Words.

-- what fails one test passes no narrower one
find_filter : {A : Type 0} (p q : A → Bool) (xs : List A) → ((x : A) → q x ≡ false → p x ≡ false) → find p (filter q xs) ≡ find p xs
find_filter p q [] h = refl
find_filter p q (x ∷ xs) h =
    elim (q x) as (λ b. q x ≡ b → find p (cond b (x ∷ filter q xs) (filter q xs)) ≡ cond (p x) (Some x) (find p xs)) [
      | true ↦ λ e. ap (λ o. cond (p x) (Some x) o) (find_filter p q xs h)
      | false ↦ λ e. find_filter p q xs h ∙ ap (λ b. cond b (Some x) (find p xs)) (sym (h x e))
    ] refl

pub word_by_first : (name : List ℕ) (first : ℕ) → Some first ≡ slice_get name 0 → find (λ w. bytes_eq name (spelling w)) (words_from first) ≡ word_of name
unfolding words_from word_of
word_by_first [] first h = absurd (cc)
word_by_first (b ∷ bs) first h =
    subst (λ (f : ℕ). find (λ w. bytes_eq (b ∷ bs) (spelling w)) (filter (λ w. first_is (λ c. f == c) (spelling w)) WORDS) ≡ find (λ w. bytes_eq (b ∷ bs) (spelling w)) WORDS) (sym (same_Some first b h))
    (find_filter (λ w. bytes_eq (b ∷ bs) (spelling w)) (λ w. first_is (λ c. b == c) (spelling w)) WORDS (λ w e. differs (spelling w) e))
  where
    differs : (s : List ℕ) → first_is (λ c. b == c) s ≡ false → bytes_eq (b ∷ bs) s ≡ false
    differs [] e = refl
    differs (c ∷ s) e = rw e refl

pub no_first_word : (name : List ℕ) → None ≡ slice_get name 0 → None ≡ word_of name
unfolding word_of spelling
no_first_word [] h = refl
no_first_word (b ∷ bs) h = absurd (cc)

-- Numbers.

value_grows : (n : ℕ) (ds : List ℕ) → n ≤ digits_value_from n ds
value_grows n [] = omega arith
value_grows n (d ∷ ds) = let r = value_grows (n * 10 + (d - 48)) ds in omega (arith, r)

-- a number that is too big stays so
pub big_later : (digits : List ℕ) (i n : ℕ) → i < length digits → digits_value digits ≡ digits_value_from n (drop i digits) →
    greatest_number < n * 10 + (get_or digits i 0 - 48) → greatest_number < digits_value digits
big_later digits i n l value big =
    let more : digits_value digits ≡ digits_value_from (n * 10 + (get_or digits i 0 - 48)) (drop (i + 1) digits) = value ∙ ap (digits_value_from n) (drop_more digits i 0 l) in
    let grows = value_grows (n * 10 + (get_or digits i 0 - 48)) (drop (i + 1) digits) in
    omega (arith, more, grows, big)
