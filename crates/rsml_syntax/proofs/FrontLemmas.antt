-- What stands at the front of characters is a token, by its definition, or else none.
use Rattle.std.proofs.Common.{◌≡◌, ℕ, ◌<◌, ◌≤◌, Bool, true, false, not, ◌||◌, List, [], ◌∷◌, ◌++◌, length, Option, Some, None, nat_le, refl, sym, ap, ◌∙◌, subst, arith}
use Rattle.std.specs.Prelude.{if◌then◌else◌}
use Rattle.std.specs.List.{list_all}
use Rattle.std.specs.Str.{encode_utf8_all}
use Rattle.std.proofs.lemmas.Bool.Decides.{nat_tests}
use Rattle.std.proofs.lemmas.List.{drop_at}
use Rattle.rsml_syntax.specs.declared.edition.Edition.{Edition}
use Rattle.rsml_syntax.specs.declared.token.Mark.{Mark}
use Rattle.rsml_syntax.specs.declared.token.Word.{Word}
use Rattle.rsml_syntax.specs.declared.token.Token.{Token}
use Rattle.rsml_syntax.specs.declared.token.Token.TheVariants as token
use Rattle.rsml_syntax.specs.text.Characters.{is_start, is_continuing, is_digit, is_name, are_digits, digits_at, digits_value, begins_blanks}
use Rattle.rsml_syntax.specs.text.Marks as marks
use Rattle.rsml_syntax.specs.text.Marks.{mark_at}
use Rattle.rsml_syntax.specs.text.Characters.{passing}
use Rattle.rsml_syntax.specs.helpers.Scanning.{after_passing, named, word_or_name, Front, Nothing, Cut, TooBig, Bad, front, front_named, front_number, front_marked}
use Rattle.rsml_syntax.specs.text.Tokens.{Spells, ends, begins_longer, begins_token, first_is, greatest_number, is_reserved}
use Rattle.rsml_syntax.specs.text.Words as words
use Rattle.rsml_syntax.specs.text.Words.{word_of}
use Rattle.rsml_syntax.proofs.CharacterLemmas.{both, neither, start_continues, start_excludes, digit_excludes, split_whole, split_passes, split_ends, split_again}
use Rattle.rsml_syntax.proofs.WordLemmas.{word_spelled, word_is_name, named_word, named_name, named_spelled, mark_spelled, mark_found, mark_longest, mark_again, mark_none, none_mark}

not_true : (b : Bool) → not b ≡ true → b ≡ false
not_true true h = absurd (cc)
not_true false h = refl

not_false : (b : Bool) → b ≡ false → not b ≡ true
not_false b h = ap not h

-- From what the definitions say to the function.

-- a token, and what follows it
pub record IsCut (e : Edition) (t : Token) (s more : List ℕ) : Type 0 where
  pub cut : front e (s ++ more) ≡ Cut t s more
  pub no_blank : begins_blanks (s ++ more) ≡ false
  pub some : 0 < length s

name_cut : (e : Edition) (t : Token) (s more : List ℕ) → is_name s ≡ true → named e (encode_utf8_all s) ≡ t → first_is is_continuing more ≡ false → IsCut e t s more
unfolding front
name_cut e t [] more is n stop = absurd (cc)
name_cut e t (c ∷ s) more is n stop =
    let h = both (is_start c) (list_all is_continuing s) is in
    let r = split_again is_continuing (c ∷ s) more (rw (start_continues c h.0) h.1) stop in
    record {
      cut = ap (λ (b : Bool). if b then front_named e (c ∷ (s ++ more)) else if is_digit c then front_number (c ∷ (s ++ more)) else front_marked (mark_at (c ∷ (s ++ more))) (c ∷ (s ++ more))) h.0
          ∙ ap (λ l. Cut (named e (encode_utf8_all l)) l (after_passing is_continuing (c ∷ (s ++ more)))) r.0
          ∙ ap (λ l. Cut (named e (encode_utf8_all (c ∷ s))) (c ∷ s) l) r.1
          ∙ ap (λ u. Cut u (c ∷ s) more) n;
      no_blank = (start_excludes c h.0).0;
      some = omega arith;
    }

number_cut : (e : Edition) (n : ℕ) (s more : List ℕ) → are_digits s ≡ true → digits_value s ≡ n → n ≤ greatest_number → first_is is_digit more ≡ false → IsCut e (token.Number n) s more
unfolding front
number_cut e n [] more is v small stop = absurd (cc)
number_cut e n (c ∷ s) more is v small stop =
    let h = both (is_digit c) (list_all is_digit s) is in
    let r = split_again is_digit (c ∷ s) more is stop in
    let d : digits_at (c ∷ (s ++ more)) ≡ c ∷ s = r.0 in
    let fits : nat_le (digits_value (c ∷ s)) greatest_number ≡ true = grind (arith, nat_tests) in
    record {
      cut = ap (λ (b : Bool). if b then front_named e (c ∷ (s ++ more)) else if is_digit c then front_number (c ∷ (s ++ more)) else front_marked (mark_at (c ∷ (s ++ more))) (c ∷ (s ++ more))) (digit_excludes c h.0).1
          ∙ ap (λ (b : Bool). if b then front_number (c ∷ (s ++ more)) else front_marked (mark_at (c ∷ (s ++ more))) (c ∷ (s ++ more))) h.0
          ∙ ap (λ l. (if nat_le (digits_value l) greatest_number then Cut (token.Number (digits_value l)) l (after_passing is_digit (c ∷ (s ++ more))) else TooBig)) d
          ∙ ap (λ (b : Bool). (if b then Cut (token.Number (digits_value (c ∷ s))) (c ∷ s) (after_passing is_digit (c ∷ (s ++ more))) else TooBig)) fits
          ∙ ap (λ l. Cut (token.Number (digits_value (c ∷ s))) (c ∷ s) l) r.1
          ∙ ap (λ k. Cut (token.Number k) (c ∷ s) more) v;
      no_blank = (digit_excludes c h.0).0;
      some = omega arith;
    }

-- where neither a name nor a number begins, a mark is looked for
at_mark : (e : Edition) (c : ℕ) (cs : List ℕ) → is_start c ≡ false → is_digit c ≡ false → front e (c ∷ cs) ≡ front_marked (mark_at (c ∷ cs)) (c ∷ cs)
unfolding front
at_mark e c cs a b =
    ap (λ (x : Bool). if x then front_named e (c ∷ cs) else if is_digit c then front_number (c ∷ cs) else front_marked (mark_at (c ∷ cs)) (c ∷ cs)) a
    ∙ ap (λ (x : Bool). if x then front_number (c ∷ cs) else front_marked (mark_at (c ∷ cs)) (c ∷ cs)) b

mark_cut : (e : Edition) (m : Mark) (more : List ℕ) → begins_longer m (marks.spelling m ++ more) ≡ false → IsCut e (token.Mark m) (marks.spelling m) more
mark_cut e m more h =
    let s = mark_spelled m in
    let whole : marks.spelling m ++ more ≡ s.head ∷ (s.tail ++ more) = ap (λ l. l ++ more) s.parts in
    record {
      cut = ap (front e) whole ∙ at_mark e s.head (s.tail ++ more) s.no_name s.no_digit ∙ ap (λ l. front_marked (mark_at l) l) (sym whole)
          ∙ ap (λ o. front_marked o (marks.spelling m ++ more)) (mark_again m more h)
          ∙ ap (λ l. Cut (token.Mark m) (marks.spelling m) l) (drop_at (marks.spelling m) more (length (marks.spelling m)) refl);
      no_blank = ap begins_blanks whole ∙ s.no_blank;
      some = omega (arith, ap length s.parts);
    }

-- a spelled token that ends is what stands at the front
pub token_cut : (e : Edition) (t : Token) (s more : List ℕ) → Spells e t s → ends t more ≡ true → IsCut e t s more
token_cut e (token.Word w) s more h stop =
    subst (λ (l : List ℕ). IsCut e (token.Word w) l more) (sym h.0)
    (name_cut e (token.Word w) (words.spelling w) more (word_is_name w) (ap (named e) (word_spelled w).bytes ∙ named_word e w h.1) (not_true (first_is is_continuing more) stop))
token_cut e (token.Name name) s more h stop =
    name_cut e (token.Name name) s more h.1 (ap (named e) (sym h.0) ∙ named_name e name h.2) (not_true (first_is is_continuing more) stop)
token_cut e (token.Number n) s more h stop = number_cut e n s more h.0 h.1 h.2 (not_true (first_is is_digit more) stop)
token_cut e (token.Mark m) s more h stop =
    subst (λ (l : List ℕ). IsCut e (token.Mark m) l more) (sym h) (mark_cut e m more (not_true (begins_longer m (marks.spelling m ++ more)) stop))

pub bad_front : (e : Edition) (next : List ℕ) → (next ≡ [] → ⊥) → begins_token next ≡ false → front e next ≡ Bad
bad_front e [] some h = absurd (some refl)
bad_front e (c ∷ cs) some h =
    let k = neither (is_start c || is_digit c) _ h in
    let l = neither (is_start c) (is_digit c) k.0 in
    at_mark e c cs l.0 l.1 ∙ ap (λ o. front_marked o (c ∷ cs)) (mark_none (c ∷ cs) k.1)

pub big_front : (e : Edition) (next : List ℕ) → first_is is_digit next ≡ true → greatest_number < digits_value (digits_at next) → (front e next ≡ TooBig) × (begins_blanks next ≡ false)
unfolding front
big_front e [] is big = absurd (cc)
big_front e (c ∷ cs) is big =
    let fits : nat_le (digits_value (digits_at (c ∷ cs))) greatest_number ≡ false = too_big (digits_value (digits_at (c ∷ cs))) big in (
      ap (λ (b : Bool). if b then front_named e (c ∷ cs) else if is_digit c then front_number (c ∷ cs) else front_marked (mark_at (c ∷ cs)) (c ∷ cs)) (digit_excludes c is).1
          ∙ ap (λ (b : Bool). if b then front_number (c ∷ cs) else front_marked (mark_at (c ∷ cs)) (c ∷ cs)) is
          ∙ ap (λ (b : Bool). (if b then Cut (token.Number (digits_value (digits_at (c ∷ cs)))) (digits_at (c ∷ cs)) (after_passing is_digit (c ∷ cs)) else TooBig)) fits,
      (digit_excludes c is).0,
    )
  where
    too_big : (n : ℕ) → greatest_number < n → nat_le n greatest_number ≡ false
    too_big n h = grind (arith, nat_tests)

-- From the function to what the definitions say.

-- what the function says of characters
abbrev pub Means : Edition → List ℕ → Front → Type 0
Means e cs Nothing = cs ≡ []
Means e cs (Cut t s more) = (cs ≡ s ++ more) × Spells e t s × (ends t more ≡ true)
Means e cs TooBig = (first_is is_digit cs ≡ true) × (greatest_number < digits_value (digits_at cs))
Means e cs Bad = (cs ≡ [] → ⊥) × (begins_token cs ≡ false)

-- what is named is a word or a name
named_ends : (e : Edition) (n more : List ℕ) → first_is is_continuing more ≡ false → ends (named e n) more ≡ true
unfolding named
named_ends e n more stop = step (word_of n)
  where
    test : (b : Bool) (w : Word) → ends (if b then token.Word w else token.Name n) more ≡ true
    test true w = not_false (first_is is_continuing more) stop
    test false w = not_false (first_is is_continuing more) stop

    step : (o : Option Word) → ends (word_or_name e o n) more ≡ true
    step None = not_false (first_is is_continuing more) stop
    step (Some w) = test (is_reserved e w) w

passing_name : (c : ℕ) (cs : List ℕ) → is_start c ≡ true → is_name (passing is_continuing (c ∷ cs)) ≡ true
passing_name c cs h = rw (start_continues c h) (rw h (split_passes is_continuing cs))

digits_are : (c : ℕ) (cs : List ℕ) → is_digit c ≡ true → are_digits (digits_at (c ∷ cs)) ≡ true
digits_are c cs h = rw h (rw h (split_passes is_digit cs))

pub front_means : (e : Edition) (cs : List ℕ) → Means e cs (front e cs)
unfolding front
front_means e [] = refl
front_means e (c ∷ cs) = step (is_start c) refl
  where
    marked : (o : Option Mark) → o ≡ mark_at (c ∷ cs) → is_start c ≡ false → is_digit c ≡ false → Means e (c ∷ cs) (front_marked o (c ∷ cs))
    marked (Some m) same a b =
        let whole = mark_found (c ∷ cs) m (sym same) in
        (whole, refl, not_false _ (ap (begins_longer m) (sym whole) ∙ mark_longest (c ∷ cs) m (sym same)))
    marked None same a b = ((λ h. cc), rw (a, b) (none_mark (c ∷ cs) (sym same)))

    counted : (b : Bool) → b ≡ nat_le (digits_value (digits_at (c ∷ cs))) greatest_number → is_digit c ≡ true →
        Means e (c ∷ cs) (if b then Cut (token.Number (digits_value (digits_at (c ∷ cs)))) (digits_at (c ∷ cs)) (after_passing is_digit (c ∷ cs)) else TooBig)
    counted true same is =
        let fits : digits_value (digits_at (c ∷ cs)) ≤ greatest_number = grind (arith, nat_tests) in (
          split_whole is_digit (c ∷ cs),
          (digits_are c cs is, refl, fits),
          not_false _ (split_ends is_digit (c ∷ cs)),
        )
    counted false same is = (is, grind (arith, nat_tests))

    digit : (b : Bool) → b ≡ is_digit c → is_start c ≡ false → Means e (c ∷ cs) (if b then front_number (c ∷ cs) else front_marked (mark_at (c ∷ cs)) (c ∷ cs))
    digit true same a = counted _ refl (sym same)
    digit false same a = marked (mark_at (c ∷ cs)) refl a (sym same)

    step : (b : Bool) → b ≡ is_start c → Means e (c ∷ cs) (if b then front_named e (c ∷ cs) else if is_digit c then front_number (c ∷ cs) else front_marked (mark_at (c ∷ cs)) (c ∷ cs))
    step true same = (
      split_whole is_continuing (c ∷ cs),
      named_spelled e (passing is_continuing (c ∷ cs)) (passing_name c cs (sym same)),
      named_ends e (encode_utf8_all (passing is_continuing (c ∷ cs))) (after_passing is_continuing (c ∷ cs)) (split_ends is_continuing (c ∷ cs)),
    )
    step false same = digit (is_digit c) refl (sym same)
