-- The words of a text, one after another.
use Rattle.std.proofs.Common.{◌≡◌, ℕ, suc, ◌+◌, ◌-◌, ◌<◌, ◌≤◌, Bool, true, false, cond, List, [], ◌∷◌, Option, Some, None, length, get_or, take, drop, refl, sym, ap, ◌∙◌, arith, length-drop, true≢false}
use Rattle.std.specs.Prelude.{filter, not, position, nat_le, nat_lt, if◌then◌else◌, ◌==◌, ◌||◌, ◌≢◌, is_some}
use Rattle.std.specs.List.{position_or_len}
use Rattle.std.specs.Str.{byte}
use Rattle.std.proofs.lemmas.Bool.{eqb-true, leb-false, ltb-true, ltb-false}
use Rattle.std.proofs.lemmas.List.{drop_all, length-take-le}
use Rattle.std.proofs.lemmas.List.Sums.{prefix_len-le-length, position_or_len_is, fails_before_first}
use Rattle.std.proofs.lemmas.Option.{cond_some}
use Rattle.memchr.specs.Find.{IsFirstByte}
use Rattle.rsml_meaning.specs.EventLines.{Bytes, is_blank, is_empty, before_pieces, pieces, words, index_part}

-- how many blanks stand first, and how many bytes before the first blank
abbrev before_other : Bytes → ℕ
before_other t = position_or_len (λ c. not (is_blank c)) t

abbrev before_blank : Bytes → ℕ
before_blank t = position_or_len is_blank t

-- the pieces that are not empty
abbrev some_of : List Bytes → List Bytes
some_of xs = filter (λ piece. not (is_empty piece)) xs

within : (p : ℕ → Bool) (t : Bytes) → position_or_len p t ≤ length t
within p t = prefix_len-le-length (λ c. not (p c)) t

not_true : (b : Bool) → (b ≡ true → ⊥) → b ≡ false
not_true true h = absurd (h refl)
not_true false h = refl

-- the first byte that passes

pub found_first : (p : ℕ → Bool) (t : Bytes) (k : ℕ) → IsFirstByte p t (Some k) → k ≡ position_or_len p t
found_first p t k first =
    let below : k < length t = first.0.high in
    sym (position_or_len_is p t k 0 (omega (arith, below)) (λ j before. not_true (p (get_or t j 0)) (first.0.before j (omega arith) before)) (λ _. first.1))

pub none_first : (p : ℕ → Bool) (t : Bytes) → IsFirstByte p t None → length t ≡ position_or_len p t
none_first p t none =
    sym (position_or_len_is p t (length t) 0 (omega arith) (λ j before. not_true (p (get_or t j 0)) (none j (omega arith) before)) (λ l. absurd (omega (arith, l))))

-- where a byte passes first, and that none does

pub place_is : (p : ℕ → Bool) (t : Bytes) (k : ℕ) → Some k ≡ position p t → (k ≡ position_or_len p t) × (k < length t)
place_is p t k h =
    let x = cond_some (nat_lt (position_or_len p t) (length t)) (position_or_len p t) k (sym h) in
    let same : position_or_len p t ≡ k = x.1 in
    let below : position_or_len p t < length t = ltb-true (position_or_len p t) (length t) x.0 in
    (sym same, omega (arith, same, below))

pub none_is : (p : ℕ → Bool) (t : Bytes) → None ≡ position p t → length t ≡ position_or_len p t
none_is p t h = by (nat_lt (position_or_len p t) (length t)) refl h
  where
    by : (b : Bool) → nat_lt (position_or_len p t) (length t) ≡ b → None ≡ cond b (Some (position_or_len p t)) None → length t ≡ position_or_len p t
    by true e h = cc
    by false e h =
        let past : length t ≤ position_or_len p t = ltb-false (position_or_len p t) (length t) e in
        omega (arith, past, within p t)

-- A byte that is not above a space. Each blank is one.

abbrev is_low : ℕ → Bool
is_low c = nat_le c (byte " ")

high_is_none : (c : ℕ) → is_low c ≡ false → is_blank c ≡ false
high_is_none c h = not_true (is_blank c) (λ b. by (c == byte " ") refl b)
  where
    above : byte " " < c
    above = leb-false c (byte " ") h

    by : (s : Bool) → (c == byte " ") ≡ s → (s || c == byte "\t") ≡ true → ⊥
    by true e b = let same : c ≡ byte " " = eqb-true c (byte " ") e in omega (arith, same, above)
    by false e b = let same : c ≡ byte "\t" = eqb-true c (byte "\t") b in omega (arith, same, above)

-- no blank stands before the first such byte
high_before : (t : Bytes) (k : ℕ) → k ≡ position_or_len is_low t → (j : ℕ) → j < k → is_blank (get_or t j 0) ≡ false
high_before t k e j before = high_is_none (get_or t j 0) (fails_before_first is_low t j 0 (omega (arith, e, before)))

pub low_blank : (t : Bytes) (k : ℕ) → Some k ≡ position is_low t → is_blank (get_or t k 0) ≡ true → k ≡ before_blank t
low_blank t k h blank =
    let at = place_is is_low t k h in
    let below : k < length t = at.1 in
    sym (position_or_len_is is_blank t k 0 (omega (arith, below)) (high_before t k at.0) (λ _. blank))

pub none_low : (t : Bytes) → None ≡ position is_low t → length t ≡ before_blank t
none_low t h =
    sym (position_or_len_is is_blank t (length t) 0 (omega arith) (high_before t (length t) (none_is is_low t h)) (λ l. absurd (omega (arith, l))))

one_more : (n : ℕ) → 1 + n ≡ suc n
one_more n = omega arith

-- blanks before a text add no word
skipped : (t : Bytes) → words (drop (before_other t) t) ≡ words t
skipped [] = refl
skipped (c ∷ cs) = by (is_blank c) refl (skipped cs)
  where
    by : (b : Bool) → is_blank c ≡ b → words (drop (before_other cs) cs) ≡ words cs → words (drop (cond (not (not b)) (1 + before_other cs) 0) (c ∷ cs)) ≡ words (c ∷ cs)
    by true e h =
        ap (λ n. words (drop n (c ∷ cs))) (one_more (before_other cs)) ∙ h
        ∙ sym (ap (λ b. some_of (if b then [] ∷ pieces is_blank cs else before_pieces c (pieces is_blank cs))) e)
    by false e h = refl

-- What the pieces of a text are: the bytes before its first blank, and others, of which those that are not empty are the words behind.
record Front (t : Bytes) : Type 0 where
  others : List Bytes
  are : pieces is_blank t ≡ take (before_blank t) t ∷ others
  behind : some_of others ≡ words (drop (before_blank t) t)

front : (t : Bytes) → Front t
front [] = record { others = []; are = refl; behind = refl }
front (c ∷ cs) = by (is_blank c) refl (front cs)
  where
    by : (b : Bool) → is_blank c ≡ b → Front cs → Front (c ∷ cs)
    by true e f = record {
      others = pieces is_blank cs;
      are = ap (λ b. if b then [] ∷ pieces is_blank cs else before_pieces c (pieces is_blank cs)) e
          ∙ sym (ap (λ b. take (cond (not b) (1 + before_blank cs) 0) (c ∷ cs) ∷ pieces is_blank cs) e);
      behind = sym (ap (λ b. words (drop (cond (not b) (1 + before_blank cs) 0) (c ∷ cs))) e
          ∙ ap (λ b. some_of (if b then [] ∷ pieces is_blank cs else before_pieces c (pieces is_blank cs))) e);
    }
    by false e f =
        let n : before_blank (c ∷ cs) ≡ suc (before_blank cs) = ap (λ b. cond (not b) (1 + before_blank cs) 0) e ∙ one_more (before_blank cs) in record {
          others = f.others;
          are = ap (λ b. if b then [] ∷ pieces is_blank cs else before_pieces c (pieces is_blank cs)) e
              ∙ ap (before_pieces c) f.are ∙ sym (ap (λ k. take k (c ∷ cs) ∷ f.others) n);
          behind = f.behind ∙ sym (ap (λ k. words (drop k (c ∷ cs))) n);
        }

-- the first byte of what begins with no blank is in its first word
some_taken : (t : Bytes) → (some : is_empty t ≡ false) → before_other t ≡ 0 → is_empty (take (before_blank t) t) ≡ false
some_taken [] some h = some
some_taken (c ∷ cs) some h = by (is_blank c) refl
  where
    by : (b : Bool) → is_blank c ≡ b → is_empty (take (before_blank (c ∷ cs)) (c ∷ cs)) ≡ false
    by true e = absurd (let no : 1 + before_other cs ≡ 0 = sym (ap (λ b. cond (not (not b)) (1 + before_other cs) 0) e) ∙ h in omega (arith, no))
    by false e = ap (λ b. is_empty (take (cond (not b) (1 + before_blank cs) 0) (c ∷ cs))) e ∙ ap (λ k. is_empty (take k (c ∷ cs))) (one_more (before_blank cs))

-- no blank stands where the blanks before end
at_other : (t : Bytes) → before_other (drop (before_other t) t) ≡ 0
at_other [] = refl
at_other (c ∷ cs) = by (is_blank c) refl (at_other cs)
  where
    by : (b : Bool) → is_blank c ≡ b → before_other (drop (before_other cs) cs) ≡ 0 → before_other (drop (cond (not (not b)) (1 + before_other cs) 0) (c ∷ cs)) ≡ 0
    by true e h = ap (λ n. before_other (drop n (c ∷ cs))) (one_more (before_other cs)) ∙ h
    by false e h = ap (λ b. cond (not (not b)) (1 + before_other cs) 0) e

kept : (piece : Bytes) (others : List Bytes) → is_empty piece ≡ false → some_of (piece ∷ others) ≡ piece ∷ some_of others
kept piece others h = ap (λ b. cond (not b) (piece ∷ some_of others) (some_of others)) h

not_empty : (u : Bytes) → 0 < length u → is_empty u ≡ false
not_empty [] h = absurd (omega (arith, h))
not_empty (c ∷ cs) h = refl

-- where the first word begins
abbrev start : Bytes → Option ℕ
start t = position (λ c. not (is_blank c)) t

start_is : (t : Bytes) (k : ℕ) → Some k ≡ start t → (k ≡ before_other t) × (k < length t)
start_is t k h = place_is (λ c. not (is_blank c)) t k h

pub start_within : (t : Bytes) (k : ℕ) → Some k ≡ start t → k ≤ length t
start_within t k h = let below : k < length t = (start_is t k h).1 in omega (arith, below)

-- nothing but blanks has no word
pub no_word : (t : Bytes) → None ≡ start t → words t ≡ []
no_word t h = by (nat_lt (before_other t) (length t)) refl h
  where
    by : (b : Bool) → nat_lt (before_other t) (length t) ≡ b → None ≡ cond b (Some (before_other t)) None → words t ≡ []
    by true e h = cc
    by false e h =
        let past : length t ≤ before_other t = ltb-false (before_other t) (length t) e in
        sym (skipped t) ∙ ap words (drop_all (before_other t) t past)

-- behind the blanks the first word stands, up to the next blank
pub next_word : (t u : Bytes) (k w : ℕ) → Some k ≡ start t → u ≡ drop k t → w ≡ before_blank u → words t ≡ take w u ∷ words (drop w u)
next_word t u k w h e is =
    let p = start_is t k h in
    let below : k < length t = p.1 in
    let here : u ≡ drop (before_other t) t = e ∙ ap (λ n. drop n t) p.0 in
    let long : length u ≡ length t - k = ap length e ∙ length-drop k t in
    let some : is_empty u ≡ false = not_empty u (omega (arith, below, long)) in
    let f = front u in
    sym (skipped t) ∙ ap words (sym here) ∙ ap some_of f.are
    ∙ kept (take (before_blank u) u) f.others (some_taken u some (ap before_other here ∙ at_other t))
    ∙ ap (λ xs. take (before_blank u) u ∷ xs) f.behind
    ∙ ap (λ n. take n u ∷ words (drop n u)) (sym is)

-- whether there is a word, by where it begins

pub has_none : (t : Bytes) (o : Option ℕ) → o ≡ start t → is_some o ≡ false → words t ≡ []
has_none t None e h = no_word t e
has_none t (Some k) e h = absurd (true≢false h)

pub has_some : (t : Bytes) (o : Option ℕ) → o ≡ start t → is_some o ≡ true → words t ≢ []
has_some t None e h = λ _. absurd (true≢false (sym h))
has_some t (Some k) e h = λ none.
    let next = next_word t (drop k t) k (before_blank (drop k t)) e refl refl in
    let no : 0 ≡ suc (length (words (drop (before_blank (drop k t)) (drop k t)))) = ap length (sym none ∙ next) in
    absurd (omega (arith, no))

-- the rest of a word behind its name
pub index_part_is : (word : Bytes) (n : ℕ) → n ≡ position_or_len (λ c. c == byte "[") word → drop n word ≡ index_part word
index_part_is word n e =
    ap (λ k. drop k word) e
    ∙ sym (ap (λ k. drop k word) (length-take-le (position_or_len (λ c. c == byte "[") word) word (prefix_len-le-length (λ c. not (c == byte "[")) word)))
