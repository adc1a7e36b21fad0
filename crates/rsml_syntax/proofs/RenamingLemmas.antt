-- Renaming `previous`: the new name is a name of the second edition, and among the first numbers there is a free one.
use Rattle.std.proofs.Common.{rules, ◌≡◌, ℕ, zero, suc, ◌+◌, ◌<◌, ◌≤◌, ◌^◌, ◌%◌, Bool, true, false, not, cond, ◌||◌, ◌&&◌, ◌==◌, inl, inr, List, [], ◌∷◌, ◌++◌, length, drop, take, get_or, map, filter, Option, Some, None, is_some, Bor, refl, sym, ap, ◌∙◌, subst, true≢false, arith, lit<}
use Rattle.std.specs.Prelude.{if◌then◌else◌, codes, decimal}
use Rattle.std.specs.Char.{is_ascii_alphabetic, is_ascii_alphanumeric}
use Rattle.std.specs.List.{list_all, list_any, position_from, cons_option}
use Rattle.std.specs.Str.{all_scalars, IsAscii}
use Rattle.std.specs.Cmp.Lexicographic.{same_text, nat_list_eq_equiv}
use Rattle.std.proofs.lemmas.Bool.{cases_lt}
use Rattle.std.proofs.lemmas.Bool.Decides.{nat_tests}
use Rattle.std.proofs.lemmas.Fmt.{decimal_by_steps, decimal_injective}
use Rattle.std.proofs.lemmas.List.{take_more, take_all}
use Rattle.std.proofs.lemmas.List.Elements.{filter_map-append}
use Rattle.std.proofs.lemmas.List.Folds.{list_all-append, list_any-append}
use Rattle.std.proofs.lemmas.List.Sums.{AllPass-from_list_all}
use Rattle.std.proofs.lemmas.Str.{encodes-IsAscii}
use Rattle.std.proofs.lemmas.Str.Ascii.{IsAscii-from_all}
use lib.Utf8.{low_scalar}
use denote.Enum.Bare.{same_true}
use Rattle.unicode_ident.proofs.IdentLemmas.{is_xid_start-ascii, is_xid_continue-ascii}
use Rattle.rsml_syntax.specs.contracts.token.Word as the_words
use Rattle.rsml_syntax.specs.declared.edition.Edition.TheVariants as editions
use Rattle.rsml_syntax.specs.declared.token.Placed.{Placed}
use Rattle.rsml_syntax.specs.declared.token.Token.{Token}
use Rattle.rsml_syntax.specs.declared.token.Token.TheVariants as token
use Rattle.rsml_syntax.specs.declared.token.Word.{Word}
use Rattle.rsml_syntax.specs.declared.token.Word.TheVariants as word
use Rattle.rsml_syntax.specs.text.Characters.{is_continuing}
use Rattle.rsml_syntax.specs.text.Lexing.{bare}
use Rattle.rsml_syntax.specs.text.Names.{Name, same, is_in}
use Rattle.rsml_syntax.specs.text.Renaming.{is_previous, has_previous, numbered_name, name_of, names_of, IsLeastFree, IsRenamed, unchanged, changed, rename}
use Rattle.rsml_syntax.specs.text.Tokens.{AreTokens, IsToken, IsFreeName, is_word}
use Rattle.rsml_syntax.specs.text.Words as words
use Rattle.rsml_syntax.specs.text.Words.{word_of, same_word}
use Rattle.rsml_syntax.proofs.CharacterLemmas.{both, neither}
use Rattle.rsml_syntax.proofs.WordLemmas.{word_found, word_spelled, reserves, reserved_found, unreserved_found}

-- Which names the second edition has.

previous_spelled : words.spelling word.Previous ≡ codes "previous"
unfolding words.spelling
previous_spelled = refl

-- a name of the first edition that is not `previous` is one of the second
still_name : (n : Name) → is_word editions.First n ≡ false → same n (codes "previous") ≡ false → is_word editions.Second n ≡ false
still_name n first other = unreserved_found editions.Second n (step (word_of n) refl)
  where
    step : (o : Option Word) → o ≡ word_of n → reserves editions.Second o ≡ false
    step None e = refl
    step (Some w) e = by_test (same_word w word.Previous) refl
      where
        by_test : (b : Bool) → b ≡ same_word w word.Previous → true ≡ false
        by_test true q =
            let is : w ≡ word.Previous = same_true the_words.the_type (search rules) w word.Previous (sym q) in
            let spelled : n ≡ codes "previous" = word_found n w (sym e) ∙ ap words.spelling is ∙ previous_spelled in
            sym (ap (λ m. same m (codes "previous")) spelled) ∙ other
        by_test false q = sym (reserved_found editions.First n (ap (reserves editions.First) (sym e) ∙ sym (ap not q))) ∙ first

-- Numbered names are names.

-- a letter, a digit or `_`
abbrev plain : ℕ → Bool
plain c = is_ascii_alphanumeric c || c == 95

digits_plain : (n : ℕ) → n < 2 ^ 64 → list_all plain (decimal n) ≡ true
digits_plain n small = decimal_by_steps (λ _ ds. list_all plain ds ≡ true) one more n small
  where
    digit : (k : ℕ) → k < 10 → plain (48 + k) ≡ true
    digit k h = grind (arith, nat_tests)

    one : (n : ℕ) → n < 10 → list_all plain ((48 + n) ∷ []) ≡ true
    one n h = rw (digit n h) refl

    more : (n : ℕ) (ds : List ℕ) → 10 ≤ n → list_all plain ds ≡ true → list_all plain (ds ++ ((48 + n % 10) ∷ [])) ≡ true
    more n ds h k = list_all-append plain ds ((48 + n % 10) ∷ []) ∙ ap (λ b. b && list_all plain ((48 + n % 10) ∷ [])) k ∙ one (n % 10) (omega arith)

plain_low : (c : ℕ) → plain c ≡ true → c < 128
plain_low c h = grind (arith, nat_tests)

plain_continue : (cs : List ℕ) → list_all plain cs ≡ true → list_all is_continuing cs ≡ true
plain_continue [] h = refl
plain_continue (c ∷ cs) h =
    let k = both (plain c) (list_all plain cs) h in
    rw (is_xid_continue-ascii c (plain_low c k.0), k.0) (plain_continue cs k.1)

plain_scalars : (cs : List ℕ) → list_all plain cs ≡ true → all_scalars cs ≡ true
plain_scalars [] h = refl
plain_scalars (c ∷ cs) h =
    let k = both (plain c) (list_all plain cs) h in
    let low = plain_low c k.0 in
    rw (low_scalar c (omega arith)) (plain_scalars cs k.1)

plain_ascii : (cs : List ℕ) → list_all plain cs ≡ true → IsAscii cs
plain_ascii cs h = IsAscii-from_all cs (λ k d within. plain_low _ (AllPass-from_list_all plain cs h k d within))

numbered_plain : (k : ℕ) → k < 2 ^ 64 → list_all plain (numbered_name k) ≡ true
numbered_plain k small = digits_plain k small

-- no reserved word has a `_`
numbered_unreserved : (k : ℕ) → is_word editions.Second (numbered_name k) ≡ false
numbered_unreserved k = unreserved_found editions.Second (numbered_name k) (step (word_of (numbered_name k)) refl)
  where
    step : (o : Option Word) → o ≡ word_of (numbered_name k) → reserves editions.Second o ≡ false
    step None e = refl
    step (Some w) e = sym (ap (list_all is_ascii_alphabetic) (word_found (numbered_name k) w (sym e)) ∙ (word_spelled w).letters)

pub numbered_is_name : (k : ℕ) → k < 2 ^ 64 → IsFreeName editions.Second (numbered_name k)
numbered_is_name k small =
    let p = numbered_plain k small in (
      numbered_name k,
      plain_scalars (numbered_name k) p,
      sym (encodes-IsAscii (numbered_name k) (plain_ascii (numbered_name k) p)),
      rw (is_xid_start-ascii 112 (lit< tt)) (plain_continue (drop 1 (numbered_name k)) p),
      numbered_unreserved k,
    )

-- The tokens with another name.

other_token : (name : Name) (t : Token) → IsToken editions.First t → (is_previous t ≡ true → IsFreeName editions.Second name) →
    IsToken editions.Second (if is_previous t then token.Name name else t)
other_token name (token.Word w) is free = refl
other_token name (token.Name n) is free = by_test (same n (codes "previous")) refl free
  where
    by_test : (b : Bool) → b ≡ same n (codes "previous") → (b ≡ true → IsFreeName editions.Second name) →
        IsToken editions.Second (if b then token.Name name else token.Name n)
    by_test true q free = free refl
    by_test false q free = (is.0, is.1, is.2, is.3, still_name n is.4 (sym q))
other_token name (token.Number n) is free = is
other_token name (token.Mark m) is free = refl

pub other_tokens : (name : Name) (ts : List Placed) → AreTokens editions.First (bare ts) → (has_previous ts ≡ true → IsFreeName editions.Second name) →
    AreTokens editions.Second (bare (map (rename name) ts))
other_tokens name [] is free = refl
other_tokens name (t ∷ ts) is free = (
  other_token name t.token is.0 (λ h. free (ap (λ b. b || has_previous ts) h)),
  other_tokens name ts is.1 (λ h. free (ap (λ b. is_previous t.token || b) h ∙ or_true (is_previous t.token))),
)
  where
    or_true : (b : Bool) → (b || true) ≡ true
    or_true true = refl
    or_true false = refl

pub none_renamed : (name : Name) (ts : List Placed) → has_previous ts ≡ false → map (rename name) ts ≡ ts
none_renamed name [] h = refl
none_renamed name (t ∷ ts) h =
    let k = neither (is_previous t.token) (has_previous ts) h in
    ap (λ (u : Token). (let p : Placed = record { token = u; at = t.at } in p) ∷ map (rename name) ts) (ap (λ b. if b then token.Name name else t.token) k.0)
    ∙ ap (λ l. t ∷ l) (none_renamed name ts k.1)

-- The first number whose name is not there.

has : Name → List Name → Bool
has n ns = list_any (same n) ns

-- whether a name is there is whether some name is it
pub is_in_any : (n : Name) (ns : List Name) → is_in n ns ≡ list_any (same n) ns
is_in_any n ns = from 0 ns
  where
    from : (i : ℕ) (ns : List Name) → is_some (position_from (same n) i ns) ≡ list_any (same n) ns
    from i [] = refl
    from i (m ∷ ms) = by_test (same n m) (from (i + 1) ms)
      where
        by_test : (b : Bool) → is_some (position_from (same n) (i + 1) ms) ≡ list_any (same n) ms →
            is_some (cond b (Some i) (position_from (same n) (i + 1) ms)) ≡ (b || list_any (same n) ms)
        by_test true h = refl
        by_test false h = h

same_numbered : (j k : ℕ) → j < 2 ^ 64 → k < 2 ^ 64 → same (numbered_name j) (numbered_name k) ≡ true → j ≡ k
same_numbered j k p q h = decimal_injective j k p q (ap (drop 9) (same_text (numbered_name j) (numbered_name k) (sym h)))

without : Name → List Name → List Name
without n ns = filter (λ m. not (same n m)) ns

filter_short : (p : Name → Bool) (ns : List Name) → length (filter p ns) ≤ length ns
filter_short p [] = omega arith
filter_short p (n ∷ ns) = by_test (p n) (filter_short p ns)
  where
    by_test : (b : Bool) → length (filter p ns) ≤ length ns → length (cond b (n ∷ filter p ns) (filter p ns)) ≤ suc (length ns)
    by_test true h = omega (arith, h)
    by_test false h = omega (arith, h)

-- a name that is there is taken away
without_short : (n : Name) (ns : List Name) → list_any (same n) ns ≡ true → length (without n ns) + 1 ≤ length ns
unfolding without
without_short n [] h = absurd (true≢false (sym h))
without_short n (m ∷ ms) h = by_test (same n m) h (without_short n ms)
  where
    by_test : (b : Bool) → (b || list_any (same n) ms) ≡ true → (list_any (same n) ms ≡ true → length (without n ms) + 1 ≤ length ms)
        → length (cond (not b) (m ∷ without n ms) (without n ms)) + 1 ≤ suc (length ms)
    by_test true r rest = let short = filter_short (λ v. not (same n v)) ms in omega (arith, short)
    by_test false r rest = let short = rest r in omega (arith, short)

-- another name stays
still_there : (n k : Name) (ns : List Name) → (n ≡ k → ⊥) → list_any (same k) ns ≡ true → list_any (same k) (without n ns) ≡ true
unfolding without
still_there n k [] d h = absurd (true≢false (sym h))
still_there n k (m ∷ ms) d h = by_tests (same n m) (same k m) refl refl h (still_there n k ms d)
  where
    by_tests : (a b : Bool) → a ≡ same n m → b ≡ same k m → (b || list_any (same k) ms) ≡ true → (list_any (same k) ms ≡ true → list_any (same k) (without n ms) ≡ true)
        → list_any (same k) (cond (not a) (m ∷ without n ms) (without n ms)) ≡ true
    by_tests true true p q r rest = absurd (d (same_text n m p ∙ sym (same_text k m q)))
    by_tests true false p q r rest = rest r
    by_tests false true p q r rest = ap (λ b. b || list_any (same k) (without n ms)) (sym q)
    by_tests false false p q r rest = ap (λ b. b || list_any (same k) (without n ms)) (sym q) ∙ rest r

-- names that are `previous` and the first k numbered names are more than k
more_names : (k : ℕ) (ns : List Name) → k < 2 ^ 64 → list_any (same (codes "previous")) ns ≡ true →
    ((j : ℕ) → 1 ≤ j → j ≤ k → list_any (same (numbered_name j)) ns ≡ true) → k + 1 ≤ length ns
more_names zero ns small old used = let short = without_short (codes "previous") ns old in omega (arith, short)
more_names (suc k) ns small old used =
    let n = numbered_name (suc k) in
    let short = without_short n ns (used (suc k) (omega arith) (omega arith)) in
    let rest = more_names k (without n ns) (omega arith) (still_there n (codes "previous") ns (λ h. no_number h) old)
    (λ j one le. still_there n (numbered_name j) ns (λ h. other j le h) (used j one (omega arith))) in
    omega (arith, short, rest)
  where
    no_number : numbered_name (suc k) ≡ codes "previous" → ⊥
    no_number h = absurd (let e = ap (λ (l : List ℕ). length (drop 8 l)) h in omega arith)

    other : (j : ℕ) → j ≤ k → numbered_name (suc k) ≡ numbered_name j → ⊥
    other j le h =
        let e : suc k ≡ j = decimal_injective (suc k) j small (omega arith) (ap (drop 9) h) in
        omega arith

-- The names of the first tokens, one more token each time.

with_last : (name : Name) (ts : List Placed) (t : Placed) →
    list_any (same name) (names_of (ts ++ (t ∷ []))) ≡ (list_any (same name) (names_of ts) || list_any (same name) (names_of (t ∷ [])))
with_last name ts t =
    ap (list_any (same name)) (filter_map-append (λ u. name_of u.token) ts (t ∷ []))
    ∙ list_any-append (same name) (names_of ts) (names_of (t ∷ []))

-- the next token
one_more : (name : Name) (ts : List Placed) (i : ℕ) (t : Placed) → i < length ts → t ≡ get_or ts i t →
    list_any (same name) (names_of (take (i + 1) ts)) ≡ (list_any (same name) (names_of (take i ts)) || list_any (same name) (names_of (t ∷ [])))
one_more name ts i t within is =
    let e : take (i + 1) ts ≡ take i ts ++ (t ∷ []) = take_more ts i t within ∙ ap (λ (u : Placed). take i ts ++ (u ∷ [])) (sym is) in
    ap (λ (us : List Placed). list_any (same name) (names_of us)) e ∙ with_last name (take i ts) t

-- the next token is a name
pub name_put : (name n : Name) (ts : List Placed) (i : ℕ) (t : Placed) (old : Bool) → i < length ts → t ≡ get_or ts i t → t.token ≡ token.Name n →
    old ≡ list_any (same name) (names_of (take i ts)) → cond (same n name) true old ≡ list_any (same name) (names_of (take (i + 1) ts))
name_put name n ts i t old within is named before =
    by_test (same n name) (list_any (same name) (names_of (take i ts)))
    (nat_list_eq_equiv.symm n name) before
    ∙ ap (λ b. list_any (same name) (names_of (take i ts)) || b) (sym alone)
    ∙ sym (one_more name ts i t within is)
  where
    alone : list_any (same name) (names_of (t ∷ [])) ≡ (same name n || false)
    alone = ap (λ (u : Token). list_any (same name) (names_of ((let p : Placed = record { token = u; at = t.at } in p) ∷ []))) named

    by_test : (b found : Bool) → b ≡ same name n → old ≡ found → cond b true old ≡ (found || (same name n || false))
    by_test true true p q = refl
    by_test true false p q = ap (λ b. b || false) p
    by_test false true p q = q
    by_test false false p q = q ∙ ap (λ b. b || false) p

-- the next token is no name
pub no_name_put : (name : Name) (ts : List Placed) (i : ℕ) (t : Placed) → i < length ts → t ≡ get_or ts i t → ((n : Name) → t.token ≡ token.Name n → ⊥) →
    list_any (same name) (names_of (take i ts)) ≡ list_any (same name) (names_of (take (i + 1) ts))
no_name_put name ts i t within is other =
    sym (one_more name ts i t within is ∙ ap (λ b. list_any (same name) (names_of (take i ts)) || b) (alone t.token refl) ∙ or_false (list_any (same name) (names_of (take i ts))))
  where
    or_false : (b : Bool) → (b || false) ≡ b
    or_false true = refl
    or_false false = refl

    alone : (u : Token) → u ≡ t.token → list_any (same name) (names_of (t ∷ [])) ≡ false
    alone (token.Name n) e = absurd (other n (sym e))
    alone (token.Word w) e = ap (λ (u : Token). list_any (same name) (names_of ((let p : Placed = record { token = u; at = t.at } in p) ∷ []))) (sym e)
    alone (token.Number n) e = ap (λ (u : Token). list_any (same name) (names_of ((let p : Placed = record { token = u; at = t.at } in p) ∷ []))) (sym e)
    alone (token.Mark m) e = ap (λ (u : Token). list_any (same name) (names_of ((let p : Placed = record { token = u; at = t.at } in p) ∷ []))) (sym e)

-- all tokens
pub all_put : (name : Name) (ts : List Placed) (i : ℕ) → length ts ≤ i → list_any (same name) (names_of (take i ts)) ≡ is_in name (names_of ts)
all_put name ts i end = ap (λ (us : List Placed). list_any (same name) (names_of us)) (take_all i ts end) ∙ sym (is_in_any name (names_of ts))

names_fewer : (ts : List Placed) → length (names_of ts) ≤ length ts
names_fewer [] = omega arith
names_fewer (t ∷ ts) = by_token t.token refl (names_fewer ts)
  where
    by_token : (u : Token) → u ≡ t.token → length (names_of ts) ≤ length ts → length (cons_option (name_of u) (names_of ts)) ≤ suc (length ts)
    by_token (token.Name n) e h = omega (arith, h)
    by_token (token.Word w) e h = omega (arith, h)
    by_token (token.Number n) e h = omega (arith, h)
    by_token (token.Mark m) e h = omega (arith, h)

previous_among : (ts : List Placed) → has_previous ts ≡ true → list_any (same (codes "previous")) (names_of ts) ≡ true
previous_among [] h = absurd (true≢false (sym h))
previous_among (t ∷ ts) h = by_token t.token h (previous_among ts)
  where
    by_test : (b c : Bool) (n : Name) → b ≡ same n (codes "previous") → (b || has_previous ts) ≡ true →
        (has_previous ts ≡ true → list_any (same (codes "previous")) (names_of ts) ≡ true) →
        (same (codes "previous") n || list_any (same (codes "previous")) (names_of ts)) ≡ true
    by_test true c n q h rest = ap (λ b. b || list_any (same (codes "previous")) (names_of ts)) (nat_list_eq_equiv.symm (codes "previous") n ∙ sym q)
    by_test false c n q h rest = ap (λ b. b || list_any (same (codes "previous")) (names_of ts)) (nat_list_eq_equiv.symm (codes "previous") n ∙ sym q) ∙ rest h

    by_token : (u : Token) → (is_previous u || has_previous ts) ≡ true → (has_previous ts ≡ true → list_any (same (codes "previous")) (names_of ts) ≡ true) →
        list_any (same (codes "previous")) (cons_option (name_of u) (names_of ts)) ≡ true
    by_token (token.Name n) h rest = by_test (same n (codes "previous")) true n refl h rest
    by_token (token.Word w) h rest = rest h
    by_token (token.Number n) h rest = rest h
    by_token (token.Mark m) h rest = rest h

-- What the loop has found out.

-- the numbered names up to one number more are there
pub used_more : (ns : List Name) (k : ℕ) → ((j : ℕ) → 1 ≤ j → j < k → is_in (numbered_name j) ns ≡ true) → is_in (numbered_name k) ns ≡ true →
    (j : ℕ) → 1 ≤ j → j < k + 1 → is_in (numbered_name j) ns ≡ true
used_more ns k before here j one below = elim (cases_lt j k) [
  | inl less ↦ before j one less
  | inr more ↦ let e : k ≡ j = omega arith in ap (λ n. is_in (numbered_name n) ns) (sym e) ∙ here
]

-- as many numbered names are fewer than the tokens
pub number_small : (ts : List Placed) (k : ℕ) → k < 2 ^ 64 → has_previous ts ≡ true →
    ((j : ℕ) → 1 ≤ j → j < k → is_in (numbered_name j) (names_of ts) ≡ true) → is_in (numbered_name k) (names_of ts) ≡ true → k + 1 ≤ length ts
number_small ts k small old before here =
    let names = more_names k (names_of ts) small (previous_among ts old)
    (λ j one le. sym (is_in_any (numbered_name j) (names_of ts)) ∙ used_more (names_of ts) k before here j one (omega arith)) in
    let few = names_fewer ts in
    omega (arith, names, few)

-- what the set tells of a numbered name
pub told : (ns : List Name) (keys : List (Bor Name)) (k : ℕ) (name looked : Name) (found : Bool) → name ≡ numbered_name k → looked ≡ name →
    ((n : Name) → list_any (λ (x : Bor Name). same n x.now) keys ≡ is_in n ns) → found ≡ list_any (λ (x : Bor Name). same looked x.now) keys →
    found ≡ true → is_in (numbered_name k) ns ≡ true
told ns keys k name looked found is looks tells looked_up there =
    ap (λ (n : Name). is_in n ns) (sym (looks ∙ is)) ∙ sym (tells looked) ∙ sym looked_up ∙ there

-- The outcome.

pub changed_renamed : (name given : Name) (ts us : List Placed) → has_previous ts ≡ true → (k : ℕ) × IsLeastFree ts k × (name ≡ numbered_name k) → given ≡ name →
    us ≡ map (rename given) ts → IsRenamed ts us
changed_renamed name given ts us some least is made =
    changed least.0 some least.1 (made ∙ ap (λ (n : Name). map (rename n) ts) (is ∙ least.2))

pub changed_tokens : (name given : Name) (ts us : List Placed) → AreTokens editions.First (bare ts) → IsFreeName editions.Second name → given ≡ name →
    us ≡ map (rename given) ts → AreTokens editions.Second (bare us)
changed_tokens name given ts us are free is made =
    subst (λ (l : List Placed). AreTokens editions.Second (bare l)) (sym (made ∙ ap (λ (n : Name). map (rename n) ts) is))
    (other_tokens name ts are (λ _. free))

pub kept_renamed : (given : Name) (ts us : List Placed) → has_previous ts ≡ false → us ≡ map (rename given) ts → IsRenamed ts us
kept_renamed given ts us none made = unchanged none (made ∙ none_renamed given ts none)

pub kept_tokens : (given : Name) (ts us : List Placed) → has_previous ts ≡ false → AreTokens editions.First (bare ts) → us ≡ map (rename given) ts →
    AreTokens editions.Second (bare us)
kept_tokens given ts us none are made =
    subst (λ (l : List Placed). AreTokens editions.Second (bare l)) (sym made) (other_tokens given ts are (λ some. absurd (true≢false (sym some ∙ none))))

-- What is renamed.

-- the least free number is at most one more than there are tokens
least_small : (ts : List Placed) (k : ℕ) → has_previous ts ≡ true → IsLeastFree ts k → length ts + 1 < 2 ^ 64 → k ≤ length ts + 1
least_small ts k some least room = elim (cases_lt (length ts + 1) k) [
  | inl less ↦
      let more = number_small ts (length ts + 1) room some (λ j one below. used j one (omega (arith, below, less))) (used (length ts + 1) (omega arith) less) in
      absurd (omega (arith, more))
  | inr few ↦ few
]
  where
    used : (j : ℕ) → 1 ≤ j → j < k → is_in (numbered_name j) (names_of ts) ≡ true
    used j one below = by_test (is_in (numbered_name j) (names_of ts)) refl
      where
        by_test : (b : Bool) → is_in (numbered_name j) (names_of ts) ≡ b → b ≡ true
        by_test true e = refl
        by_test false e = let above = least.least j one e in absurd (omega (arith, above, below))

-- renamed tokens of the first edition are tokens of the second
pub renamed_tokens : (ts us : List Placed) → length ts + 1 < 2 ^ 64 → AreTokens editions.First (bare ts) → IsRenamed ts us → AreTokens editions.Second (bare us)
renamed_tokens ts us room are (unchanged none e) = kept_tokens [] ts us none are (e ∙ sym (none_renamed [] ts none))
renamed_tokens ts us room are (changed k some least e) =
    let few = least_small ts k some least room in
    changed_tokens (numbered_name k) (numbered_name k) ts us are (numbered_is_name k (omega (arith, few, room))) refl e
