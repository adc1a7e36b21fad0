-- Reading an event line gives the lowest rule that it breaks, or the event that it tells.
use Rattle.std.proofs.Common.{◌≡◌, ℕ, zero, suc, ◌+◌, ◌<◌, ◌≤◌, Bool, true, false, ◌&&◌, List, [], ◌∷◌, ◌++◌, map, length, drop, Option, Some, None, zip, ℤ, if◌then◌else◌, nat_eq, nat_le, ◌==◌, inl, inr, refl, sym, ap, ◌∙◌, subst, arith, true≢false, append_assoc, length-append, leb-true, lit≤, option_map, option_and_then}
use Rattle.std.specs.Prelude.{codes}
use Rattle.std.specs.List.{list_all, starts_with}
use Rattle.std.specs.Str.{byte, is_utf8}
use Rattle.std.specs.Cmp.{first_so, second_so}
use Rattle.std.proofs.lemmas.Bool.{cases_lt, le-leb}
use Rattle.std.proofs.lemmas.Bool.Decides.{Decides-eqb, nat_tests}
use Rattle.std.proofs.lemmas.List.{append_cancel_left}
use Rattle.std.proofs.lemmas.Slice.Eq.{starts_is}
use Rattle.rsml_syntax.specs.declared.syntax.Spec.{Spec}
use Rattle.rsml_syntax.specs.declared.syntax.Amount.{Amount}
use Rattle.rsml_syntax.specs.text.Names.{Name}
use Rattle.rsml_syntax.specs.rules.Globals.{Globals, many}
use Rattle.rsml_meaning.specs.Words.{IsOne, AllThree}
use Rattle.rsml_meaning.specs.Instances.{globals_of}
use Rattle.rsml_meaning.specs.Cells.{InputType, input_type, is_of}
use Rattle.rsml_meaning.specs.Interfaces.{ReceiveInstance, new_receive}
use Rattle.rsml_meaning.specs.EventLines.{Bytes, words, digits_number, value_number, all_some, Interface, before_close, in_brackets, up_to_size, index_told, Fields, add_value, fields, LineRule, E1, E2, E3, E4, E5, E6, E7, Message, Outcome, breaks, tells, read_values, read_fields, read_instance, read_words, read_line}
use Rattle.rsml_meaning.specs.LineRules.{first_word, name_text, index_text, field_words, receive_named, OfReceive, field_names, TellsIndex, field_word, HasValue, LacksField, Breaks, rule_number, BreaksLowest, GivesNumber, TellsEvent}
use Rattle.rsml_meaning.specs.Laws.{LinesBreakRules, LinesTellEvents}

-- Options.

some_or_none : {A : Type 0} (x : A) → Some x ≡ None → ⊥
some_or_none x h = cc

some_is : {A : Type 0} (x y : A) → Some x ≡ Some y → x ≡ y
some_is x y h = cc

-- Rules by their numbers.

rule_at : ℕ → LineRule
rule_at (suc zero) = E1
rule_at (suc (suc zero)) = E2
rule_at (suc (suc (suc zero))) = E3
rule_at (suc (suc (suc (suc zero)))) = E4
rule_at (suc (suc (suc (suc (suc zero))))) = E5
rule_at (suc (suc (suc (suc (suc (suc zero)))))) = E6
rule_at n = E7

same_at : (rule : LineRule) → rule_at (rule_number rule) ≡ rule
unfolding rule_at
same_at E1 = refl
same_at E2 = refl
same_at E3 = refl
same_at E4 = refl
same_at E5 = refl
same_at E6 = refl
same_at E7 = refl

same_rule : (a b : LineRule) → rule_number a ≡ rule_number b → a ≡ b
same_rule a b e = sym (same_at a) ∙ ap rule_at e ∙ same_at b

number_from : (rule : LineRule) → 1 ≤ rule_number rule
number_from E1 = lit≤ tt
number_from E2 = lit≤ tt
number_from E3 = lit≤ tt
number_from E4 = lit≤ tt
number_from E5 = lit≤ tt
number_from E6 = lit≤ tt
number_from E7 = lit≤ tt

number_to : (rule : LineRule) → rule_number rule ≤ 7
number_to E1 = lit≤ tt
number_to E2 = lit≤ tt
number_to E3 = lit≤ tt
number_to E4 = lit≤ tt
number_to E5 = lit≤ tt
number_to E6 = lit≤ tt
number_to E7 = lit≤ tt

-- no rule with a number below this one is broken
abbrev NoneBelow : Spec → Bytes → ℕ → Type 0
NoneBelow s line n = (rule : LineRule) → rule_number rule < n → Breaks s line rule → ⊥

none_first : (s : Spec) (line : Bytes) → NoneBelow s line 1
none_first s line rule lt b = absurd (omega (arith, lt, number_from rule))

next : (s : Spec) (line : Bytes) (rule : LineRule) → NoneBelow s line (rule_number rule) → (Breaks s line rule → ⊥) → NoneBelow s line (rule_number rule + 1)
next s line rule below kept other lt b = elim (cases_lt (rule_number other) (rule_number rule)) [
  | inl l ↦ below other l b
  | inr u ↦ kept (subst (Breaks s line) (same_rule other rule (omega (arith, lt, u))) b)
]

-- Brackets.

close_is : (cs inner : Bytes) → before_close cs ≡ Some inner → cs ≡ inner ++ codes "]"
close_is [] inner h = absurd (some_or_none inner (sym h))
close_is (c ∷ []) inner h = by_test (c == byte "]") refl h
  where
    by_test : (b : Bool) → (c == byte "]") ≡ b → (if b then Some [] else None) ≡ Some inner → c ∷ [] ≡ inner ++ codes "]"
    by_test true e k = let same : c ≡ byte "]" = grind (arith, nat_tests) in ap (λ z. z ∷ []) same ∙ ap (λ (z : Bytes). z ++ codes "]") (some_is [] inner k)
    by_test false e k = absurd (some_or_none inner (sym k))
close_is (c ∷ d ∷ cs) inner h = by_rest (before_close (d ∷ cs)) h (close_is (d ∷ cs))
  where
    by_rest : (o : Option Bytes) → option_map (λ z. c ∷ z) o ≡ Some inner → ((z : Bytes) → o ≡ Some z → d ∷ cs ≡ z ++ codes "]") → c ∷ d ∷ cs ≡ inner ++ codes "]"
    by_rest None k rest = absurd (some_or_none inner (sym k))
    by_rest (Some z) k rest = ap (λ y. c ∷ y) (rest z refl) ∙ ap (λ (y : Bytes). y ++ codes "]") (some_is (c ∷ z) inner k)

is_close : (inner : Bytes) → before_close (inner ++ codes "]") ≡ Some inner
is_close [] = refl
is_close (c ∷ []) = refl
is_close (c ∷ d ∷ cs) = ap (option_map (λ z. c ∷ z)) (is_close (d ∷ cs))

brackets_are : (text inner : Bytes) → in_brackets text ≡ Some inner → text ≡ codes "[" ++ (inner ++ codes "]")
brackets_are [] inner h = absurd (some_or_none inner (sym h))
brackets_are (c ∷ cs) inner h = by_test (c == byte "[") refl h
  where
    by_test : (b : Bool) → (c == byte "[") ≡ b → (if b then before_close cs else None) ≡ Some inner → c ∷ cs ≡ codes "[" ++ (inner ++ codes "]")
    by_test true e k = let same : c ≡ byte "[" = grind (arith, nat_tests) in ap (λ z. z ∷ cs) same ∙ ap (λ z. byte "[" ∷ z) (close_is cs inner k)
    by_test false e k = absurd (some_or_none inner (sym k))

-- The index.

in_size : (size n index : ℕ) → up_to_size size n ≡ Some index → (n ≡ index) × (1 ≤ index) × (index ≤ size)
in_size size n index h = by_test (nat_le 1 n && nat_le n size) refl h
  where
    by_test : (b : Bool) → (nat_le 1 n && nat_le n size) ≡ b → (if b then Some n else None) ≡ Some index → (n ≡ index) × (1 ≤ index) × (index ≤ size)
    by_test true e k =
        let same = some_is n index k in (
          same,
          subst (λ z. 1 ≤ z) same (leb-true 1 n (first_so (nat_le 1 n) (nat_le n size) e)),
          subst (λ z. z ≤ size) same (leb-true n size (second_so (nat_le 1 n) (nat_le n size) e)),
        )
    by_test false e k = absurd (some_or_none index (sym k))

sized_tells : (g : Globals) (amount : Amount) (text : Bytes) (index : ℕ) → index_told g (Some amount) text ≡ Some index → TellsIndex g (Some amount) text index
sized_tells g amount text index h = by_brackets (in_brackets text) refl h
  where
    by_digits : (digits : Bytes) (o : Option ℕ) → in_brackets text ≡ Some digits → digits_number digits ≡ o → option_and_then (up_to_size (many g (Some amount))) o ≡ Some index → TellsIndex g (Some amount) text index
    by_digits digits None e d k = absurd (some_or_none index (sym k))
    by_digits digits (Some n) e d k = let p = in_size (many g (Some amount)) n index k in (digits, brackets_are text digits e, d ∙ ap (λ z. Some z) p.0, p.1, p.2)

    by_brackets : (o : Option Bytes) → in_brackets text ≡ o → option_and_then (up_to_size (many g (Some amount))) (option_and_then digits_number o) ≡ Some index → TellsIndex g (Some amount) text index
    by_brackets None e k = absurd (some_or_none index (sym k))
    by_brackets (Some digits) e k = by_digits digits (digits_number digits) e refl k

index_tells : (g : Globals) (size : Option Amount) (text : Bytes) (index : ℕ) → index_told g size text ≡ Some index → TellsIndex g size text index
index_tells g None [] index h = (refl, sym (some_is 0 index h))
index_tells g None (c ∷ cs) index h = absurd (some_or_none index (sym h))
index_tells g (Some amount) text index h = sized_tells g amount text index h

tells_index : (g : Globals) (size : Option Amount) (text : Bytes) (index : ℕ) → TellsIndex g size text index → index_told g size text ≡ Some index
tells_index g None text index t = ap (λ (z : Bytes). index_told g None z) t.0 ∙ ap (λ z. Some z) (sym t.1)
tells_index g (Some amount) text index t =
    let size = many g (Some amount) in
    let within : (nat_le 1 index && nat_le index size) ≡ true = ap (λ b. b && nat_le index size) (le-leb 1 index t.3) ∙ le-leb index size t.4 in
    ap (λ z. option_and_then (up_to_size size) (option_and_then digits_number (in_brackets z))) t.1
    ∙ ap (λ o. option_and_then (up_to_size size) (option_and_then digits_number o)) (is_close t.0)
    ∙ ap (option_and_then (up_to_size size)) t.2
    ∙ ap (λ b. if b then Some index else None) within

-- one text tells one index
one_index : (g : Globals) (size : Option Amount) (text : Bytes) (i j : ℕ) → TellsIndex g size text i → TellsIndex g size text j → i ≡ j
one_index g size text i j a b = some_is i j (sym (tells_index g size text i a) ∙ tells_index g size text j b)

-- Fields.

begins : (word : Bytes) (name : Name) → starts_with nat_eq word (name ++ codes "=") ≡ true → word ≡ field_word name (drop (length name + 1) word)
begins word name h =
    (starts_is Decides-eqb word (name ++ codes "=") (starts_with nat_eq word (name ++ codes "=")) refl).0 h
    ∙ append_assoc name (codes "=") (drop (length (name ++ codes "=")) word)
    ∙ ap (λ n. field_word name (drop n word)) (length-append name (codes "="))

not_begins : (word : Bytes) (name : Name) → starts_with nat_eq word (name ++ codes "=") ≡ false → (value : Bytes) → word ≡ field_word name value → ⊥
not_begins word name h value e =
    true≢false (sym ((starts_is Decides-eqb word (name ++ codes "=") (starts_with nat_eq word (name ++ codes "=")) refl).1 value (e ∙ sym (append_assoc name (codes "=") value))) ∙ h)

-- a field and the word in its place
abbrev beside : Name → Bytes → Name × Bytes
beside name word = (name, word)

-- one word gives a field one value
one_value : (name n : Name) (value v word : Bytes) → beside name (field_word name value) ≡ beside n word → word ≡ field_word n v → (name ≡ n) × (value ≡ v)
one_value name n value v word e k =
    let names : name ≡ n = ap (λ (p : Name × Bytes). p.0) e in
    let words : field_word name value ≡ word = ap (λ (p : Name × Bytes). p.1) e in
    let same : field_word n value ≡ field_word n v = ap (λ z. field_word z value) (sym names) ∙ words ∙ k in
    (names, ap (drop 1) (append_cancel_left n (codes "=" ++ value) (codes "=" ++ v) same))

-- the words are the fields with these values, and then more words
abbrev AreFields : List Name → List Bytes → List Bytes → List Bytes → Type 0
AreFields [] words [] more = words ≡ more
AreFields (n ∷ ns) (w ∷ ws) (v ∷ vs) more = (w ≡ field_word n v) × AreFields ns ws vs more
AreFields _ _ _ _ = ⊥

add_none : (value : Bytes) (o : Option Fields) → option_map (add_value value) o ≡ None → o ≡ None
add_none value None h = refl
add_none value (Some f) h = absurd (some_or_none (add_value value f) h)

fields_lack : (names : List Name) (ws : List Bytes) → fields names ws ≡ None → LacksField names ws
fields_lack [] ws h = absurd (some_or_none _ h)
fields_lack (n ∷ ns) [] h = inl (omega arith)
fields_lack (n ∷ ns) (w ∷ ws) h = by_test (starts_with nat_eq w (n ++ codes "=")) refl h (fields_lack ns ws)
  where
    later : LacksField ns ws → LacksField (n ∷ ns) (w ∷ ws)
    later (inl l) = inl (omega (arith, l))
    later (inr x) = inr (x.0, x.1, inr x.2, x.3)

    by_test : (b : Bool) → starts_with nat_eq w (n ++ codes "=") ≡ b → (if b then option_map (add_value (drop (length n + 1) w)) (fields ns ws) else None) ≡ None
        → (fields ns ws ≡ None → LacksField ns ws) → LacksField (n ∷ ns) (w ∷ ws)
    by_test true e k rest = later (rest (add_none (drop (length n + 1) w) (fields ns ws) k))
    by_test false e k rest = inr (n, w, inl refl, not_begins w n e)

fields_are : (names : List Name) (ws : List Bytes) (f : Fields) → fields names ws ≡ Some f → AreFields names ws f.values f.more
fields_are [] ws f h = subst (λ (z : Fields). AreFields [] ws z.values z.more) (some_is _ f h) refl
fields_are (n ∷ ns) [] f h = absurd (some_or_none f (sym h))
fields_are (n ∷ ns) (w ∷ ws) f h = by_test (starts_with nat_eq w (n ++ codes "=")) refl h (fields_are ns ws)
  where
    by_rest : starts_with nat_eq w (n ++ codes "=") ≡ true → (o : Option Fields) → fields ns ws ≡ o → option_map (add_value (drop (length n + 1) w)) o ≡ Some f
        → ((z : Fields) → fields ns ws ≡ Some z → AreFields ns ws z.values z.more) → AreFields (n ∷ ns) (w ∷ ws) f.values f.more
    by_rest e None q k rest = absurd (some_or_none f (sym k))
    by_rest e (Some z) q k rest = subst (λ (y : Fields). AreFields (n ∷ ns) (w ∷ ws) y.values y.more) (some_is (add_value (drop (length n + 1) w) z) f k) (begins w n e, rest z q)

    by_test : (b : Bool) → starts_with nat_eq w (n ++ codes "=") ≡ b → (if b then option_map (add_value (drop (length n + 1) w)) (fields ns ws) else None) ≡ Some f
        → ((z : Fields) → fields ns ws ≡ Some z → AreFields ns ws z.values z.more) → AreFields (n ∷ ns) (w ∷ ws) f.values f.more
    by_test true e k rest = by_rest e (fields ns ws) refl k rest
    by_test false e k rest = absurd (some_or_none f (sym k))

-- as many words as fields and more words
many_words : (names : List Name) (ws values more : List Bytes) → AreFields names ws values more → length ws ≡ length names + length more
many_words [] ws [] more a = let as_many : length ws ≡ length more = ap length a in omega (arith, as_many)
many_words (n ∷ ns) (w ∷ ws) (v ∷ vs) more a = let rest = many_words ns ws vs more a.1 in omega (arith, rest)
many_words [] ws (v ∷ vs) more a = elim a [ ]
many_words (n ∷ ns) [] values more a = elim a [ ]
many_words (n ∷ ns) (w ∷ ws) [] more a = elim a [ ]

none_lack : (names : List Name) (ws values more : List Bytes) → AreFields names ws values more → LacksField names ws → ⊥
none_lack names ws values more a (inl l) = let as_many = many_words names ws values more a in omega (arith, l, as_many)
none_lack names ws values more a (inr x) = in_place names ws values more a x.0 x.1 x.2 x.3
  where
    in_place : (names : List Name) (ws values more : List Bytes) → AreFields names ws values more → (name : Name) (word : Bytes) → IsOne (name, word) (zip names ws) → ((value : Bytes) → word ≡ field_word name value → ⊥) → ⊥
    in_place [] ws [] more a name word m f = absurd m
    in_place (n ∷ ns) (w ∷ ws) (v ∷ vs) more a name word (inl e) f =
        f v (ap (λ (p : Name × Bytes). p.1) e ∙ a.0 ∙ ap (λ z. field_word z v) (sym (ap (λ (p : Name × Bytes). p.0) e)))
    in_place (n ∷ ns) (w ∷ ws) (v ∷ vs) more a name word (inr m) f = in_place ns ws vs more a.1 name word m f
    in_place [] ws (v ∷ vs) more a name word m f = elim a [ ]
    in_place (n ∷ ns) [] values more a name word m f = elim a [ ]
    in_place (n ∷ ns) (w ∷ ws) [] more a name word m f = elim a [ ]

-- Values.

module _ (g : Globals) where
  abbrev types : List Name → List InputType
  types names = map (input_type g) names

  abbrev number_of : Name → Bytes → Option ℤ
  number_of name value = value_number (input_type g name, value)

  abbrev In : Name → Bytes → List Name → List Bytes → Type 0
  In name value names ws = IsOne (name, field_word name value) (zip names ws)

  abbrev numbers_of : List Name → List Bytes → Option (List ℤ)
  numbers_of names values = all_some (map value_number (zip (types names) values))

  abbrev AreNumbers : List Name → List Bytes → List ℤ → Type 0
  AreNumbers names ws ns = AllThree (GivesNumber g) names ws ns

  no_number : (names : List Name) (ws values : List Bytes) → AreFields names ws values [] → numbers_of names values ≡ None → (name : Name) × (value : Bytes) × In name value names ws × (number_of name value ≡ None)
  no_number [] ws [] a h = absurd (some_or_none _ h)
  no_number (n ∷ ns) (w ∷ ws) (v ∷ vs) a h = by_value (number_of n v) refl h (no_number ns ws vs a.1)
    where
      rest_none : (z : ℤ) (o : Option (List ℤ)) → option_map (λ zs. z ∷ zs) o ≡ None → o ≡ None
      rest_none z None k = refl
      rest_none z (Some zs) k = absurd (some_or_none (z ∷ zs) k)

      by_value : (o : Option ℤ) → number_of n v ≡ o → all_some (o ∷ map value_number (zip (types ns) vs)) ≡ None
          → (numbers_of ns vs ≡ None → (name : Name) × (value : Bytes) × In name value ns ws × (number_of name value ≡ None)) → (name : Name) × (value : Bytes) × In name value (n ∷ ns) (w ∷ ws) × (number_of name value ≡ None)
      by_value None e k rest = (n, v, inl (ap (beside n) (sym a.0)), e)
      by_value (Some z) e k rest = let r = rest (rest_none z (numbers_of ns vs) k) in (r.0, r.1, inr r.2, r.3)
  no_number [] ws (v ∷ vs) a h = elim a [ ]
  no_number (n ∷ ns) [] values a h = elim a [ ]
  no_number (n ∷ ns) (w ∷ ws) [] a h = elim a [ ]

  numbers_are : (names : List Name) (ws values : List Bytes) (zs : List ℤ) → AreFields names ws values [] → numbers_of names values ≡ Some zs → AreNumbers names ws zs
  numbers_are [] [] [] zs a h = subst (AreNumbers [] []) (some_is [] zs h) tt
  numbers_are (n ∷ ns) (w ∷ ws) (v ∷ vs) zs a h = by_value (number_of n v) refl h (numbers_are ns ws vs)
    where
      by_rest : (z : ℤ) → number_of n v ≡ Some z → (o : Option (List ℤ)) → numbers_of ns vs ≡ o → option_map (λ ys. z ∷ ys) o ≡ Some zs
          → ((ys : List ℤ) → AreFields ns ws vs [] → numbers_of ns vs ≡ Some ys → AreNumbers ns ws ys) → AreNumbers (n ∷ ns) (w ∷ ws) zs
      by_rest z e None q k rest = absurd (some_or_none zs (sym k))
      by_rest z e (Some ys) q k rest = subst (AreNumbers (n ∷ ns) (w ∷ ws)) (some_is (z ∷ ys) zs k) ((v, a.0, e), rest ys a.1 q)

      by_value : (o : Option ℤ) → number_of n v ≡ o → all_some (o ∷ map value_number (zip (types ns) vs)) ≡ Some zs
          → ((ys : List ℤ) → AreFields ns ws vs [] → numbers_of ns vs ≡ Some ys → AreNumbers ns ws ys) → AreNumbers (n ∷ ns) (w ∷ ws) zs
      by_value None e k rest = absurd (some_or_none zs (sym k))
      by_value (Some z) e k rest = by_rest z e (numbers_of ns vs) refl k rest
  numbers_are [] (w ∷ ws) [] zs a h = cc
  numbers_are [] ws (v ∷ vs) zs a h = elim a [ ]
  numbers_are (n ∷ ns) [] values zs a h = elim a [ ]
  numbers_are (n ∷ ns) (w ∷ ws) [] zs a h = elim a [ ]

  -- the number that a field has
  in_number : (names : List Name) (ws : List Bytes) (zs : List ℤ) → AreNumbers names ws zs → (name : Name) (value : Bytes) → In name value names ws → (z : ℤ) × (number_of name value ≡ Some z)
  in_number [] [] [] a name value m = absurd m
  in_number (n ∷ ns) (w ∷ ws) (z ∷ zs) a name value (inl e) =
      let same = one_value name n value a.0.0 w e a.0.1 in
      (z, ap (λ x. number_of x value) same.0 ∙ ap (number_of n) same.1 ∙ a.0.2)
  in_number (n ∷ ns) (w ∷ ws) (z ∷ zs) a name value (inr m) = in_number ns ws zs a.1 name value m
  in_number [] [] (z ∷ zs) a name value m = elim a [ ]
  in_number [] (w ∷ ws) zs a name value m = elim a [ ]
  in_number (n ∷ ns) [] zs a name value m = elim a [ ]
  in_number (n ∷ ns) (w ∷ ws) [] a name value m = elim a [ ]

  abbrev fit : List Name → List ℤ → Bool
  fit names zs = list_all (λ (x : InputType × ℤ). is_of x.0 x.1) (zip (types names) zs)

  abbrev Misfit : List Name → List Bytes → Type 0
  Misfit names ws = (name : Name) × (value : Bytes) × (z : ℤ) × In name value names ws × (number_of name value ≡ Some z) × (is_of (input_type g name) z ≡ false)

  some_misfit : (names : List Name) (ws : List Bytes) (zs : List ℤ) → AreNumbers names ws zs → fit names zs ≡ false → Misfit names ws
  some_misfit [] [] [] a h = absurd (true≢false h)
  some_misfit (n ∷ ns) (w ∷ ws) (z ∷ zs) a h = by_test (is_of (input_type g n) z) refl h (some_misfit ns ws zs a.1)
    where
      by_test : (b : Bool) → is_of (input_type g n) z ≡ b → (b && fit ns zs) ≡ false → (fit ns zs ≡ false → Misfit ns ws) → Misfit (n ∷ ns) (w ∷ ws)
      by_test true e k rest = let r = rest k in (r.0, r.1, r.2, inr r.3, r.4, r.5)
      by_test false e k rest = (n, a.0.0, z, inl (ap (beside n) (sym a.0.1)), a.0.2, e)
  some_misfit [] [] (z ∷ zs) a h = elim a [ ]
  some_misfit [] (w ∷ ws) zs a h = elim a [ ]
  some_misfit (n ∷ ns) [] zs a h = elim a [ ]
  some_misfit (n ∷ ns) (w ∷ ws) [] a h = elim a [ ]

  no_misfit : (names : List Name) (ws : List Bytes) (zs : List ℤ) → AreNumbers names ws zs → fit names zs ≡ true → Misfit names ws → ⊥
  no_misfit [] [] [] a h f = absurd f.3
  no_misfit (n ∷ ns) (w ∷ ws) (z ∷ zs) a h (name, value, y, inl e, k, q) =
      let same = one_value name n value a.0.0 w e a.0.1 in
      let number = some_is y z (sym k ∙ ap (λ x. number_of x value) same.0 ∙ ap (number_of n) same.1 ∙ a.0.2) in
      true≢false (sym (first_so (is_of (input_type g n) z) (fit ns zs) h) ∙ ap (is_of (input_type g n)) (sym number) ∙ ap (λ x. is_of (input_type g x) y) (sym same.0) ∙ q)
  no_misfit (n ∷ ns) (w ∷ ws) (z ∷ zs) a h (name, value, y, inr m, k, q) = no_misfit ns ws zs a.1 (second_so (is_of (input_type g n) z) (fit ns zs) h) (name, value, y, m, k, q)
  no_misfit [] [] (z ∷ zs) a h f = elim a [ ]
  no_misfit [] (w ∷ ws) zs a h f = elim a [ ]
  no_misfit (n ∷ ns) [] zs a h f = elim a [ ]
  no_misfit (n ∷ ns) (w ∷ ws) [] a h f = elim a [ ]

  one_numbers : (names : List Name) (ws : List Bytes) (xs ys : List ℤ) → AreNumbers names ws xs → AreNumbers names ws ys → xs ≡ ys
  one_numbers [] [] [] [] a b = refl
  one_numbers (n ∷ ns) (w ∷ ws) (x ∷ xs) (y ∷ ys) a b =
      let same = (one_value n n a.0.0 b.0.0 w (ap (beside n) (sym a.0.1)) b.0.1).1 in
      let number = some_is x y (sym a.0.2 ∙ ap (number_of n) same ∙ b.0.2) in
      λ t. number t ∷ one_numbers ns ws xs ys a.1 b.1 t
  one_numbers [] [] [] (y ∷ ys) a b = elim b [ ]
  one_numbers [] [] (x ∷ xs) ys a b = elim a [ ]
  one_numbers [] (w ∷ ws) xs ys a b = elim a [ ]
  one_numbers (n ∷ ns) [] xs ys a b = elim a [ ]
  one_numbers (n ∷ ns) (w ∷ ws) [] ys a b = elim a [ ]
  one_numbers (n ∷ ns) (w ∷ ws) (x ∷ xs) [] a b = elim b [ ]

-- Lines.

-- what a line comes to is right
abbrev IsRight : Spec → Bytes → Outcome → Type 0
IsRight s line (breaks rule) = BreaksLowest s line rule
IsRight s line (tells m) = TellsEvent s line m

-- reading words by the receive that they name
abbrev read_named : Globals → List Bytes → Outcome
read_named g ws = elim (receive_named g ws) [ None ↦ breaks E2 | Some i ↦ read_instance g (first_word ws) i (drop 1 ws) ]

words_named : (g : Globals) (ws : List Bytes) → read_words g ws ≡ read_named g ws
words_named g [] = refl
words_named g (w ∷ ws) = refl

of_named : (s : Spec) (line : Bytes) (P : Interface → Type 0) (i : Interface) → receive_named (globals_of s) (words line) ≡ Some i → OfReceive s line P → P i
of_named s line P i e b = subst P (some_is b.0 i (sym b.1 ∙ e)) b.2

module _ (s : Spec) (line : Bytes) where
  abbrev g : Globals
  g = globals_of s

  abbrev ws : List Bytes
  ws = words line

  module _ (i : Interface) (named : receive_named g ws ≡ Some i) where
    abbrev names : List Name
    names = field_names i

    module _ (index : ℕ) (told : TellsIndex g i.size (index_text line) index) where
      abbrev receive : ReceiveInstance
      receive = new_receive g (name_text line) i.inputs i.raised index

      values_right : (values : List Bytes) → AreFields names (field_words line) values [] → NoneBelow s line 6 → IsRight s line (read_values (map (input_type g) names) receive values)
      values_right values a below = by_numbers (numbers_of g names values) refl
        where
          by_test : (zs : List ℤ) → AreNumbers g names (field_words line) zs → NoneBelow s line 7 → (b : Bool) → fit g names zs ≡ b
              → IsRight s line (if b then tells (record { receive = receive; numbers = zs }) else breaks E7)
          by_test zs are upto true e = record {
            unbroken = λ rule b. next s line E7 upto (λ q. no_misfit g names (field_words line) zs are e (of_named s line _ i named q)) rule (let most = number_to rule in omega (arith, most)) b;
            interface = i;
            named = named;
            index = index;
            told = told;
            receive = refl;
            numbers = are;
          }
          by_test zs are upto false e = record { broken = (i, named, some_misfit g names (field_words line) zs are e); no_lower = upto }

          by_numbers : (o : Option (List ℤ)) → numbers_of g names values ≡ o
              → IsRight s line (elim o [ None ↦ breaks E6 | Some zs ↦ if fit g names zs then tells (record { receive = receive; numbers = zs }) else breaks E7 ])
          by_numbers None e = record { broken = (i, named, no_number g names (field_words line) values a e); no_lower = below }
          by_numbers (Some zs) e =
              let are = numbers_are g names (field_words line) values zs a e in
              by_test zs are (next s line E6 below (λ q. no_none zs are (of_named s line _ i named q))) (fit g names zs) refl
            where
              no_none : (zs : List ℤ) → AreNumbers g names (field_words line) zs → (name : Name) × (value : Bytes) × HasValue i line name value × (number_of g name value ≡ None) → ⊥
              no_none zs are f = let z = in_number g names (field_words line) zs are f.0 f.1 f.2 in some_or_none z.0 (sym z.1 ∙ f.3)

      fields_right : NoneBelow s line 4 → IsRight s line (read_fields g names receive (field_words line))
      fields_right below = by_fields (fields names (field_words line)) refl
        where
          by_more : (values more : List Bytes) → AreFields names (field_words line) values more → NoneBelow s line 5
              → IsRight s line (elim more [ [] ↦ read_values (map (input_type g) names) receive values | word ∷ others ↦ breaks E5 ])
          by_more values [] a upto =
              values_right values a (next s line E5 upto (λ q. let as_many = many_words names (field_words line) values [] a in let l = of_named s line (λ i. length (field_names i) < length (field_words line)) i named q in omega (arith, as_many, l)))
          by_more values (word ∷ others) a upto = record {
            broken = (i, named, let as_many = many_words names (field_words line) values (word ∷ others) a in omega (arith, as_many));
            no_lower = upto;
          }

          by_fields : (o : Option Fields) → fields names (field_words line) ≡ o
              → IsRight s line (elim o [ None ↦ breaks E4 | Some f ↦ elim f.more [ [] ↦ read_values (map (input_type g) names) receive f.values | word ∷ others ↦ breaks E5 ] ])
          by_fields None e = record { broken = (i, named, fields_lack names (field_words line) e); no_lower = below }
          by_fields (Some f) e =
              let a = fields_are names (field_words line) f e in
              by_more f.values f.more a (next s line E4 below (λ q. none_lack names (field_words line) f.values f.more a (of_named s line (λ i. LacksField (field_names i) (field_words line)) i named q)))

    instance_right : NoneBelow s line 3 → IsRight s line (read_instance g (first_word ws) i (field_words line))
    instance_right below = by_index (index_told g i.size (index_text line)) refl
      where
        by_index : (o : Option ℕ) → index_told g i.size (index_text line) ≡ o
            → IsRight s line (elim o [ None ↦ breaks E3 | Some index ↦ read_fields g names (new_receive g (name_text line) i.inputs i.raised index) (field_words line) ])
        by_index None e = record { broken = (i, named, λ index t. some_or_none index (sym (tells_index g i.size (index_text line) index t) ∙ e)); no_lower = below }
        by_index (Some index) e =
            let told = index_tells g i.size (index_text line) index e in
            fields_right index told (next s line E3 below (λ q. of_named s line (λ i. (index : ℕ) → TellsIndex g i.size (index_text line) index → ⊥) i named q index told))

  named_right : NoneBelow s line 2 → IsRight s line (read_named g ws)
  named_right below = by_named (receive_named g ws) refl
    where
      by_named : (o : Option Interface) → receive_named g ws ≡ o → IsRight s line (elim o [ None ↦ breaks E2 | Some i ↦ read_instance g (first_word ws) i (field_words line) ])
      by_named None e = record { broken = e; no_lower = below }
      by_named (Some i) e = instance_right i e (next s line E2 below (λ q. some_or_none i (sym e ∙ q)))

  line_right : IsRight s line (read_line s line)
  line_right = by_test (is_utf8 line) refl
    where
      by_test : (b : Bool) → is_utf8 line ≡ b → IsRight s line (if b then read_words g ws else breaks E1)
      by_test true e = subst (IsRight s line) (sym (words_named g ws)) (named_right (next s line E1 (none_first s line) (λ q. true≢false (sym e ∙ q))))
      by_test false e = record { broken = e; no_lower = none_first s line }

  -- there is one lowest broken rule
  one_rule : (a b : LineRule) → BreaksLowest s line a → BreaksLowest s line b → a ≡ b
  one_rule a b p q = elim (cases_lt (rule_number a) (rule_number b)) [
    | inl l ↦ absurd (q.no_lower a l p.broken)
    | inr u ↦ elim (cases_lt (rule_number b) (rule_number a)) [
      | inl l ↦ absurd (p.no_lower b l q.broken)
      | inr v ↦ same_rule a b (omega (arith, u, v))
    ]
  ]

  one_event : (m n : Message) → TellsEvent s line m → TellsEvent s line n → m ≡ n
  one_event m n a b =
      let i = some_is a.interface b.interface (sym a.named ∙ b.named) in
      let index = one_index g b.interface.size (index_text line) a.index b.index (subst (λ (z : Interface). TellsIndex g z.size (index_text line) a.index) i a.told) b.told in
      let receive = a.receive ∙ ap (λ (z : Interface). new_receive g (name_text line) z.inputs z.raised a.index) i ∙ ap (new_receive g (name_text line) b.interface.inputs b.interface.raised) index ∙ sym b.receive in
      let numbers = one_numbers g (field_names b.interface) (field_words line) m.numbers n.numbers (subst (λ (z : Interface). AllThree (GivesNumber g) (field_names z) (field_words line) m.numbers) i a.numbers) b.numbers in
      λ t. record { receive = receive t; numbers = numbers t }

pub lines_break_rules : LinesBreakRules
lines_break_rules s line rule = (λ h. subst (IsRight s line) h (line_right s line), λ b. by_outcome (read_line s line) (line_right s line) b)
  where
    by_outcome : (o : Outcome) → IsRight s line o → BreaksLowest s line rule → o ≡ breaks rule
    by_outcome (breaks other) r b = ap breaks (one_rule s line other rule r b)
    by_outcome (tells m) t b = absurd (t.unbroken rule b.broken)

pub lines_tell_events : LinesTellEvents
lines_tell_events s line m = (λ h. subst (IsRight s line) h (line_right s line), λ t. by_outcome (read_line s line) (line_right s line) t)
  where
    by_outcome : (o : Outcome) → IsRight s line o → TellsEvent s line m → o ≡ tells m
    by_outcome (breaks rule) b t = absurd (t.unbroken rule b.broken)
    by_outcome (tells other) r t = ap tells (one_event s line other m r t)
