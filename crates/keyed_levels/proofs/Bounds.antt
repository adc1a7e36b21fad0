-- Levels with one more comparison or one more key, and without bounds.
use Rattle.std.proofs.Common.{◌≡◌, ℕ, zero, suc, ◌+◌, ◌-◌, ◌<◌, ◌≤◌, Bool, true, false, List, [], ◌∷◌, ◌++◌, All, length, take, Option, Some, refl, sym, ap, ◌∙◌, subst, nat_lt, slice_get, slice_index_or, arith, ltb-true, ltb-false, length-append}
use Rattle.std.proofs.lemmas.List.{length-take-le, take_all}
use Rattle.std.proofs.lemmas.List.Elements.{All-push, All-take}
use Rattle.std.proofs.lemmas.Option.{get_or_from_slice_get, slice_get_within}
use Rattle.rsml_syntax.specs.declared.world.World.{World}
use Rattle.rsml_meaning.specs.Cells.{cells}
use Rattle.rsml_ground.specs.declared.phrases.GroundPhrase.{GroundPhrase}
use Rattle.rsml_ground.specs.declared.phrases.GroundPhrase.TheVariants as kinds
use Rattle.rsml_ground.specs.Rests.{RestsOn}
use Rattle.rsml_ground.specs.Truths.{Grounded}
use Rattle.rsml_ground.specs.declared.definitions.Definition.{Definition}
use Rattle.bdd_core.specs.Diagram.{Diagram}
use Rattle.world_levels.specs.Spelling.{WorldLevels, IsLayout, free_from, world_of}
use Rattle.keyed_levels.specs.declared.keyed.Keyed.{Keyed}
use Rattle.keyed_levels.specs.Keyed.{AreKeyed, Beside, Extends, HasNoBounds, IsKeyOf, KeyedWorlds, Lawful, PhraseFits, StandsFor, Tells, comparison, key_at, keys_of, phrases_of, unbounded, world_at}
use Rattle.keyed_levels.specs.Stored.{AreFirst, AreStored, IsNextKey, IsPaired, with_parts}
use Rattle.keyed_levels.proofs.Pairs.{free_slot, index_before, index_last}
use Rattle.keyed_levels.proofs.Stores.{one_place}

-- Lists.

pub get_first : {A : Type 0} (xs ys : List A) (n : ℕ) → n < length xs → slice_get (xs ++ ys) n ≡ slice_get xs n
get_first [] ys n less = absurd (omega (arith, less))
get_first (x ∷ xs) ys zero less = refl
get_first (x ∷ xs) ys (suc n) less = get_first xs ys n (omega (arith, less))

pub first_phrase : (xs ys : List GroundPhrase) (n : ℕ) (p : GroundPhrase) → slice_get xs n ≡ Some p → slice_get (xs ++ ys) n ≡ Some p
first_phrase xs ys n p at = get_first xs ys n (slice_get_within xs n p at) ∙ at

item : {A : Type 0} (ys : List A) (m : ℕ) (p : A) → m < length ys → p ≡ slice_index_or ys m p → slice_get ys m ≡ Some p
item [] m p less is = absurd (omega (arith, less))
item (y ∷ ys) zero p less is = ap (λ q. Some q) (sym is)
item (y ∷ ys) (suc m) p less is = item ys m p (omega (arith, less)) is

behind : {A : Type 0} (xs ys : List A) (n m : ℕ) → n ≡ length xs + m → slice_get (xs ++ ys) n ≡ slice_get ys m
behind [] ys n m e = let same : n ≡ m = omega (arith, e) in ap (λ k. slice_get ys k) same
behind (x ∷ xs) ys zero m e = absurd (omega (arith, e))
behind (x ∷ xs) ys (suc n) m e = behind xs ys n m (omega (arith, e))

pub later_phrase : (xs ys : List GroundPhrase) (n : ℕ) (p : GroundPhrase) → length xs ≤ n → n < length (xs ++ ys) → p ≡ slice_index_or ys (n - length xs) p → slice_get (xs ++ ys) n ≡ Some p
later_phrase xs ys n p past less is =
    behind xs ys n (n - length xs) (omega (arith, past)) ∙ item ys (n - length xs) p (omega (arith, past, less, length-append xs ys)) is

get_last : {A : Type 0} (xs : List A) (y : A) → slice_get (xs ++ (y ∷ [])) (length xs) ≡ Some y
get_last [] y = refl
get_last (x ∷ xs) y = get_last xs y

key_take : (n : ℕ) (xs : List Keyed) (i : ℕ) → i < n → key_at (take n xs) i ≡ key_at xs i
key_take zero xs i less = absurd (omega (arith, less))
key_take (suc n) [] i less = refl
key_take (suc n) (x ∷ xs) zero less = refl
key_take (suc n) (x ∷ xs) (suc i) less = key_take n xs i (omega (arith, less))

twice : {A : Type 0} (n : ℕ) (xs : List A) → take n (take n xs) ≡ take n xs
twice zero xs = refl
twice (suc n) [] = refl
twice (suc n) (x ∷ xs) = ap (λ ys. x ∷ ys) (twice n xs)

pub one_more : {A : Type 0} (xs : List A) (x : A) → length (xs ++ (x ∷ [])) ≡ length xs + 1
one_more xs x = length-append xs (x ∷ [])

take_before : {A : Type 0} (n : ℕ) (xs ys : List A) → n ≤ length xs → take n (xs ++ ys) ≡ take n xs
take_before zero xs ys few = refl
take_before (suc n) [] ys few = absurd (omega (arith, few))
take_before (suc n) (x ∷ xs) ys few = ap (λ zs. x ∷ zs) (take_before n xs ys (omega (arith, few)))

-- what is so of each key, and of one more
each_more : (P : Keyed → ℕ → Type 0) (keyed : List Keyed) (x : Keyed) → ((i : ℕ) → i < length keyed → P (key_at keyed i) i) → P x (length keyed)
    → (i : ℕ) → i < length (keyed ++ (x ∷ [])) → P (key_at (keyed ++ (x ∷ [])) i) i
each_more P keyed x old last i less = by (nat_lt i (length keyed)) refl
  where
    long : length (keyed ++ (x ∷ [])) ≡ length keyed + 1
    long = one_more keyed x

    by : (b : Bool) → nat_lt i (length keyed) ≡ b → P (key_at (keyed ++ (x ∷ [])) i) i
    by true e = let l = ltb-true i (length keyed) e in subst (λ k. P k i) (sym (index_before keyed (x ∷ []) i l)) (old i l)
    by false e =
        let here : i ≡ length keyed = omega (arith, ltb-false i (length keyed) e, less, long) in
        subst (λ j. P (key_at (keyed ++ (x ∷ [])) j) j) (sym here) (subst (λ k. P k (length keyed)) (sym (index_last keyed x)) last)

-- Phrases.

-- a comparison rests on no other phrase
pub comparison_rests : (definitions : List Definition) (cells n : ℕ) (p : GroundPhrase) → PhraseFits cells p → RestsOn definitions cells n p
comparison_rests definitions cells n (kinds.In node) fits = absurd fits
comparison_rests definitions cells n (kinds.Macro number) fits = absurd fits
comparison_rests definitions cells n (kinds.Any numbers) fits = absurd fits
comparison_rests definitions cells n (kinds.Every numbers) fits = absurd fits
comparison_rests definitions cells n (kinds.Compare left relation right) fits = fits
comparison_rests definitions cells n (kinds.Function number relation constant) fits = absurd fits

-- Keys on the first free levels.

-- those of phrases that there are are levels of the specification
pub first_keyed : (base : Grounded) (beside : Beside) (levels : WorldLevels) (keyed : List Keyed) → IsLayout base.spec levels.slots → AreFirst base beside (free_from levels.slots 0) keyed
    → ((i : ℕ) → i < length keyed → (key_at keyed i).phrase < length (base.phrases ++ beside.phrases)) → AreKeyed (with_parts base beside levels keyed)
first_keyed base beside levels keyed layout first phrase = record {
  layout = layout;
  differ = λ i j hi hj same.
      one_place levels.slots i j (omega (arith, hi, first.few)) (omega (arith, hj, first.few)) (sym (first.level i hi) ∙ same ∙ first.level j hj);
  free = λ i hi. ap (slice_get levels.slots) (first.level i hi) ∙ free_slot levels.slots i (omega (arith, hi, first.few));
  phrase = phrase;
}

key_default : (keyed : List Keyed) (i : ℕ) (d : Keyed) → i < length keyed → slice_index_or keyed i d ≡ key_at keyed i
key_default [] i d less = absurd (omega (arith, less))
key_default (x ∷ xs) zero d less = refl
key_default (x ∷ xs) (suc i) d less = key_default xs i d (omega (arith, less))

-- keys of numbers are of phrases that there are
pub keys_below : (n : ℕ) (levels numbers : List ℕ) (keyed : List Keyed) → All (λ p. p < n) numbers → IsPaired levels numbers keyed → All (λ (k : Keyed). k.phrase < n) keyed
keys_below n levels numbers keyed below pairs = λ i d hi.
    subst (λ (k : Keyed). k.phrase < n) (sym (key_default keyed i d hi)) (subst (λ p. p < n) (sym (pairs.phrase i hi)) (below i 0 (omega (arith, hi, pairs.few_phrases))))

-- what is stored of a layout at first
pub new_stored : (base : Grounded) (beside : List GroundPhrase) (levels : WorldLevels) (count : ℕ) (numbers : List ℕ) (keyed : List Keyed) (places : List (Option ℕ)) (phrases_first keys_first : ℕ)
    → levels.spec ≡ base.spec → IsLayout base.spec levels.slots → All (PhraseFits (length (cells base.spec))) beside → count ≡ length base.phrases + length beside → All (λ p. p < count) numbers
    → IsPaired (free_from levels.slots 0) numbers keyed → phrases_first ≡ length beside → keys_first ≡ length keyed
    → ((phrase place : ℕ) → slice_get places phrase ≡ Some (Some place) → IsKeyOf keyed phrase place)
    → AreStored base (record { phrases = beside; first_phrases = phrases_first; first_keys = keys_first }) levels keyed places
new_stored base beside levels count numbers keyed places phrases_first keys_first spec layout fit many below pairs many_phrases many_keys places_are = record {
  same = spec;
  fit = fit;
  keyed_are = first_keyed base (record { phrases = beside; first_phrases = phrases_first; first_keys = keys_first }) levels keyed layout first
      (λ i hi. omega (arith, phrase i hi, many, length-append base.phrases beside));
  first = first;
  places_are = λ n place at. let is = places_are n place at in (omega (arith, is.there, many_keys), is);
}
  where
    phrase : (i : ℕ) → i < length keyed → (key_at keyed i).phrase < count
    phrase i hi = subst (λ p. p < count) (sym (pairs.phrase i hi)) (below i 0 (omega (arith, hi, pairs.few_phrases)))

    first : AreFirst base (record { phrases = beside; first_phrases = phrases_first; first_keys = keys_first }) (free_from levels.slots 0) keyed
    first = record {
      few = pairs.few;
      level = pairs.level;
      few_keys = omega (arith, many_keys);
      few_phrases = omega (arith, many_phrases);
      phrase = λ i hi. omega (arith, phrase i (omega (arith, hi, many_keys)), many, many_phrases);
    }

pub no_bounds : (base : Grounded) (beside : List GroundPhrase) (levels : WorldLevels) (keyed : List Keyed) (phrases_first keys_first : ℕ) → phrases_first ≡ length beside → keys_first ≡ length keyed
    → HasNoBounds (with_parts base (record { phrases = beside; first_phrases = phrases_first; first_keys = keys_first }) levels keyed)
no_bounds base beside levels keyed phrases_first keys_first many_phrases many_keys = λ i. record {
  base = base;
  beside = record { phrases = take_all phrases_first beside (omega (arith, many_phrases)) i; first_phrases = phrases_first; first_keys = keys_first };
  slots = levels.slots;
  keyed = take_all keys_first keyed (omega (arith, many_keys)) i;
}

-- One more comparison.

joined : (xs ys zs : List GroundPhrase) → (xs ++ ys) ++ zs ≡ xs ++ (ys ++ zs)
joined [] ys zs = refl
joined (x ∷ xs) ys zs = ap (λ rest. x ∷ rest) (joined xs ys zs)

abbrev pub with_phrase : Beside → GroundPhrase → Beside
with_phrase beside p = record { phrases = beside.phrases ++ (p ∷ []); first_phrases = beside.first_phrases; first_keys = beside.first_keys }

phrase_within : (base : Grounded) (beside : Beside) (p : GroundPhrase) (n : ℕ) → n < length (base.phrases ++ beside.phrases) → n < length (base.phrases ++ (beside.phrases ++ (p ∷ [])))
phrase_within base beside p n less =
    omega (arith, less, length-append base.phrases beside.phrases, length-append base.phrases (beside.phrases ++ (p ∷ [])), one_more beside.phrases p)

-- the phrases before it are what they were
phrase_before : (base : Grounded) (beside : Beside) (p : GroundPhrase) (n : ℕ) → n < length (base.phrases ++ beside.phrases)
    → slice_get (base.phrases ++ (beside.phrases ++ (p ∷ []))) n ≡ slice_get (base.phrases ++ beside.phrases) n
phrase_before base beside p n less =
    ap (λ (ps : List GroundPhrase). slice_get ps n) (sym (joined base.phrases beside.phrases (p ∷ []))) ∙ get_first (base.phrases ++ beside.phrases) (p ∷ []) n less

phrase_last : (base : Grounded) (beside : Beside) (p : GroundPhrase) → slice_get (base.phrases ++ (beside.phrases ++ (p ∷ []))) (length (base.phrases ++ beside.phrases)) ≡ Some p
phrase_last base beside p =
    ap (λ (ps : List GroundPhrase). slice_get ps (length (base.phrases ++ beside.phrases))) (sym (joined base.phrases beside.phrases (p ∷ []))) ∙ get_last (base.phrases ++ beside.phrases) p

pub phrase_stored : (base : Grounded) (beside : Beside) (levels : WorldLevels) (keyed : List Keyed) (places : List (Option ℕ)) (p : GroundPhrase) → AreStored base beside levels keyed places
    → PhraseFits (length (cells base.spec)) p → AreStored base (with_phrase beside p) levels keyed places
phrase_stored base beside levels keyed places p stored fits = record {
  same = stored.same;
  fit = All-push (PhraseFits (length (cells base.spec))) beside.phrases p stored.fit fits;
  keyed_are = first_keyed base (with_phrase beside p) levels keyed stored.keyed_are.layout first (λ i hi. phrase_within base beside p (key_at keyed i).phrase (stored.keyed_are.phrase i hi));
  first = first;
  places_are = stored.places_are;
}
  where
    first : AreFirst base (with_phrase beside p) (free_from levels.slots 0) keyed
    first = record {
      few = stored.first.few;
      level = stored.first.level;
      few_keys = stored.first.few_keys;
      few_phrases = omega (arith, stored.first.few_phrases, one_more beside.phrases p);
      phrase = stored.first.phrase;
    }

-- One more key.

pub key_stored : (base : Grounded) (beside : Beside) (levels : WorldLevels) (keyed : List Keyed) (places : List (Option ℕ)) (x : Keyed) → AreStored base beside levels keyed places
    → length keyed < length (free_from levels.slots 0) → x.level ≡ slice_index_or (free_from levels.slots 0) (length keyed) 0 → x.phrase < length (base.phrases ++ beside.phrases)
    → AreStored base beside levels (keyed ++ (x ∷ [])) places
key_stored base beside levels keyed places x stored there level phrase = record {
  same = stored.same;
  fit = stored.fit;
  keyed_are = first_keyed base beside levels (keyed ++ (x ∷ [])) stored.keyed_are.layout first
      (each_more (λ k i. k.phrase < length (base.phrases ++ beside.phrases)) keyed x stored.keyed_are.phrase phrase);
  first = first;
  places_are = λ n place at. let old = stored.places_are n place at in (
    old.0,
    record {
      there = omega (arith, old.1.there, long);
      of_phrase = ap (λ (k : Keyed). k.phrase) (index_before keyed (x ∷ []) place old.1.there) ∙ old.1.of_phrase;
    },
  );
}
  where
    long : length (keyed ++ (x ∷ [])) ≡ length keyed + 1
    long = one_more keyed x

    first : AreFirst base beside (free_from levels.slots 0) (keyed ++ (x ∷ []))
    first = record {
      few = omega (arith, long, there);
      level = each_more (λ k i. k.level ≡ slice_index_or (free_from levels.slots 0) i 0) keyed x stored.first.level level;
      few_keys = omega (arith, long, stored.first.few_keys);
      few_phrases = stored.first.few_phrases;
      phrase = λ i hi.
          subst (λ (k : Keyed). k.phrase < length base.phrases + beside.first_phrases) (sym (index_before keyed (x ∷ []) i (omega (arith, hi, stored.first.few_keys)))) (stored.first.phrase i hi);
    }

-- A level that stands for a comparison from now on.

-- the next free level, with the number after those of all phrases
pub next_is : (k : KeyedWorlds) (x : Keyed) → slice_get (free_from k.slots 0) (length k.keyed) ≡ Some x.level → x.phrase ≡ length k.base.phrases + length k.beside.phrases → IsNextKey k x
next_is k x at phrase = record {
  there = slice_get_within (free_from k.slots 0) (length k.keyed) x.level at;
  level = sym (get_or_from_slice_get (free_from k.slots 0) (length k.keyed) x.level 0 at);
  phrase = phrase ∙ sym (length-append k.base.phrases k.beside.phrases);
}

pub bound_stored : (base : Grounded) (beside : Beside) (levels : WorldLevels) (keyed : List Keyed) (places : List (Option ℕ)) (x : Keyed) (p : GroundPhrase)
    → AreStored base beside levels keyed places → PhraseFits (length (cells base.spec)) p → IsNextKey (with_parts base beside levels keyed) x
    → AreStored base (with_phrase beside p) levels (keyed ++ (x ∷ [])) places
bound_stored base beside levels keyed places x p stored fits next =
    key_stored base (with_phrase beside p) levels keyed places x (phrase_stored base beside levels keyed places p stored fits) next.there next.level
    (omega (arith, next.phrase, length-append base.phrases beside.phrases, length-append base.phrases (beside.phrases ++ (p ∷ [])), one_more beside.phrases p))

pub phrase_extends : (base : Grounded) (beside : Beside) (levels : WorldLevels) (keyed : List Keyed) (places : List (Option ℕ)) (p : GroundPhrase) → AreStored base beside levels keyed places
    → Extends (with_parts base beside levels keyed) (with_parts base (with_phrase beside p) levels keyed)
phrase_extends base beside levels keyed places p stored = record {
  base = refl;
  slots = refl;
  many = omega arith;
  key = λ i hi. refl;
  phrase = λ i hi. phrase_before base beside p (key_at keyed i).phrase (stored.keyed_are.phrase i hi);
}

pub bound_extends : (base : Grounded) (beside : Beside) (levels : WorldLevels) (keyed : List Keyed) (places : List (Option ℕ)) (x : Keyed) (p : GroundPhrase)
    → AreStored base beside levels keyed places → Extends (with_parts base beside levels keyed) (with_parts base (with_phrase beside p) levels (keyed ++ (x ∷ [])))
bound_extends base beside levels keyed places x p stored = record {
  base = refl;
  slots = refl;
  many = omega (arith, one_more keyed x);
  key = λ i hi. index_before keyed (x ∷ []) i hi;
  phrase = λ i hi. phrase_before base beside p (key_at keyed i).phrase (stored.keyed_are.phrase i hi);
}

pub extends_itself : (k : KeyedWorlds) → Extends k k
extends_itself k = record { base = refl; slots = refl; many = omega arith; key = λ i hi. refl; phrase = λ i hi. refl }

pub phrase_unbounded : (base : Grounded) (beside : Beside) (levels : WorldLevels) (keyed : List Keyed) (places : List (Option ℕ)) (p : GroundPhrase) → AreStored base beside levels keyed places
    → unbounded (with_parts base (with_phrase beside p) levels keyed) ≡ unbounded (with_parts base beside levels keyed)
phrase_unbounded base beside levels keyed places p stored = λ i. record {
  base = base;
  beside = record { phrases = take_before beside.first_phrases beside.phrases (p ∷ []) stored.first.few_phrases i; first_phrases = beside.first_phrases; first_keys = beside.first_keys };
  slots = levels.slots;
  keyed = take beside.first_keys keyed;
}

pub bound_unbounded : (base : Grounded) (beside : Beside) (levels : WorldLevels) (keyed : List Keyed) (places : List (Option ℕ)) (x : Keyed) (p : GroundPhrase)
    → AreStored base beside levels keyed places → unbounded (with_parts base (with_phrase beside p) levels (keyed ++ (x ∷ []))) ≡ unbounded (with_parts base beside levels keyed)
bound_unbounded base beside levels keyed places x p stored = λ i. record {
  base = base;
  beside = record { phrases = take_before beside.first_phrases beside.phrases (p ∷ []) stored.first.few_phrases i; first_phrases = beside.first_phrases; first_keys = beside.first_keys };
  slots = levels.slots;
  keyed = take_before beside.first_keys keyed (x ∷ []) stored.first.few_keys i;
}

pub bound_stands : (base : Grounded) (beside : Beside) (levels : WorldLevels) (keyed : List Keyed) (x : Keyed) (p : GroundPhrase) → IsNextKey (with_parts base beside levels keyed) x
    → StandsFor (with_parts base (with_phrase beside p) levels (keyed ++ (x ∷ []))) p x.level
bound_stands base beside levels keyed x p next = record {
  place = length keyed;
  there = omega (arith, one_more keyed x);
  own = ap (λ (k : Keyed). k.level) (index_last keyed x);
  is = ap (λ (k : Keyed). slice_get (base.phrases ++ (beside.phrases ++ (p ∷ []))) k.phrase) (index_last keyed x)
      ∙ ap (slice_get (base.phrases ++ (beside.phrases ++ (p ∷ [])))) next.phrase
      ∙ phrase_last base beside p;
}

-- the key of a phrase stands for it
pub key_stands : (k : KeyedWorlds) (keys : List Keyed) (i : ℕ) (x : Keyed) (p q : GroundPhrase) → keys ≡ k.keyed → i < length keys → x ≡ key_at keys i → slice_get (phrases_of k) x.phrase ≡ Some p → p ≡ q
    → StandsFor k q x.level
key_stands k keys i x p q same less at phrase equal = record {
  place = i;
  there = subst (λ (xs : List Keyed). i < length xs) same less;
  own = ap (λ (y : Keyed). y.level) (sym is);
  is = ap (λ (y : Keyed). slice_get (phrases_of k) y.phrase) (sym is) ∙ phrase ∙ ap (λ (r : GroundPhrase). Some r) equal;
}
  where
    is : x ≡ key_at k.keyed i
    is = at ∙ ap (λ (xs : List Keyed). key_at xs i) same

-- Bounds taken back.

abbrev pub fewer : Beside → Beside
fewer beside = record { phrases = take beside.first_phrases beside.phrases; first_phrases = beside.first_phrases; first_keys = beside.first_keys }

pub without_stored : (base : Grounded) (beside : Beside) (levels : WorldLevels) (keyed : List Keyed) (places : List (Option ℕ)) → AreStored base beside levels keyed places
    → AreStored base (fewer beside) levels (take beside.first_keys keyed) places
without_stored base beside levels keyed places stored = record {
  same = stored.same;
  fit = All-take (PhraseFits (length (cells base.spec))) beside.first_phrases beside.phrases stored.fit;
  keyed_are = first_keyed base (fewer beside) levels (take beside.first_keys keyed) stored.keyed_are.layout first phrase;
  first = first;
  places_are = λ n place at. let old = stored.places_are n place at in (
    old.0,
    record {
      there = omega (arith, old.0, keys);
      of_phrase = ap (λ (k : Keyed). k.phrase) (key_take beside.first_keys keyed place old.0) ∙ old.1.of_phrase;
    },
  );
}
  where
    keys : length (take beside.first_keys keyed) ≡ beside.first_keys
    keys = length-take-le beside.first_keys keyed stored.first.few_keys

    comparisons : length (take beside.first_phrases beside.phrases) ≡ beside.first_phrases
    comparisons = length-take-le beside.first_phrases beside.phrases stored.first.few_phrases

    first : AreFirst base (fewer beside) (free_from levels.slots 0) (take beside.first_keys keyed)
    first = record {
      few = omega (arith, keys, stored.first.few, stored.first.few_keys);
      level = λ i hi. ap (λ (k : Keyed). k.level) (key_take beside.first_keys keyed i (omega (arith, hi, keys))) ∙ stored.first.level i (omega (arith, hi, keys, stored.first.few_keys));
      few_keys = omega (arith, keys);
      few_phrases = omega (arith, comparisons);
      phrase = λ i hi. subst (λ (k : Keyed). k.phrase < length base.phrases + beside.first_phrases) (sym (key_take beside.first_keys keyed i hi)) (stored.first.phrase i hi);
    }

    phrase : (i : ℕ) → i < length (take beside.first_keys keyed) → (key_at (take beside.first_keys keyed) i).phrase < length (base.phrases ++ take beside.first_phrases beside.phrases)
    phrase i hi = omega (arith, first.phrase i (omega (arith, hi, keys)), comparisons, length-append base.phrases (take beside.first_phrases beside.phrases))

-- Further keys after these.

pub extends_on : (a b c : KeyedWorlds) → Extends a b → Extends b c → Extends a c
extends_on a b c ab bc = record {
  base = bc.base ∙ ab.base;
  slots = bc.slots ∙ ab.slots;
  many = omega (arith, ab.many, bc.many);
  key = λ i less. bc.key i (omega (arith, less, ab.many)) ∙ ab.key i less;
  phrase = λ i less.
      subst (λ (x : Keyed). slice_get (phrases_of c) x.phrase ≡ slice_get (phrases_of b) x.phrase) (ab.key i less) (bc.phrase i (omega (arith, less, ab.many)))
      ∙ ab.phrase i less;
}

pub unbounded_again : (k : KeyedWorlds) → unbounded (unbounded k) ≡ unbounded k
unbounded_again k = λ i. record {
  base = k.base;
  beside = record { phrases = twice k.beside.first_phrases k.beside.phrases i; first_phrases = k.beside.first_phrases; first_keys = k.beside.first_keys };
  slots = k.slots;
  keyed = twice k.beside.first_keys k.keyed i;
}

-- the comparison of each key is what it was
pub function_before : (k more : KeyedWorlds) → Extends k more → (i : ℕ) → i < length k.keyed → (values : ℕ → Bool) → (keys_of more).function i values ≡ (keys_of k).function i values
function_before k more extends i less values =
    ap (λ (x : Keyed). comparison (world_at more values) (slice_get (phrases_of more) x.phrase)) (extends.key i less)
    ∙ ap (comparison (world_at more values)) (extends.phrase i less)
    ∙ (λ j. comparison (world_of (extends.base j).spec (extends.slots j) values) (slice_get (phrases_of k) (key_at k.keyed i).phrase))

-- values that are lawful where there are further keys are lawful without these
pub lawful_before : (k more : KeyedWorlds) → Extends k more → (values : ℕ → Bool) → Lawful more values → Lawful k values
lawful_before k more extends values lawful = λ i less.
    ap (λ (x : Keyed). values x.level) (sym (extends.key i less))
    ∙ lawful i (omega (arith, less, extends.many))
    ∙ function_before k more extends i less values

-- so what is told is told also with further keys
pub tells_more : (d : Diagram) (k more : KeyedWorlds) (truth : World → Bool) (r : ℕ) → Extends k more → Tells d k truth r → Tells d more truth r
tells_more d k more truth r extends told = record {
  is_ref = told.is_ref;
  means = λ values lawful. told.means values (lawful_before k more extends values lawful) ∙ (λ j. truth (world_of (sym extends.base j).spec (sym extends.slots j) values));
}
