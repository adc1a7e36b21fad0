-- How many items a list has without repeats: it depends on its members alone, and groups that differ are counted apart.
use Rattle.std.proofs.Common.{◌≡◌, ℕ, ◌+◌, Bool, true, false, cond, not, ◌&&◌, ◌||◌, List, [], ◌∷◌, ◌++◌, map, filter, length, if◌then◌else◌, refl, sym, ap, ◌∙◌, arith, true≢false}
use Rattle.std.specs.Prelude.{flat_map}
use Rattle.std.specs.List.{list_any, AllByRecursion, IsDistinct}
use Rattle.std.specs.Cmp.{IsEquivalence}
use Rattle.std.proofs.lemmas.List.Elements.{filter-append}
use Rattle.std.proofs.lemmas.List.Folds.{list_any-append}
use Rattle.std.proofs.lemmas.Map.Keys.{IsDistinct-cons, IsDistinct-head, IsDistinct-tail}
use Rattle.std.proofs.lemmas.Map.Made.{length-from_same_keys, is_member-filter}
use Rattle.std.proofs.lemmas.Map.Steps.{list_any_congr}
use Rattle.rsml_base.specs.Counting.{distinct, adds}

-- what is added up alike
pub adds_same : {A : Type 0} (f g : A → ℕ) → ((x : A) → f x ≡ g x) → (xs : List A) → adds f xs ≡ adds g xs
adds_same f g h [] = refl
adds_same f g h (x ∷ xs) = λ i. h x i + adds_same f g h xs i

-- the items of items, where they pass a test
pub filter_flat_map : {A B : Type 0} (test : B → Bool) (f : A → List B) (xs : List A) → filter test (flat_map f xs) ≡ flat_map (λ x. filter test (f x)) xs
filter_flat_map test f [] = refl
filter_flat_map test f (x ∷ xs) = filter-append test (f x) (flat_map f xs) ∙ ap (λ ys. filter test (f x) ++ ys) (filter_flat_map test f xs)

-- no item passes the test
none_passes : {A : Type 0} (test : A → Bool) (xs : List A) → list_any test xs ≡ false → AllByRecursion (λ x. test x ≡ false) xs
none_passes test [] h = tt
none_passes test (x ∷ xs) h = by (test x) refl h (none_passes test xs)
  where
    by : (b : Bool) → test x ≡ b → (b || list_any test xs) ≡ false → (list_any test xs ≡ false → AllByRecursion (λ y. test y ≡ false) xs) → AllByRecursion (λ y. test y ≡ false) (x ∷ xs)
    by true e k rest = absurd (true≢false k)
    by false e k rest = (e, rest k)

and_false : (b : Bool) → (b && false) ≡ false
and_false true = refl
and_false false = refl

-- 1 for what is not there yet
abbrev new : Bool → ℕ
new there = if there then 0 else 1

module _ {A : Type 0} (eq : A → A → Bool) where
  distinct_first : (x : A) (xs : List A) → length (distinct eq (x ∷ xs)) ≡ length (distinct eq xs) + new (list_any (eq x) xs)
  distinct_first x xs = by (list_any (eq x) xs)
    where
      by : (b : Bool) → length (if b then distinct eq xs else x ∷ distinct eq xs) ≡ length (distinct eq xs) + new b
      by true = omega arith
      by false = omega arith

  -- lists without a common item are counted apart
  pub many_apart : (xs ys : List A) → AllByRecursion (λ x. list_any (eq x) ys ≡ false) xs → length (distinct eq (xs ++ ys)) ≡ length (distinct eq xs) + length (distinct eq ys)
  many_apart [] ys h = omega arith
  many_apart (x ∷ xs) ys h =
      let own : list_any (eq x) (xs ++ ys) ≡ list_any (eq x) xs = list_any-append (eq x) xs ys ∙ ap (λ b. list_any (eq x) xs || b) h.0 ∙ or_false (list_any (eq x) xs) in
      omega (arith, distinct_first x (xs ++ ys), ap new own, many_apart xs ys h.1, distinct_first x xs)
    where
      or_false : (b : Bool) → (b || false) ≡ b
      or_false true = refl
      or_false false = refl

  -- items that are seen through a function which tells the same ones apart
  pub many_mapped : {B : Type 0} (same : B → B → Bool) (f : A → B) → ((a b : A) → same (f a) (f b) ≡ eq a b) → (xs : List A) → length (distinct same (map f xs)) ≡ length (distinct eq xs)
  many_mapped same f alike xs = ap length (mapped xs) ∙ many (distinct eq xs)
    where
      any_mapped : (x : A) (ys : List A) → list_any (same (f x)) (map f ys) ≡ list_any (eq x) ys
      any_mapped x [] = refl
      any_mapped x (y ∷ ys) = λ i. alike x y i || any_mapped x ys i

      if_mapped : (b : Bool) (x : A) (ys : List A) → (if b then map f ys else f x ∷ map f ys) ≡ map f (if b then ys else x ∷ ys)
      if_mapped true x ys = refl
      if_mapped false x ys = refl

      mapped : (ys : List A) → distinct same (map f ys) ≡ map f (distinct eq ys)
      mapped [] = refl
      mapped (y ∷ ys) = (λ i. if any_mapped y ys i then mapped ys i else f y ∷ mapped ys i) ∙ if_mapped (list_any (eq y) ys) y (distinct eq ys)

      many : (ys : List A) → length (map f ys) ≡ length ys
      many [] = refl
      many (y ∷ ys) = omega (arith, many ys)

module _ {A : Type 0} (eq : A → A → Bool) (laws : IsEquivalence eq) where
  -- the members stay without repeats
  pub any_distinct : (q : A) (xs : List A) → list_any (eq q) (distinct eq xs) ≡ list_any (eq q) xs
  any_distinct q [] = refl
  any_distinct q (x ∷ xs) = by (list_any (eq x) xs) refl (any_distinct q xs)
    where
      again : (b : Bool) → eq q x ≡ b → list_any (eq x) xs ≡ true → list_any (eq q) xs ≡ (b || list_any (eq q) xs)
      again true e h = list_any_congr laws q x xs e ∙ h
      again false e h = refl

      by : (b : Bool) → list_any (eq x) xs ≡ b → list_any (eq q) (distinct eq xs) ≡ list_any (eq q) xs → list_any (eq q) (if b then distinct eq xs else x ∷ distinct eq xs) ≡ (eq q x || list_any (eq q) xs)
      by true e rest = rest ∙ again (eq q x) refl e
      by false e rest = ap (λ b. eq q x || b) rest

  are_distinct : (xs : List A) → IsDistinct eq (distinct eq xs)
  unfolding IsDistinct
  are_distinct [] = tt
  are_distinct (x ∷ xs) = by (list_any (eq x) xs) refl (are_distinct xs)
    where
      by : (b : Bool) → list_any (eq x) xs ≡ b → IsDistinct eq (distinct eq xs) → IsDistinct eq (if b then distinct eq xs else x ∷ distinct eq xs)
      by true e rest = rest
      by false e rest = IsDistinct-cons eq x (distinct eq xs) (none_passes (eq x) (distinct eq xs) (any_distinct x xs ∙ e)) rest

  -- keys that differ, as those of a set, are as many as the items of a list with the same members
  pub many_keys : (keys xs : List A) → IsDistinct eq keys → ((q : A) → list_any (eq q) keys ≡ list_any (eq q) xs) → length keys ≡ length (distinct eq xs)
  many_keys keys xs differ members = length-from_same_keys laws keys (distinct eq xs) differ (are_distinct xs) (λ q. members q ∙ sym (any_distinct q xs))

  -- lists with the same members count alike
  pub many_alike : (xs ys : List A) → ((q : A) → list_any (eq q) xs ≡ list_any (eq q) ys) → length (distinct eq xs) ≡ length (distinct eq ys)
  many_alike xs ys members = many_keys (distinct eq xs) ys (are_distinct xs) (λ q. any_distinct q xs ∙ members q)

  -- what holds of the members holds of each item
  all_members : (P : A → Type 0) (xs : List A) → ((q : A) → list_any (eq q) xs ≡ true → P q) → AllByRecursion P xs
  all_members P [] h = tt
  all_members P (x ∷ xs) h = (h x (ap (λ b. b || list_any (eq x) xs) (laws.refl x)), all_members P xs (λ q e. h q (ap (λ b. eq q x || b) e ∙ or_true (eq q x))))
    where
      or_true : (b : Bool) → (b || true) ≡ true
      or_true true = refl
      or_true false = refl

  -- one list after another: of the second, those count that are not in the first
  pub many_beside : (xs ys : List A) → length (distinct eq (xs ++ ys)) ≡ length (distinct eq xs) + length (distinct eq (filter (λ y. not (list_any (eq y) xs)) ys))
  many_beside xs ys =
      let others = filter (λ y. not (list_any (eq y) xs)) ys in
      many_alike (xs ++ ys) (xs ++ others) (λ q. list_any-append (eq q) xs ys ∙ joined (list_any (eq q) xs) (list_any (eq q) ys) ∙ ap (λ b. list_any (eq q) xs || b) (sym (other q)) ∙ sym (list_any-append (eq q) xs others))
      ∙ many_apart eq xs others (all_members (λ x. list_any (eq x) others ≡ false) xs (λ q e. other q ∙ ap (λ b. list_any (eq q) ys && not b) e ∙ and_false (list_any (eq q) ys)))
    where
      other : (q : A) → list_any (eq q) (filter (λ y. not (list_any (eq y) xs)) ys) ≡ (list_any (eq q) ys && not (list_any (eq q) xs))
      other q = is_member-filter laws (λ y. not (list_any (eq y) xs)) q (λ x e. ap not (list_any_congr laws q x xs e)) ys

      joined : (a b : Bool) → (a || b) ≡ (a || (b && not a))
      joined true b = refl
      joined false true = refl
      joined false false = refl

-- PAIRS BY GROUPS: a first part, and second parts that stand with it

module _ {A B P : Type 0} (eqA : A → A → Bool) (eqB : B → B → Bool) (same : P → P → Bool) (pair : A → B → P)
    (alike : (a c : A) (b d : B) → same (pair a b) (pair c d) ≡ (eqA a c && eqB b d)) where
  -- whether a pair is among those of one first part
  pub any_pairs : (a c : A) (b : B) (ns : List B) → list_any (same (pair a b)) (map (pair c) ns) ≡ (eqA a c && list_any (eqB b) ns)
  any_pairs a c b [] = sym (and_false (eqA a c))
  any_pairs a c b (n ∷ ns) = (λ i. alike a c b n i || any_pairs a c b ns i) ∙ either (eqA a c) (eqB b n) (list_any (eqB b) ns)
    where
      either : (t x y : Bool) → ((t && x) || (t && y)) ≡ (t && (x || y))
      either true x y = refl
      either false x y = refl

  -- pairs of one first part count as their second parts
  pub many_pairs : (a : A) → eqA a a ≡ true → (ns : List B) → length (distinct same (map (pair a) ns)) ≡ length (distinct eqB ns)
  many_pairs a itself ns = many_mapped eqB same (pair a) (λ b d. alike a a b d ∙ ap (λ t. t && eqB b d) itself) ns

  module _ {G : Type 0} (fixed : G → A) (items : G → List B) where
    -- the pairs of groups
    abbrev pub grouped : List G → List P
    grouped groups = flat_map (λ g. map (pair (fixed g)) (items g)) groups

    -- whether a pair is among those of groups
    pub any_grouped : (a : A) (b : B) (gs : List G) → list_any (same (pair a b)) (grouped gs) ≡ list_any (eqB b) (flat_map items (filter (λ g. eqA a (fixed g)) gs))
    any_grouped a b [] = refl
    any_grouped a b (g ∷ gs) =
        list_any-append (same (pair a b)) (map (pair (fixed g)) (items g)) (grouped gs)
        ∙ (λ i. any_pairs a (fixed g) b (items g) i || any_grouped a b gs i)
        ∙ by (eqA a (fixed g))
      where
        by : (t : Bool) → ((t && list_any (eqB b) (items g)) || list_any (eqB b) (flat_map items (filter (λ h. eqA a (fixed h)) gs)))
            ≡ list_any (eqB b) (flat_map items (cond t (g ∷ filter (λ h. eqA a (fixed h)) gs) (filter (λ h. eqA a (fixed h)) gs)))
        by true = sym (list_any-append (eqB b) (items g) (flat_map items (filter (λ h. eqA a (fixed h)) gs)))
        by false = refl

    -- no pair of a first part that no group has
    none_grouped : (a : A) (b : B) (gs : List G) → AllByRecursion (λ y. eqA a y ≡ false) (map fixed gs) → list_any (same (pair a b)) (grouped gs) ≡ false
    none_grouped a b [] h = refl
    none_grouped a b (g ∷ gs) h =
        list_any-append (same (pair a b)) (map (pair (fixed g)) (items g)) (grouped gs)
        ∙ (λ i. any_pairs a (fixed g) b (items g) i || none_grouped a b gs h.1 i)
        ∙ ap (λ t. (t && list_any (eqB b) (items g)) || false) h.0

    each_apart : (a : A) (rest : List P) → ((b : B) → list_any (same (pair a b)) rest ≡ false) → (ns : List B) → AllByRecursion (λ p. list_any (same p) rest ≡ false) (map (pair a) ns)
    each_apart a rest h [] = tt
    each_apart a rest h (n ∷ ns) = (h n, each_apart a rest h ns)

    -- the pairs of groups whose first parts differ: as many as the groups have together
    pub many_grouped : ((a : A) → eqA a a ≡ true) → (gs : List G) → IsDistinct eqA (map fixed gs) → length (distinct same (grouped gs)) ≡ adds (λ g. length (distinct eqB (items g))) gs
    many_grouped itself [] h = refl
    many_grouped itself (g ∷ gs) h =
        many_apart same (map (pair (fixed g)) (items g)) (grouped gs)
        (each_apart (fixed g) (grouped gs) (λ b. none_grouped (fixed g) b gs (IsDistinct-head eqA (fixed g) (map fixed gs) h)) (items g))
        ∙ (λ i. many_pairs (fixed g) (itself (fixed g)) (items g) i + many_grouped itself gs (IsDistinct-tail eqA (fixed g) (map fixed gs) h) i)

    -- the pairs of groups that pass a test
    pub filter_grouped : (test : P → Bool) (gs : List G) → filter test (grouped gs) ≡ flat_map (λ g. map (pair (fixed g)) (filter (λ n. test (pair (fixed g) n)) (items g))) gs
    filter_grouped test [] = refl
    filter_grouped test (g ∷ gs) = filter-append test (map (pair (fixed g)) (items g)) (grouped gs) ∙ (λ i. filter_mapped (items g) i ++ filter_grouped test gs i)
      where
        by : (t : Bool) (n : B) (ns : List B) → cond t (pair (fixed g) n ∷ map (pair (fixed g)) ns) (map (pair (fixed g)) ns) ≡ map (pair (fixed g)) (cond t (n ∷ ns) ns)
        by true n ns = refl
        by false n ns = refl

        filter_mapped : (ns : List B) → filter test (map (pair (fixed g)) ns) ≡ map (pair (fixed g)) (filter (λ n. test (pair (fixed g) n)) ns)
        filter_mapped [] = refl
        filter_mapped (n ∷ ns) = (λ i. cond (test (pair (fixed g) n)) (pair (fixed g) n ∷ filter_mapped ns i) (filter_mapped ns i)) ∙ by (test (pair (fixed g) n)) n (filter (λ m. test (pair (fixed g) m)) ns)
