-- Numbers stay where they stand, and stand for the same sums when more is numbered.
use Rattle.std.proofs.Common.{◌≡◌, ℕ, zero, suc, nat_eq, Bool, true, false, cond, not, List, [], ◌∷◌, ◌++◌, map, length, Option, Some, None, slice_get, if◌then◌else◌, refl, sym, ap, ◌∙◌, subst, append_assoc}
use Rattle.std.specs.Cmp.Lexicographic.{pointwise, same_text}
use Rattle.std.specs.Global.{Vec}
use Rattle.std.specs.List.{list_any, AllByRecursion, IsDistinct}
use Rattle.std.specs.Option.{option_map}
use Rattle.std.proofs.lemmas.List.{append-nil, map-append}
use Rattle.std.proofs.lemmas.Option.{slice_get-map}
use Rattle.std.proofs.lemmas.Map.Keys.{IsDistinct-cons, IsDistinct-head, IsDistinct-tail}
use Rattle.indexmap.specs.IndexSet.{insert_key}
use Rattle.rsml_syntax.specs.declared.syntax.Relation.{Relation}
use Rattle.rsml_syntax.specs.limits.Comparisons.{GroundSum}
use Rattle.rsml_limits.specs.declared.keys.class.Class.{Class}
use Rattle.rsml_limits.specs.keys.Classes.{class_of, tight, linear}
use Rattle.rsml_limits.specs.keys.Numbered.{Ordered, ordered, Numbered, Extends, Grows, AreNumbers, IsList}

-- PLACES

pub push_stays : {A : Type 0} (xs ys : List A) → Extends xs (xs ++ ys)
push_stays [] ys place x h = absurd (no_item h)
  where
    no_item : None ≡ Some x → ⊥
    no_item e = cc
push_stays (z ∷ xs) ys zero x h = h
push_stays (z ∷ xs) ys (suc place) x h = push_stays xs ys place x h

pub push_at : {A : Type 0} (xs : List A) (x : A) → slice_get (xs ++ x ∷ []) (length xs) ≡ Some x
push_at [] x = refl
push_at (y ∷ xs) x = push_at xs x

-- a key that is put in leaves what the keys stand for where it is
pub insert_stays : {A B : Type 0} (eq : A → A → Bool) (f : A → B) (keys : List A) (key : A) → Extends (map f keys) (map f (insert_key eq keys key))
insert_stays eq f keys key = by (list_any (eq key) keys)
  where
    by : (t : Bool) → Extends (map f keys) (map f (if t then keys else keys ++ key ∷ []))
    by true = λ place x h. h
    by false = subst (Extends (map f keys)) (sym (map-append f keys (key ∷ []))) (push_stays (map f keys) (map f (key ∷ [])))

-- keys that differ stand for different ones
pub seen_differ : {A B : Type 0} (eq : A → A → Bool) (same : B → B → Bool) (f : A → B) → ((a b : A) → eq a b ≡ same (f a) (f b)) → (keys : List A) → IsDistinct eq keys → IsDistinct same (map f keys)
unfolding IsDistinct
seen_differ eq same f alike [] h = tt
seen_differ {A = A} eq same f alike (k ∷ ks) h =
    IsDistinct-cons same (f k) (map f ks) (others ks (IsDistinct-head eq k ks h)) (seen_differ eq same f alike ks (IsDistinct-tail eq k ks h))
  where
    others : (xs : List A) → AllByRecursion (λ y. eq k y ≡ false) xs → AllByRecursion (λ y. same (f k) y ≡ false) (map f xs)
    others [] h = tt
    others (x ∷ xs) h = (sym (alike k x) ∙ h.0, others xs h.1)

-- the place of a key has what an equal key stands for
pub key_at : {A B : Type 0} (eq : A → A → Bool) (f : A → B) → ((a b : A) → eq a b ≡ true → f a ≡ f b) → (keys : List A) (place : ℕ) (key : A) →
    (k : A) × (slice_get keys place ≡ Some k) × (eq key k ≡ true) → slice_get (map f keys) place ≡ Some (f key)
key_at eq f same keys place key at =
    slice_get-map f keys place ∙ ap (option_map f) at.1 ∙ ap Some (sym (same key at.0 at.2))

-- NUMBERS

-- a sum with a relation, where it has a number
abbrev pub stands : Relation → GroundSum → Option Ordered
stands relation terms = Some (ordered relation terms)

pub numbers_stay : (old new : List Ordered) → Extends old new → (numbers : List ℕ) (relation : Relation) (rest these : List GroundSum) →
    map (slice_get old) numbers ++ map (stands relation) rest ≡ map (stands relation) these →
    map (slice_get new) numbers ++ map (stands relation) rest ≡ map (stands relation) these
numbers_stay old new grows [] relation rest these h = h
numbers_stay old new grows (n ∷ ns) relation rest [] h = cc
numbers_stay old new grows (n ∷ ns) relation rest (x ∷ xs) h =
    let first : slice_get old n ≡ stands relation x = cc in
    let others : map (slice_get old) ns ++ map (stands relation) rest ≡ map (stands relation) xs = cc in
    λ i. grows n (ordered relation x) first i ∷ numbers_stay old new grows ns relation rest xs others i

-- one more sum has a number
pub numbers_turn : (old new : List Ordered) → Extends old new → (numbers : List ℕ) (number : ℕ) (relation : Relation) (x : GroundSum) (rest these : List GroundSum) →
    slice_get new number ≡ Some (ordered relation x) →
    map (slice_get old) numbers ++ map (stands relation) (x ∷ rest) ≡ map (stands relation) these →
    map (slice_get new) (numbers ++ number ∷ []) ++ map (stands relation) rest ≡ map (stands relation) these
numbers_turn old new grows numbers number relation x rest these at h =
    ap (λ ys. ys ++ map (stands relation) rest) (map-append (slice_get new) numbers (number ∷ []))
    ∙ append_assoc (map (slice_get new) numbers) (slice_get new number ∷ []) (map (stands relation) rest)
    ∙ ap (λ o. map (slice_get new) numbers ++ o ∷ map (stands relation) rest) at
    ∙ numbers_stay old new grows numbers relation (x ∷ rest) these h

-- all have numbers
pub numbers_end : (sums : List Ordered) (numbers : List ℕ) (relation : Relation) (these : List GroundSum) →
    map (slice_get sums) numbers ++ [] ≡ map (stands relation) these → AreNumbers sums numbers relation these
numbers_end sums numbers relation these h = sym (append-nil (map (slice_get sums) numbers)) ∙ h

-- GROWTH

pub list_stays : (old new : Numbered) (place : ℕ) (relation : Relation) (these : List GroundSum) → Grows old new → IsList old place relation these → IsList new place relation these
list_stays old new place relation these grows l = record {
  numbers = l.numbers;
  at = grows.lists place l.numbers l.at;
  are = numbers_end new.sums l.numbers relation these (numbers_stay old.sums new.sums grows.sums l.numbers relation [] these (append-nil (map (slice_get old.sums) l.numbers) ∙ l.are));
}

pub linear_first : (class : Class) (x : GroundSum) (xs : List GroundSum) → tight (class_of x) class ≡ false → linear class (x ∷ xs) ≡ x ∷ linear class xs
linear_first class x xs h = ap (λ b. cond (not b) (x ∷ linear class xs) (linear class xs)) h

-- LISTS

abbrev pub same_list : Vec ℕ → Vec ℕ → Bool
same_list a b = pointwise nat_eq a.items b.items

-- a list that is put in
pub put_list : (sums : List Ordered) (lists : List (Vec ℕ)) (place : ℕ) (list : Vec ℕ) (relation : Relation) (these : List GroundSum) →
    (l : Vec ℕ) × (slice_get lists place ≡ Some l) × (same_list list l ≡ true) → AreNumbers sums list.items relation these →
    IsList (record { sums = sums; lists = map (λ l. l.items) lists }) place relation these
put_list sums lists place list relation these at are = record {
  numbers = list.items;
  at = key_at same_list (λ l. l.items) (λ a b h. same_text a.items b.items (sym h)) lists place list at;
  are = are;
}

pub put_grows : (sums more : List Ordered) (lists new : List (Vec ℕ)) (list : Vec ℕ) → Extends sums more → new ≡ insert_key same_list lists list →
    Grows (record { sums = sums; lists = map (λ l. l.items) lists }) (record { sums = more; lists = map (λ l. l.items) new })
put_grows sums more lists new list grows is = record {
  sums = grows;
  lists = subst (λ (ls : List (Vec ℕ)). Extends (map (λ l. l.items) lists) (map (λ l. l.items) ls)) (sym is) (insert_stays same_list (λ l. l.items) lists list);
}
