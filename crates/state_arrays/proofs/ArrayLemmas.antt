-- The places of instances that stand in arrays one behind another.
use Rattle.std.proofs.Common.{◌≡◌, ℕ, suc, ◌+◌, ◌≤◌, ◌<◌, Bool, true, false, cond, ◌&&◌, ◌||◌, List, [], ◌∷◌, ◌++◌, map, length, Option, Some, None, is_some, nat_eq, refl, sym, ap, ◌∙◌, arith, true≢false, append-nil, append_assoc, length-append, IfSome}
use Rattle.std.specs.Option.{option_map, option_and_then}
use Rattle.std.specs.Borrow.{Bor}
use Rattle.std.specs.Cmp.Lexicographic.{nat_list_eq_equiv}
use Rattle.std.specs.List.{position_from}
use Rattle.rsml_syntax.specs.text.Names.{Name, same}
use Rattle.rsml_meaning.specs.Words.{Instance, at, same_instance, place_in}
use Rattle.state_arrays.specs.Ranges.{range, place_from}
use Rattle.rsml_meaning.proofs.Same.{name_same}
use Rattle.state_arrays.specs.declared.array.Array.{Array}
use Rattle.indexmap.specs.IndexMap.{IndexMap, get_by, insert_entry}
use Rattle.indexmap.proofs.CallerLemmas.{insert_entry-new}
use Rattle.state_arrays.specs.Arrays.{has_name, array_instances, instances_of, found, AreFound}
use Rattle.state_arrays.proofs.RangeLemmas.{index_found}

-- a list that starts p places later has each item p places later
pub from_later : {A : Type 0} (t : A → Bool) (p q : ℕ) (xs : List A) → position_from t (p + q) xs ≡ option_map (λ n. p + n) (position_from t q xs)
from_later t p q [] = refl
from_later t p q (x ∷ xs) = by (t x) (ap (λ (n : ℕ). position_from t n xs) (omega arith) ∙ from_later t p (q + 1) xs)
  where
    by : (b : Bool) → position_from t (p + q + 1) xs ≡ option_map (λ n. p + n) (position_from t (q + 1) xs)
        → cond b (Some (p + q)) (position_from t (p + q + 1) xs) ≡ option_map (λ n. p + n) (cond b (Some q) (position_from t (q + 1) xs))
    by true h = refl
    by false h = h

-- a place in two lists is one in the first, or else one in the second
pub place_append : {A : Type 0} (t : A → Bool) (p : ℕ) (xs ys : List A) → position_from t p (xs ++ ys) ≡ cond (is_some (position_from t p xs)) (position_from t p xs) (position_from t (p + length xs) ys)
place_append t p [] ys = ap (λ (n : ℕ). position_from t n ys) (omega arith)
place_append t p (x ∷ xs) ys = by (t x) (place_append t (p + 1) xs ys ∙ ap (λ (n : ℕ). cond (is_some (position_from t (p + 1) xs)) (position_from t (p + 1) xs) (position_from t n ys)) (omega arith))
  where
    by : (b : Bool) → position_from t (p + 1) (xs ++ ys) ≡ cond (is_some (position_from t (p + 1) xs)) (position_from t (p + 1) xs) (position_from t (p + length (x ∷ xs)) ys)
        → cond b (Some p) (position_from t (p + 1) (xs ++ ys)) ≡ cond (is_some (cond b (Some p) (position_from t (p + 1) xs))) (cond b (Some p) (position_from t (p + 1) xs)) (position_from t (p + length (x ∷ xs)) ys)
    by true h = refl
    by false h = h

-- the instances of one name: those of another have no place there
pub place_in_one : (k name : Name) (i p : ℕ) (is : List ℕ) → position_from (same_instance (at k i)) p (map (at name) is) ≡ cond (same k name) (position_from (nat_eq i) p is) None
place_in_one k name i p [] = by (same k name)
  where
    none : Option ℕ
    none = None

    by : (b : Bool) → none ≡ cond b none none
    by true = refl
    by false = refl
place_in_one k name i p (j ∷ js) = by (same k name) (nat_eq i j) (place_in_one k name i (p + 1) js)
  where
    by : (b c : Bool) → position_from (same_instance (at k i)) (p + 1) (map (at name) js) ≡ cond b (position_from (nat_eq i) (p + 1) js) None
        → cond (b && c) (Some p) (position_from (same_instance (at k i)) (p + 1) (map (at name) js)) ≡ cond b (cond c (Some p) (position_from (nat_eq i) (p + 1) js)) None
    by true true h = refl
    by true false h = h
    by false c h = h

-- where no instance has the name, none of the name has a place
pub no_place : (xs : List Instance) (name : Name) (i p : ℕ) → has_name xs name ≡ false → position_from (same_instance (at name i)) p xs ≡ None
no_place [] name i p h = refl
no_place (x ∷ xs) name i p h = by (same name x.name) (nat_eq i x.index) h (no_place xs name i (p + 1))
  where
    by : (b c : Bool) → (b || has_name xs name) ≡ false → (has_name xs name ≡ false → position_from (same_instance (at name i)) (p + 1) xs ≡ None)
        → cond (b && c) (Some p) (position_from (same_instance (at name i)) (p + 1) xs) ≡ None
    by true c h n = absurd (true≢false h)
    by false c h n = n h

same_back : (x y : Name) → same x y ≡ same y x
same_back = nat_list_eq_equiv.symm

-- the place of an instance by an array
abbrev by_array : Option Array → ℕ → Option ℕ
by_array o i = option_and_then (λ (a : Array). place_from a.first (range a.indices.low a.indices.high) i) o

or_none : (o : Option ℕ) → cond (is_some o) o None ≡ o
or_none None = refl
or_none (Some n) = refl

first_of_later : (a : Array) (i n : ℕ) → a.first ≡ n → place_from a.first (range a.indices.low a.indices.high) i ≡ position_from (nat_eq i) (0 + n) (range a.indices.low a.indices.high)
first_of_later a i n e =
    sym (from_later (nat_eq i) a.first 0 (range a.indices.low a.indices.high))
    ∙ ap (λ (m : ℕ). position_from (nat_eq i) m (range a.indices.low a.indices.high)) (omega (arith, e))

-- an array of a new name behind others
array_placed : (xs : List Instance) (name k : Name) (i : ℕ) (o : Option Array) (a : Array) → has_name xs name ≡ false → a.first ≡ length xs → by_array o i ≡ place_in xs (at k i)
    → by_array (cond (same name k) (Some a) o) i ≡ place_in (xs ++ map (at name) (range a.indices.low a.indices.high)) (at k i)
array_placed xs name k i o a new first found =
    by (same name k) refl ∙ sym (place_append (same_instance (at k i)) 0 xs (map (at name) is) ∙ ap (λ (p : Option ℕ). cond (is_some (place_in xs (at k i))) (place_in xs (at k i)) p) (place_in_one k name i (0 + length xs) is))
  where
    is : List ℕ
    is = range a.indices.low a.indices.high

    by : (b : Bool) → same name k ≡ b → by_array (cond b (Some a) o) i ≡ cond (is_some (place_in xs (at k i))) (place_in xs (at k i)) (cond (same k name) (position_from (nat_eq i) (0 + length xs) is) None)
    by true e =
        first_of_later a i (length xs) first
        ∙ ap (λ (b : Bool). cond b (position_from (nat_eq i) (0 + length xs) is) None) (sym (same_back k name ∙ e))
        ∙ ap (λ (p : Option ℕ). cond (is_some p) p (cond (same k name) (position_from (nat_eq i) (0 + length xs) is) None))
        (sym (ap (λ (n : Name). place_in xs (at n i)) (sym (name_same name k e)) ∙ no_place xs name i 0 new))
    by false e =
        found
        ∙ sym (or_none (place_in xs (at k i)))
        ∙ ap (λ (b : Bool). cond (is_some (place_in xs (at k i))) (place_in xs (at k i)) (cond b (position_from (nat_eq i) (0 + length xs) is) None)) (sym (same_back k name ∙ e))

-- a name that no instance has is not found
not_there : (xs : List Instance) (name : Name) (o : Option Array) → has_name xs name ≡ false → ((i : ℕ) → by_array o i ≡ place_in xs (at name i)) → o ≡ None
not_there xs name None new h = refl
not_there xs name (Some a) new h =
    absurd (no (ap (λ (p : Option ℕ). option_map (λ n. a.first + n) p) (index_found a.indices.low a.indices.low a.indices.high 0 (omega arith) a.indices.some (omega arith)) ∙ (h a.indices.low ∙ no_place xs name a.indices.low 0 new)))
  where
    no : option_map (λ n. a.first + n) (Some 0) ≡ None → ⊥
    no e = cc

one_more : (es : List (Bor Name × Array)) (e : Bor Name × Array) → instances_of (es ++ (e ∷ [])) ≡ instances_of es ++ array_instances e
one_more [] e = append-nil (array_instances e)
one_more (x ∷ es) e = ap (λ (xs : List Instance). array_instances x ++ xs) (one_more es e) ∙ sym (append_assoc (array_instances x) (instances_of es) (array_instances e))

range_length : (name : Name) (is : List ℕ) → length (map (at name) is) ≡ length is
range_length name [] = refl
range_length name (i ∷ is) = ap suc (range_length name is)

-- Maps.

module _ {S : Type 0} (m n : IndexMap (Bor Name) Array S) (name : Bor Name) (a : Array) (new : has_name (instances_of m.entries) name.now ≡ false)
    (entries : n.entries ≡ insert_entry (λ x y. same x.now y.now) m.entries name a) (places : (k : Name) (i : ℕ) → found m k i ≡ place_in (instances_of m.entries) (at k i)) where
  pub put_last : instances_of n.entries ≡ instances_of m.entries ++ map (at name.now) (range a.indices.low a.indices.high)
  put_last =
      ap instances_of (entries ∙ insert_entry-new (λ x y. same x.now y.now) m name a (not_there (instances_of m.entries) name.now (get_by (λ y. same name.now y.now) m) new (places name.now)))
      ∙ one_more m.entries (name, a)

  pub put_found : a.first ≡ length (instances_of m.entries) → ((q : Bor Name) → get_by (λ y. same q.now y.now) n ≡ cond (same name.now q.now) (Some a) (get_by (λ y. same q.now y.now) m))
      → (k : Name) (i : ℕ) → found n k i ≡ place_in (instances_of n.entries) (at k i)
  put_found first gets k i =
      ap (λ (o : Option Array). by_array o i) (gets (record name { now = k }))
      ∙ array_placed (instances_of m.entries) name.now k i (get_by (λ y. same k y.now) m) a new first (places k i)
      ∙ ap (λ (xs : List Instance). place_in xs (at k i)) (sym put_last)

  pub put_length : length (instances_of n.entries) ≡ length (instances_of m.entries) + length (range a.indices.low a.indices.high)
  put_length =
      ap length put_last
      ∙ length-append (instances_of m.entries) (map (at name.now) (range a.indices.low a.indices.high))
      ∙ ap (λ (c : ℕ). length (instances_of m.entries) + c) (range_length name.now (range a.indices.low a.indices.high))

place_below : {A : Type 0} (t : A → Bool) (p : ℕ) (xs : List A) (n : ℕ) → position_from t p xs ≡ Some n → n < p + length xs
place_below t p [] n h = cc
place_below t p (x ∷ xs) n h = by (t x) h (place_below t (p + 1) xs n)
  where
    by : (b : Bool) → cond b (Some p) (position_from t (p + 1) xs) ≡ Some n → (position_from t (p + 1) xs ≡ Some n → n < p + 1 + length xs) → n < p + suc (length xs)
    by true k next = let e : p ≡ n = cc in omega (arith, e)
    by false k next = let l = next k in omega (arith, l)

-- a place is one of the list
pub place_within : (xs : List Instance) (x : Instance) (o : Option ℕ) → o ≡ place_in xs x → IfSome o (λ n. n < length xs)
place_within xs x None e = tt
place_within xs x (Some n) e = let l = place_below (same_instance x) 0 xs n (sym e) in omega (arith, l)

pub found_within : {S : Type 0} (m : IndexMap (Bor Name) Array S) (n : ℕ) (k : Name) (i : ℕ) (a : Array) (o : Option ℕ) (xs : List Instance) → AreFound m n → instances_of m.entries ≡ xs → get_by (λ x. same k x.now) m ≡ Some a
    → o ≡ by_array (Some a) i → IfSome o (λ n. n < length xs)
found_within m n k i a o xs h v e f = place_within xs (at k i) o (f ∙ ap (λ (b : Option Array). by_array b i) (sym e) ∙ h.places k i ∙ ap (λ (ys : List Instance). place_in ys (at k i)) v)
