-- Numbers without repeats: the same members, no two alike.
use Rattle.std.proofs.Common.{◌≡◌, Bool, true, false, ◌||◌, ◌&&◌, cond, List, [], ◌∷◌, ◌++◌, filter, if◌then◌else◌, refl, sym, ap, ◌∙◌, true≢false}
use Rattle.std.specs.Prelude.{flat_map}
use Rattle.std.specs.Cmp.{IsEquivalence}
use Rattle.std.specs.List.{list_any, AllByRecursion, IsDistinct}
use Rattle.std.proofs.lemmas.List.Folds.{list_any-append}
use Rattle.std.proofs.lemmas.Map.Keys.{IsDistinct-cons, IsDistinct-head, IsDistinct-tail, IsDistinct-push}
use Rattle.std.proofs.lemmas.Map.Made.{is_member-filter}
use Rattle.indexmap.specs.IndexSet.{insert_key, insert_all}
use Rattle.pair_counts.specs.Sets.{once}

or_false : (b : Bool) → (b || false) ≡ b
or_false true = refl
or_false false = refl

or_true : (b : Bool) → (b || true) ≡ true
or_true true = refl
or_true false = refl

or_assoc : (a b c : Bool) → ((a || b) || c) ≡ (a || (b || c))
or_assoc true b c = refl
or_assoc false b c = refl

pub any_flat : {A B : Type 0} (test : B → Bool) (f : A → List B) (xs : List A) → list_any test (flat_map f xs) ≡ list_any (λ x. list_any test (f x)) xs
any_flat test f [] = refl
any_flat test f (x ∷ xs) = list_any-append test (f x) (flat_map f xs) ∙ ap (λ b. list_any test (f x) || b) (any_flat test f xs)

-- A TEST THAT TELLS NO TWO APART THAT ARE ALIKE

module _ {A : Type 0} (eq : A → A → Bool) (test : A → Bool) (alike : (a b : A) → eq a b ≡ true → test a ≡ test b) where
  -- a number that passes is among those that pass
  pub there : (kept : List A) (x : A) → list_any (eq x) kept ≡ true → test x ≡ true → list_any test kept ≡ true
  there [] x h t = absurd (true≢false (sym h))
  there (k ∷ kept) x h t = by (eq x k) refl (λ later. there kept x later t)
    where
      by : (b : Bool) → eq x k ≡ b → (list_any (eq x) kept ≡ true → list_any test kept ≡ true) → (test k || list_any test kept) ≡ true
      by true e rest = ap (λ b. b || list_any test kept) (sym (alike x k e) ∙ t)
      by false e rest = ap (λ b. test k || b) (rest (sym (ap (λ b. b || list_any (eq x) kept) e) ∙ h)) ∙ or_true (test k)

  any_insert : (kept : List A) (x : A) → list_any test (insert_key eq kept x) ≡ (list_any test kept || test x)
  any_insert kept x = by (list_any (eq x) kept) refl (test x) refl
    where
      by : (b : Bool) → list_any (eq x) kept ≡ b → (t : Bool) → test x ≡ t → list_any test (if b then kept else kept ++ x ∷ []) ≡ (list_any test kept || test x)
      by true e true is = there kept x e is ∙ sym (or_true (list_any test kept)) ∙ ap (λ t. list_any test kept || t) (sym is)
      by true e false is = sym (or_false (list_any test kept)) ∙ ap (λ t. list_any test kept || t) (sym is)
      by false e t is = list_any-append test kept (x ∷ []) ∙ ap (λ c. list_any test kept || c) (or_false (test x))

  any_all : (kept xs : List A) → list_any test (insert_all eq kept xs) ≡ (list_any test kept || list_any test xs)
  any_all kept [] = sym (or_false (list_any test kept))
  any_all kept (x ∷ xs) = any_all (insert_key eq kept x) xs ∙ ap (λ b. b || list_any test xs) (any_insert kept x) ∙ or_assoc (list_any test kept) (test x) (list_any test xs)

  -- some number passes just where one of those without repeats does
  pub any_once : (xs : List A) → list_any test (once eq xs) ≡ list_any test xs
  any_once xs = any_all [] xs

-- what is left of numbers that differ
filter_all : {A : Type 0} (P : A → Type 0) (test : A → Bool) (xs : List A) → AllByRecursion P xs → AllByRecursion P (filter test xs)
filter_all P test [] h = tt
filter_all P test (x ∷ xs) h = by (test x) (filter_all P test xs h.1)
  where
    by : (b : Bool) → AllByRecursion P (filter test xs) → AllByRecursion P (cond b (x ∷ filter test xs) (filter test xs))
    by true rest = (h.0, rest)
    by false rest = rest

pub distinct_filter : {A : Type 0} (eq : A → A → Bool) (test : A → Bool) (xs : List A) → IsDistinct eq xs → IsDistinct eq (filter test xs)
distinct_filter eq test [] h = h
distinct_filter eq test (x ∷ xs) h = by (test x) (distinct_filter eq test xs (IsDistinct-tail eq x xs h))
  where
    by : (b : Bool) → IsDistinct eq (filter test xs) → IsDistinct eq (cond b (x ∷ filter test xs) (filter test xs))
    by true rest = IsDistinct-cons eq x (filter test xs) (filter_all (λ y. eq x y ≡ false) test xs (IsDistinct-head eq x xs h)) rest
    by false rest = rest

distinct_none : {A : Type 0} (eq : A → A → Bool) → IsDistinct eq []
unfolding IsDistinct
distinct_none eq = tt

module _ {A : Type 0} (eq : A → A → Bool) (laws : IsEquivalence eq) where
  distinct_insert : (kept : List A) (x : A) → IsDistinct eq kept → IsDistinct eq (insert_key eq kept x)
  distinct_insert kept x h = by (list_any (eq x) kept) refl
    where
      by : (b : Bool) → list_any (eq x) kept ≡ b → IsDistinct eq (if b then kept else kept ++ x ∷ [])
      by true e = h
      by false e = IsDistinct-push laws kept x h e

  distinct_all : (kept xs : List A) → IsDistinct eq kept → IsDistinct eq (insert_all eq kept xs)
  distinct_all kept [] h = h
  distinct_all kept (x ∷ xs) h = distinct_all (insert_key eq kept x) xs (distinct_insert kept x h)

  pub distinct_once : (xs : List A) → IsDistinct eq (once eq xs)
  distinct_once xs = distinct_all [] xs (distinct_none eq)

  pub any_filter : (test : A → Bool) → ((a b : A) → eq a b ≡ true → test a ≡ test b) → (q : A) (xs : List A) → list_any (eq q) (filter test xs) ≡ (list_any (eq q) xs && test q)
  any_filter test alike q xs = is_member-filter laws test q (alike q) xs
