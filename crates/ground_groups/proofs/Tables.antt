-- Groups of owners and events by number.
use Rattle.std.proofs.Common.{◌≡◌, ℕ, zero, suc, ◌+◌, Bool, true, false, List, [], ◌∷◌, ◌++◌, Some, ◌⊎◌, inl, inr, ⊎_elim, refl, sym, ap, ◌∙◌, subst, slice_get, if◌then◌else◌, arith}
use Rattle.std.proofs.lemmas.Option.{same_Some}
use Rattle.rsml_syntax.proofs.Clean.{each_append}
use Rattle.rsml_meaning.specs.Words.{Each, IsOne}
use Rattle.ground_groups.specs.declared.key.Key.{Key}
use Rattle.ground_groups.specs.Heads.{IsBefore, AreRising}
use Rattle.ground_groups.proofs.Rising.{before_then, not_before, each_one}

-- two rising lists of the same keys are one
pub rising_same : (xs ys : List Key) → AreRising xs → AreRising ys → ((k : Key) → IsOne k xs → IsOne k ys) → ((k : Key) → IsOne k ys → IsOne k xs) → xs ≡ ys
rising_same [] [] r t f g = refl
rising_same [] (y ∷ ys) r t f g = absurd (g y (inl refl))
rising_same (x ∷ xs) [] r t f g = absurd (f x (inl refl))
rising_same (x ∷ xs) (y ∷ ys) r t f g = λ i. first i ∷ rising_same xs ys r.1 t.1 rest back i
  where
    first : x ≡ y
    first = ⊎_elim (λ e. e) (λ m. ⊎_elim (λ e. sym e)
        (λ n. absurd (not_before x (before_then x y x (each_one (IsBefore x) xs y r.0 n) (each_one (IsBefore y) ys x t.0 m))))
        (g y (inl refl))) (f x (inl refl))

    rest : (k : Key) → IsOne k xs → IsOne k ys
    rest k m = ⊎_elim (λ e. absurd (not_before x (subst (IsBefore x) (e ∙ sym first) (each_one (IsBefore x) xs k r.0 m)))) (λ n. n) (f k (inr m))

    back : (k : Key) → IsOne k ys → IsOne k xs
    back k m = ⊎_elim (λ e. absurd (not_before y (subst (IsBefore y) (e ∙ first) (each_one (IsBefore y) ys k t.0 m)))) (λ n. n) (g k (inr m))

pub rising_append : (xs ys : List Key) → AreRising xs → AreRising ys → ((x y : Key) → IsOne x xs → IsOne y ys → IsBefore x y) → AreRising (xs ++ ys)
rising_append [] ys r t f = t
rising_append (x ∷ xs) ys r t f = (each_append (IsBefore x) xs ys r.0 (each_given ys (λ y m. f x y (inl refl) m)), rising_append xs ys r.1 t (λ a b m n. f a b (inr m) n))
  where
    each_given : (zs : List Key) → ((y : Key) → IsOne y zs → IsBefore x y) → Each (IsBefore x) zs
    each_given [] h = tt
    each_given (z ∷ zs) h = (h z (inl refl), each_given zs (λ y m. h y (inr m)))

pub one_of_append : {A : Type 0} (x : A) (xs ys : List A) → IsOne x (xs ++ ys) → IsOne x xs ⊎ IsOne x ys
one_of_append x [] ys m = inr m
one_of_append x (y ∷ xs) ys (inl e) = inl (inl e)
one_of_append x (y ∷ xs) ys (inr m) = ⊎_elim (λ a. inl (inr a)) (λ b. inr b) (one_of_append x xs ys m)

pub one_front : {A : Type 0} (x : A) (xs ys : List A) → IsOne x xs → IsOne x (xs ++ ys)
one_front x [] ys m = absurd m
one_front x (y ∷ xs) ys (inl e) = inl e
one_front x (y ∷ xs) ys (inr m) = inr (one_front x xs ys m)

pub one_back : {A : Type 0} (x : A) (xs ys : List A) → IsOne x ys → IsOne x (xs ++ ys)
one_back x [] ys m = m
one_back x (y ∷ xs) ys m = inr (one_back x xs ys m)

-- the keys of an owner with the events that pass, from these numbers on
abbrev pub row : {E : Type 0} → (E → Bool) → ℕ → ℕ → List E → List Key
row t k j [] = []
row t k j (e ∷ es) = if t e then record { owner = k; event = j } ∷ row t k (suc j) es else row t k (suc j) es

-- the keys of all owners
abbrev pub table : {A E : Type 0} → (A → E → Bool) → ℕ → List A → List E → List Key
table t k [] es = []
table t k (x ∷ xs) es = row (t x) k 0 es ++ table t (suc k) xs es

-- a key of the row
record IsInRow {E : Type 0} (t : E → Bool) (k j : ℕ) (es : List E) (q : Key) : Type 0 where
  pub place : ℕ
  pub event : E
  pub owner_is : q.owner ≡ k
  pub event_is : q.event ≡ j + place
  pub there : slice_get es place ≡ Some event
  pub passes : t event ≡ true

in_row : {E : Type 0} (t : E → Bool) (k j : ℕ) (es : List E) (q : Key) → IsOne q (row t k j es) → IsInRow t k j es q
in_row t k j [] q m = absurd m
in_row t k j (e ∷ es) q m = by_test (t e) refl m (λ n. later (in_row t k (suc j) es q n))
  where
    shift : (n : ℕ) → suc j + n ≡ j + suc n
    shift n = omega arith

    none : j ≡ j + 0
    none = omega arith

    later : IsInRow t k (suc j) es q → IsInRow t k j (e ∷ es) q
    later r = record { place = suc r.place; event = r.event; owner_is = r.owner_is; event_is = r.event_is ∙ shift r.place; there = r.there; passes = r.passes }

    by_test : (b : Bool) → b ≡ t e → IsOne q (if b then record { owner = k; event = j } ∷ row t k (suc j) es else row t k (suc j) es) → (IsOne q (row t k (suc j) es) → IsInRow t k j (e ∷ es) q) → IsInRow t k j (e ∷ es) q
    by_test true h (inl p) f = record { place = 0; event = e; owner_is = ap (λ z. z.owner) p; event_is = ap (λ z. z.event) p ∙ none; there = refl; passes = sym h }
    by_test true h (inr n) f = f n
    by_test false h n f = f n

row_has : {E : Type 0} (t : E → Bool) (k j : ℕ) (es : List E) (i : ℕ) (e : E) → slice_get es i ≡ Some e → t e ≡ true → IsOne (record { owner = k; event = j + i }) (row t k j es)
row_has t k j [] i e h p = absurd (let no : ⊥ = cc in no)
row_has t k j (d ∷ es) zero e h p =
    subst (λ b. IsOne (record { owner = k; event = j + 0 }) (if b then record { owner = k; event = j } ∷ row t k (suc j) es else row t k (suc j) es)) (sym p ∙ ap t (sym (same_Some d e h)))
    (inl (λ i. record { owner = k; event = none i }))
  where
    none : j + 0 ≡ j
    none = omega arith
row_has t k j (d ∷ es) (suc i) e h p =
    by_test (t d) (subst (λ n. IsOne (record { owner = k; event = n }) (row t k (suc j) es)) shift (row_has t k (suc j) es i e h p))
  where
    shift : suc j + i ≡ j + suc i
    shift = omega arith

    by_test : (b : Bool) → IsOne (record { owner = k; event = j + suc i }) (row t k (suc j) es)
        → IsOne (record { owner = k; event = j + suc i }) (if b then record { owner = k; event = j } ∷ row t k (suc j) es else row t k (suc j) es)
    by_test true m = inr m
    by_test false m = m

row_rises : {E : Type 0} (t : E → Bool) (k j : ℕ) (es : List E) → AreRising (row t k j es)
row_rises t k j [] = tt
row_rises t k j (e ∷ es) = by_test (t e) (row_rises t k (suc j) es) (all_behind (row t k (suc j) es) (λ q m. behind q (in_row t k (suc j) es q m)))
  where
    behind : (q : Key) → IsInRow t k (suc j) es q → IsBefore (record { owner = k; event = j }) q
    behind q r = let a = r.event_is in inr (sym r.owner_is, omega (arith, a))

    all_behind : (qs : List Key) → ((q : Key) → IsOne q qs → IsBefore (record { owner = k; event = j }) q) → Each (IsBefore (record { owner = k; event = j })) qs
    all_behind [] f = tt
    all_behind (q ∷ qs) f = (f q (inl refl), all_behind qs (λ z m. f z (inr m)))

    by_test : (b : Bool) → AreRising (row t k (suc j) es) → Each (IsBefore (record { owner = k; event = j })) (row t k (suc j) es)
        → AreRising (if b then record { owner = k; event = j } ∷ row t k (suc j) es else row t k (suc j) es)
    by_test true r h = (h, r)
    by_test false r h = r

-- a key of the table
pub record IsInTable {A E : Type 0} (t : A → E → Bool) (k : ℕ) (xs : List A) (es : List E) (q : Key) : Type 0 where
  pub place : ℕ
  pub owner : A
  pub event : E
  pub owner_is : q.owner ≡ k + place
  pub owner_there : slice_get xs place ≡ Some owner
  pub event_there : slice_get es q.event ≡ Some event
  pub passes : t owner event ≡ true

pub in_table : {A E : Type 0} (t : A → E → Bool) (k : ℕ) (xs : List A) (es : List E) (q : Key) → IsOne q (table t k xs es) → IsInTable t k xs es q
in_table t k [] es q m = absurd m
in_table t k (x ∷ xs) es q m = ⊎_elim (λ a. here (in_row (t x) k 0 es q a)) (λ b. later (in_table t (suc k) xs es q b)) (one_of_append q (row (t x) k 0 es) (table t (suc k) xs es) m)
  where
    none : k ≡ k + 0
    none = omega arith

    plus : (a b : ℕ) → a ≡ 0 + b → b ≡ a
    plus a b e = omega (arith, e)

    shift : (n : ℕ) → suc k + n ≡ k + suc n
    shift n = omega arith

    here : IsInRow (t x) k 0 es q → IsInTable t k (x ∷ xs) es q
    here r = record {
      place = 0;
      owner = x;
      event = r.event;
      owner_is = r.owner_is ∙ none;
      owner_there = refl;
      event_there = subst (λ n. slice_get es n ≡ Some r.event) (plus q.event r.place r.event_is) r.there;
      passes = r.passes;
    }

    later : IsInTable t (suc k) xs es q → IsInTable t k (x ∷ xs) es q
    later r = record { place = suc r.place; owner = r.owner; event = r.event; owner_is = r.owner_is ∙ shift r.place; owner_there = r.owner_there; event_there = r.event_there; passes = r.passes }

pub table_has : {A E : Type 0} (t : A → E → Bool) (k : ℕ) (xs : List A) (es : List E) (i j : ℕ) (x : A) (e : E) → slice_get xs i ≡ Some x → slice_get es j ≡ Some e → t x e ≡ true
    → IsOne (record { owner = k + i; event = j }) (table t k xs es)
table_has t k [] es i j x e h g p = absurd (let no : ⊥ = cc in no)
table_has t k (y ∷ xs) es zero j x e h g p =
    one_front (record { owner = k + 0; event = j }) (row (t y) k 0 es) (table t (suc k) xs es)
    (subst (λ (q : Key). IsOne q (row (t y) k 0 es)) (λ i. record { owner = none i; event = plus i }) (row_has (t y) k 0 es j e g (ap (λ z. t z e) (same_Some y x h) ∙ p)))
  where
    none : k ≡ k + 0
    none = omega arith

    plus : 0 + j ≡ j
    plus = omega arith
table_has t k (y ∷ xs) es (suc i) j x e h g p =
    one_back (record { owner = k + suc i; event = j }) (row (t y) k 0 es) (table t (suc k) xs es)
    (subst (λ n. IsOne (record { owner = n; event = j }) (table t (suc k) xs es)) shift (table_has t (suc k) xs es i j x e h g p))
  where
    shift : suc k + i ≡ k + suc i
    shift = omega arith

pub table_rises : {A E : Type 0} (t : A → E → Bool) (k : ℕ) (xs : List A) (es : List E) → AreRising (table t k xs es)
table_rises t k [] es = tt
table_rises t k (x ∷ xs) es = rising_append (row (t x) k 0 es) (table t (suc k) xs es) (row_rises (t x) k 0 es) (table_rises t (suc k) xs es)
    (λ a b m n. apart a b (in_row (t x) k 0 es a m) (in_table t (suc k) xs es b n))
  where
    apart : (a b : Key) → IsInRow (t x) k 0 es a → IsInTable t (suc k) xs es b → IsBefore a b
    apart a b r u = let e = r.owner_is in let f = u.owner_is in inl (omega (arith, e, f))
