-- Groups and their members, where keys stand for items.
use Rattle.std.proofs.Common.{◌≡◌, ℕ, suc, ◌+◌, Bool, true, false, cond, ◌||◌, List, [], ◌∷◌, ◌++◌, map, filter, flat_map, Some, inl, inr, refl, sym, ap, ◌∙◌, subst, slice_get, if◌then◌else◌, true≢false, arith}
use Rattle.std.specs.List.{AllZip, list_any}
use Rattle.rsml_meaning.specs.Words.{IsOne}
use Rattle.ground_groups.specs.declared.key.Key.{Key}
use Rattle.ground_groups.specs.Heads.{same_key, AreHeads, places_of}
use Rattle.ground_groups.proofs.Rising.{key_same, key_itself}
use Rattle.ground_groups.proofs.Tables.{row, table, rising_same, table_rises, table_has, in_table, IsInTable}

pub zip_append : {A B : Type 0} (R : A → B → Type 0) (xs : List A) (ys : List B) (us : List A) (vs : List B) → AllZip R xs ys → AllZip R us vs → AllZip R (xs ++ us) (ys ++ vs)
zip_append R [] [] us vs h k = k
zip_append R (x ∷ xs) (y ∷ ys) us vs h k = (h.0, zip_append R xs ys us vs h.1 k)
zip_append R [] (y ∷ ys) us vs h k = elim h [ ]
zip_append R (x ∷ xs) [] us vs h k = elim h [ ]

module _ {A E T : Type 0} (fits : A → E → T → Bool) (xs : List A) (es : List E) where
  -- The key has the numbers of the owner and event that the item fits, and of no other.
  pub record Matches (t : T) (q : Key) : Type 0 where
    pub owner : A
    pub event : E
    pub owner_there : slice_get xs q.owner ≡ Some owner
    pub event_there : slice_get es q.event ≡ Some event
    pub decides : (k j : ℕ) (x : A) (e : E) → slice_get xs k ≡ Some x → slice_get es j ≡ Some e → fits x e t ≡ same_key q (record { owner = k; event = j })

  abbrev pub test : List T → A → E → Bool
  test ts x e = list_any (fits x e) ts

  or_true : (b : Bool) → (b || true) ≡ true
  or_true true = refl
  or_true false = refl

  pub key_fits : (ts : List T) (qs : List Key) (k j : ℕ) (x : A) (e : E) → AllZip Matches ts qs → slice_get xs k ≡ Some x → slice_get es j ≡ Some e → IsOne (record { owner = k; event = j }) qs → list_any (fits x e) ts ≡ true
  key_fits [] [] k j x e h a b m = absurd m
  key_fits (t ∷ ts) (q ∷ qs) k j x e h a b (inl p) =
      ap (λ z. z || list_any (fits x e) ts) (h.0.decides k j x e a b ∙ ap (λ z. same_key z (record { owner = k; event = j })) (sym p) ∙ key_itself (record { owner = k; event = j }))
  key_fits (t ∷ ts) (q ∷ qs) k j x e h a b (inr m) = ap (λ z. fits x e t || z) (key_fits ts qs k j x e h.1 a b m) ∙ or_true (fits x e t)
  key_fits [] (q ∷ qs) k j x e h a b m = elim h [ ]
  key_fits (t ∷ ts) [] k j x e h a b m = elim h [ ]

  pub fits_key : (ts : List T) (qs : List Key) (k j : ℕ) (x : A) (e : E) → AllZip Matches ts qs → slice_get xs k ≡ Some x → slice_get es j ≡ Some e → list_any (fits x e) ts ≡ true → IsOne (record { owner = k; event = j }) qs
  fits_key [] [] k j x e h a b m = absurd (true≢false (sym m))
  fits_key (t ∷ ts) (q ∷ qs) k j x e h a b m = by_test (fits x e t) (h.0.decides k j x e a b) m (fits_key ts qs k j x e h.1 a b)
    where
      by_test : (c : Bool) → c ≡ same_key q (record { owner = k; event = j }) → (c || list_any (fits x e) ts) ≡ true → (list_any (fits x e) ts ≡ true → IsOne (record { owner = k; event = j }) qs)
          → IsOne (record { owner = k; event = j }) (q ∷ qs)
      by_test true p n f = inl (sym (key_same q (record { owner = k; event = j }) (sym p)))
      by_test false p n f = inr (f n)
  fits_key [] (q ∷ qs) k j x e h a b m = elim h [ ]
  fits_key (t ∷ ts) [] k j x e h a b m = elim h [ ]

  pub matched : (ts : List T) (qs : List Key) (q : Key) → AllZip Matches ts qs → IsOne q qs → (t : T) × Matches t q
  matched [] [] q h m = absurd m
  matched (t ∷ ts) (p ∷ qs) q h (inl e) = (t, subst (Matches t) (sym e) h.0)
  matched (t ∷ ts) (p ∷ qs) q h (inr m) = matched ts qs q h.1 m
  matched [] (p ∷ qs) q h m = elim h [ ]
  matched (t ∷ ts) [] q h m = elim h [ ]

  from_zero : (n : ℕ) → 0 + n ≡ n
  from_zero n = omega arith

  -- the heads are the keys of all owners with the events that they react to
  pub heads_are : (ts : List T) (keys heads : List Key) → AllZip Matches ts keys → AreHeads keys heads → heads ≡ table (test ts) 0 xs es
  heads_are ts keys heads h a = rising_same heads (table (test ts) 0 xs es) a.rising (table_rises (test ts) 0 xs es)
      (λ q m. there q (a.only q m))
      (λ q m. back q (in_table (test ts) 0 xs es q m))
    where
      there : (q : Key) → IsOne q keys → IsOne q (table (test ts) 0 xs es)
      there q m =
          let r = matched ts keys q h m in
          subst (λ (z : Key). IsOne z (table (test ts) 0 xs es)) (λ i. record { owner = from_zero q.owner i; event = q.event })
          (table_has (test ts) 0 xs es q.owner q.event r.1.owner r.1.event r.1.owner_there r.1.event_there
          (key_fits ts keys q.owner q.event r.1.owner r.1.event h r.1.owner_there r.1.event_there m))

      back : (q : Key) → IsInTable (test ts) 0 xs es q → IsOne q heads
      back q r =
          let place : r.place ≡ q.owner = sym (r.owner_is ∙ from_zero r.place) in
          a.all q (fits_key ts keys q.owner q.event r.owner r.event h (subst (λ n. slice_get xs n ≡ Some r.owner) place r.owner_there) r.event_there r.passes)

  -- the members of an owner with an event stand at the places of their key
  pub members_at : (all ts : List T) (at : ℕ) (qs : List Key) (k j : ℕ) (x : A) (e : E) → AllZip Matches ts qs → slice_get xs k ≡ Some x → slice_get es j ≡ Some e
      → ((i : ℕ) (t : T) → slice_get ts i ≡ Some t → slice_get all (at + i) ≡ Some t) → AllZip (λ t i. slice_get all i ≡ Some t) (filter (fits x e) ts) (places_of (record { owner = k; event = j }) at qs)
  members_at all [] at [] k j x e h a b f = tt
  members_at all (t ∷ ts) at (q ∷ qs) k j x e h a b f =
      by_test (fits x e t) (same_key q (record { owner = k; event = j })) (h.0.decides k j x e a b) (subst (λ n. slice_get all n ≡ Some t) none (f 0 t refl))
      (members_at all ts (suc at) qs k j x e h.1 a b (λ i u g. subst (λ n. slice_get all n ≡ Some u) (shift i) (f (suc i) u g)))
    where
      none : at + 0 ≡ at
      none = omega arith

      shift : (n : ℕ) → at + suc n ≡ suc at + n
      shift n = omega arith

      by_test : (c d : Bool) → c ≡ d → slice_get all at ≡ Some t → AllZip (λ u i. slice_get all i ≡ Some u) (filter (fits x e) ts) (places_of (record { owner = k; event = j }) (suc at) qs)
          → AllZip (λ u i. slice_get all i ≡ Some u) (cond c (t ∷ filter (fits x e) ts) (filter (fits x e) ts))
          (if d then at ∷ places_of (record { owner = k; event = j }) (suc at) qs else places_of (record { owner = k; event = j }) (suc at) qs)
      by_test true true p g z = (g, z)
      by_test false false p g z = z
      by_test true false p g z = absurd (true≢false p)
      by_test false true p g z = absurd (true≢false (sym p))
  members_at all [] at (q ∷ qs) k j x e h a b f = elim h [ ]
  members_at all (t ∷ ts) at [] k j x e h a b f = elim h [ ]

module _ {A E G : Type 0} (make : A → E → G) (t : A → E → Bool) (xs : List A) (es : List E) where
  -- A group is that of the owner and event of a key.
  pub record IsMade (g : G) (q : Key) : Type 0 where
    pub owner : A
    pub event : E
    pub owner_there : slice_get xs q.owner ≡ Some owner
    pub event_there : slice_get es q.event ≡ Some event
    pub is : g ≡ make owner event

  row_made : (x : A) (k : ℕ) → slice_get xs k ≡ Some x → (j : ℕ) (ds : List E) → ((i : ℕ) (e : E) → slice_get ds i ≡ Some e → slice_get es (j + i) ≡ Some e) → AllZip IsMade (map (make x) (filter (t x) ds)) (row (t x) k j ds)
  row_made x k a j [] f = tt
  row_made x k a j (e ∷ ds) f = by_test (t x e) (subst (λ n. slice_get es n ≡ Some e) none (f 0 e refl)) (row_made x k a (suc j) ds (λ i d g. subst (λ n. slice_get es n ≡ Some d) (shift i) (f (suc i) d g)))
    where
      none : j + 0 ≡ j
      none = omega arith

      shift : (n : ℕ) → j + suc n ≡ suc j + n
      shift n = omega arith

      by_test : (c : Bool) → slice_get es j ≡ Some e → AllZip IsMade (map (make x) (filter (t x) ds)) (row (t x) k (suc j) ds)
          → AllZip IsMade (map (make x) (cond c (e ∷ filter (t x) ds) (filter (t x) ds))) (if c then record { owner = k; event = j } ∷ row (t x) k (suc j) ds else row (t x) k (suc j) ds)
      by_test true b z = (record { owner = x; event = e; owner_there = a; event_there = b; is = refl }, z)
      by_test false b z = z

  from_none : (n : ℕ) → n ≡ 0 + n
  from_none n = omega arith

  -- the groups of all owners, and their keys
  pub table_made : (k : ℕ) (ys : List A) → ((i : ℕ) (x : A) → slice_get ys i ≡ Some x → slice_get xs (k + i) ≡ Some x) → AllZip IsMade (flat_map (λ x. map (make x) (filter (t x) es)) ys) (table t k ys es)
  table_made k [] f = tt
  table_made k (x ∷ ys) f =
      zip_append IsMade (map (make x) (filter (t x) es)) (row (t x) k 0 es) (flat_map (λ x. map (make x) (filter (t x) es)) ys) (table t (suc k) ys es)
      (row_made x k (subst (λ n. slice_get xs n ≡ Some x) none (f 0 x refl)) 0 es (λ i e g. subst (λ n. slice_get es n ≡ Some e) (from_none i) g))
      (table_made (suc k) ys (λ i y g. subst (λ n. slice_get xs n ≡ Some y) (shift i) (f (suc i) y g)))
    where
      none : k + 0 ≡ k
      none = omega arith

      shift : (n : ℕ) → k + suc n ≡ suc k + n
      shift n = omega arith
