-- What a global name means is a declaration that is there.
use Rattle.std.proofs.Common.{◌≡◌, ℕ, zero, suc, ◌+◌, ◌<◌, ◌≤◌, Bool, true, false, cond, List, [], ◌∷◌, ◌++◌, length, flat_map, Option, Some, None, ◌⊎◌, inl, inr, ⊎_elim, refl, sym, ap, ◌∙◌, subst, arith, slice_get, eq-or-lt_of_le}
use Rattle.std.specs.List.{AllZip, position_from}
use Rattle.std.specs.Option.{option_map_or}
use Rattle.rsml_syntax.specs.declared.syntax.Decl.{Decl}
use Rattle.rsml_syntax.specs.declared.syntax.Decl.TheVariants as decl
use Rattle.rsml_syntax.specs.text.Names.{Name, same, place_of}
use Rattle.rsml_syntax.specs.rules.Globals.{Known, globals, name_of, names_of, values_of, known_values, known_by, meaning, up_to}
use Rattle.rsml_meaning.specs.Words.{IsOne}
use Rattle.rsml_meaning.proofs.Same.{name_same}
use Rattle.rsml_meaning.proofs.Lists.{one_front, one_back}

-- What is known of what a name means.
pub record Means (ds : List Decl) (name : Name) (k : Known) : Type 0 where
  pub among : IsOne k.decl ds
  pub named : k.value ≡ None → name_of k.decl ≡ name
  pub valued : (k.value ≡ None) ⊎ (k.decl ≡ decl.Enumeration (name_of k.decl) (values_of k.decl))
  pub below : (n : ℕ) → k.value ≡ Some n → n < length (values_of k.decl)

zip_append : {A B : Type 0} (R : A → B → Type 0) (xs : List A) (ys : List B) (us : List A) (vs : List B) → AllZip R xs ys → AllZip R us vs → AllZip R (xs ++ us) (ys ++ vs)
zip_append R [] [] us vs h k = k
zip_append R (x ∷ xs) (y ∷ ys) us vs h k = (h.0, zip_append R xs ys us vs h.1 k)
zip_append R [] (y ∷ ys) us vs h k = elim h [ ]
zip_append R (x ∷ xs) [] us vs h k = elim h [ ]

zip_more : {A B : Type 0} (R S : A → B → Type 0) → ((x : A) (y : B) → R x y → S x y) → (xs : List A) (ys : List B) → AllZip R xs ys → AllZip S xs ys
zip_more R S f [] [] h = tt
zip_more R S f (x ∷ xs) (y ∷ ys) h = (f x y h.0, zip_more R S f xs ys h.1)
zip_more R S f [] (y ∷ ys) h = elim h [ ]
zip_more R S f (x ∷ xs) [] h = elim h [ ]

values_known : (d : Decl) → d ≡ decl.Enumeration (name_of d) (values_of d) → (n : ℕ) (names : List Name) → n + length names ≡ length (values_of d) → AllZip (Means (d ∷ [])) names (known_values d n names)
values_known d e n [] l = tt
values_known d e n (name ∷ names) l = (
  record { among = inl refl; named = λ h. cc; valued = inr e; below = λ k h. let same : n ≡ k = cc in omega (arith, same, l) },
  values_known d e (n + 1) names (omega (arith, l)),
)

own_name : (d : Decl) → Means (d ∷ []) (name_of d) (record { decl = d; value = None })
own_name d = record { among = inl refl; named = λ h. refl; valued = inl refl; below = λ n h. absurd (let k : ⊥ = cc in k) }

names_known : (d : Decl) → AllZip (Means (d ∷ [])) (names_of d) (known_by d)
names_known (decl.Enumeration name names) = (own_name (decl.Enumeration name names), values_known (decl.Enumeration name names) refl 0 names (omega arith))
names_known (decl.Range name low high) = (own_name (decl.Range name low high), tt)
names_known (decl.Constant name value) = (own_name (decl.Constant name value), tt)
names_known (decl.Input name size kind initial) = (own_name (decl.Input name size kind initial), tt)
names_known (decl.Event name size) = (own_name (decl.Event name size), tt)
names_known (decl.Macro name size rows) = (own_name (decl.Macro name size rows), tt)
names_known (decl.Function name size cases) = (own_name (decl.Function name size cases), tt)
names_known (decl.Receive name size inputs raised) = (own_name (decl.Receive name size inputs raised), tt)
names_known (decl.Send name size fields cases) = (own_name (decl.Send name size fields cases), tt)

among_more : (ds es : List Decl) → ((d : Decl) → IsOne d ds → IsOne d es) → (name : Name) (k : Known) → Means ds name k → Means es name k
among_more ds es f name k m = record { among = f k.decl m.among; named = m.named; valued = m.valued; below = m.below }

pub all_known : (ds : List Decl) → AllZip (Means ds) (flat_map names_of ds) (flat_map known_by ds)
all_known [] = tt
all_known (d ∷ ds) =
    zip_append (Means (d ∷ ds)) (names_of d) (known_by d) (flat_map names_of ds) (flat_map known_by ds)
    (zip_more (Means (d ∷ [])) (Means (d ∷ ds)) (among_more (d ∷ []) (d ∷ ds) (λ e m. one_front e (d ∷ []) ds m)) (names_of d) (known_by d) (names_known d))
    (zip_more (Means ds) (Means (d ∷ ds)) (among_more ds (d ∷ ds) (λ e m. inr m)) (flat_map names_of ds) (flat_map known_by ds) (all_known ds))

-- The item beside the first that passes.

pub position_from_on : {A : Type 0} (t : A → Bool) (i k : ℕ) (xs : List A) → position_from t i xs ≡ Some k → i ≤ k
position_from_on t i k [] h = cc
position_from_on t i k (x ∷ xs) h = by_test (t x) h (position_from_on t (i + 1) k xs)
  where
    by_test : (b : Bool) → cond b (Some i) (position_from t (i + 1) xs) ≡ Some k → (position_from t (i + 1) xs ≡ Some k → i + 1 ≤ k) → i ≤ k
    by_test true e rest = let same : i ≡ k = cc in omega (arith, same)
    by_test false e rest = let l = rest e in omega (arith, l)

pub beside : {A B : Type 0} (R : A → B → Type 0) (t : A → Bool) (xs : List A) (ys : List B) (i p : ℕ) (y : B) → AllZip R xs ys → position_from t i xs ≡ Some (i + p) → slice_get ys p ≡ Some y
    → (x : A) × (t x ≡ true) × R x y
beside R t [] [] i p y h k g = cc
beside R t [] (z ∷ ys) i p y h k g = cc
beside R t (x ∷ xs) [] i p y h k g = elim h [ ]
beside {A} {B} R t (x ∷ xs) (z ∷ ys) i p y h k g = by_test (t x) refl p k g (λ q. beside R t xs ys (i + 1) q y h.1)
  where
    by_test : (b : Bool) → t x ≡ b → (p : ℕ) → cond b (Some i) (position_from t (i + 1) xs) ≡ Some (i + p) → slice_get (z ∷ ys) p ≡ Some y
        → ((q : ℕ) → position_from t (i + 1) xs ≡ Some (i + 1 + q) → slice_get ys q ≡ Some y → (x : A) × (t x ≡ true) × R x y) → (x : A) × (t x ≡ true) × R x y
    by_test true e zero k g rest = let same : z ≡ y = cc in (x, e, subst (R x) same h.0)
    by_test true e (suc p) k g rest = absurd (let same : i ≡ i + suc p = cc in omega (arith, same))
    by_test false e zero k g rest = absurd (let l = position_from_on t (i + 1) (i + 0) xs k in omega (arith, l))
    by_test false e (suc p) k g rest = rest p (k ∙ ap (λ n. Some n) (omega arith)) g

-- what a name means is a declaration of that name
pub meaning_is : (ds : List Decl) (name : Name) (k : Known) → meaning (globals ds) name ≡ Some k → Means ds name k
meaning_is ds name k h = by_place (place_of name (flat_map names_of ds)) refl h
  where
    by_place : (o : Option ℕ) → place_of name (flat_map names_of ds) ≡ o → option_map_or (λ place. slice_get (flat_map known_by ds) place) o None ≡ Some k → Means ds name k
    by_place None e g = cc
    by_place (Some p) e g =
        let r = beside (Means ds) (same name) (flat_map names_of ds) (flat_map known_by ds) 0 p k (all_known ds) (e ∙ ap (λ n. Some n) (omega arith)) g in
        subst (λ z. Means ds z k) (sym (name_same name r.0 r.1)) r.2

-- Indices.

pub in_up_to : (n k : ℕ) → 1 ≤ k → k ≤ n → IsOne k (up_to n)
in_up_to zero k h l = absurd (omega (arith, h, l))
in_up_to (suc n) k h l = ⊎_elim
    (λ below. one_front k (up_to n) (suc n ∷ []) (in_up_to n k h below))
    (λ last. one_back k (up_to n) (suc n ∷ []) (inl last))
    (by_order k n l)
  where
    by_order : (k n : ℕ) → k ≤ suc n → (k ≤ n) ⊎ (k ≡ suc n)
    by_order k n l = ⊎_elim (λ e. inr e) (λ m. inl (omega (arith, m))) (eq-or-lt_of_le l)
