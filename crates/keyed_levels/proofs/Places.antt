-- The places of the keys of phrases.
use Rattle.std.proofs.Common.{◌≡◌, ℕ, zero, suc, ◌⊎◌, inl, inr, ⊎_elim, List, [], ◌∷◌, length, Option, Some, refl, sym, ap, ◌∙◌, subst, slice_get, slice_set}
use Rattle.std.proofs.lemmas.Option.{same_Some}
use Rattle.keyed_levels.specs.declared.keyed.Keyed.{Keyed}
use Rattle.keyed_levels.specs.Keyed.{IsKeyOf}

-- what stands in a list of which one item was set
get_set : {A : Type 0} (xs : List A) (k : ℕ) (v : A) (j : ℕ) (y : A) → slice_get (slice_set xs k v) j ≡ Some y → ((j ≡ k) × (v ≡ y)) ⊎ (slice_get xs j ≡ Some y)
get_set [] k v j y h = inr h
get_set (x ∷ xs) zero v zero y h = inl (refl, same_Some v y h)
get_set (x ∷ xs) zero v (suc j) y h = inr h
get_set (x ∷ xs) (suc k) v zero y h = inr h
get_set (x ∷ xs) (suc k) v (suc j) y h = ⊎_elim (λ e. inl (ap suc e.0, e.1)) (λ e. inr e) (get_set xs k v j y h)

long_set : {A : Type 0} (xs : List A) (k : ℕ) (v : A) → length (slice_set xs k v) ≡ length xs
long_set [] k v = refl
long_set (x ∷ xs) zero v = refl
long_set (x ∷ xs) (suc k) v = ap suc (long_set xs k v)

pub as_many : {A : Type 0} (xs : List A) (k : ℕ) (v : A) (n : ℕ) → length xs ≡ n → length (slice_set xs k v) ≡ n
as_many xs k v n h = long_set xs k v ∙ h

-- one more place
pub placed_more : (keyed : List Keyed) (places : List (Option ℕ)) (at place : ℕ) → IsKeyOf keyed at place
    → ((phrase other : ℕ) → slice_get places phrase ≡ Some (Some other) → IsKeyOf keyed phrase other)
    → (phrase other : ℕ) → slice_get (slice_set places at (Some place)) phrase ≡ Some (Some other) → IsKeyOf keyed phrase other
placed_more keyed places at place is before phrase other h = ⊎_elim
    (λ e. let same : place ≡ other = same_Some place other e.1 in subst (λ q. IsKeyOf keyed phrase q) same (subst (λ p. IsKeyOf keyed p place) (sym e.0) is))
    (λ e. before phrase other e)
    (get_set places at (Some place) phrase (Some other) h)
