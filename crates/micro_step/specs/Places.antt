-- Items of a list by their places.
use Rattle.std.specs.Prelude.{◌≡◌, ℕ, suc, Bool, false, List, [], ◌∷◌, Some, slice_get, if◌then◌else◌}
use Rattle.std.specs.List.{AllZip}
use Rattle.std.specs.Option.{option_map_or}

-- whether the item at a place passes; not where there is none
abbrev pub passes : {A : Type 0} → (A → Bool) → List A → ℕ → Bool
passes t xs k = option_map_or t (slice_get xs k) false

-- the places, counted from a number, of the items that pass
abbrev pub places_where : {A : Type 0} → (A → Bool) → ℕ → List A → List ℕ
places_where t n [] = []
places_where t n (x ∷ xs) = if t x then n ∷ places_where t (suc n) xs else places_where t (suc n) xs

-- the items whose places, counted from a number, pass
abbrev pub items_where : {A : Type 0} → (ℕ → Bool) → ℕ → List A → List A
items_where p n [] = []
items_where p n (x ∷ xs) = if p n then x ∷ items_where p (suc n) xs else items_where p (suc n) xs

-- the numbers are the places of these items among all, in order
abbrev pub ArePlaces : {A : Type 0} → List A → List A → List ℕ → Type 0
ArePlaces all xs ks = AllZip (λ x k. slice_get all k ≡ Some x) xs ks
