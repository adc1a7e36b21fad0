-- Lists with one item more.
use Rattle.std.proofs.Common.{◌≡◌, ℕ, zero, suc, ◌<◌, List, [], ◌∷◌, ◌++◌, map, length, ap, ◌∙◌, slice_index_or, slice_set, arith}
use Rattle.ground_groups.specs.Heads.{with_item}

pub put_at : {A : Type 0} (f : A → List ℕ) (xs : List A) (at item : ℕ) (old new : A) → at < length xs → old ≡ slice_index_or xs at old → f new ≡ f old ++ item ∷ []
    → map f (slice_set xs at new) ≡ with_item at item (map f xs)
put_at f [] at item old new l e h = absurd (omega (arith, l))
put_at f (x ∷ xs) zero item old new l e h = ap (λ z. z ∷ map f xs) (h ∙ ap (λ y. f y ++ item ∷ []) e)
put_at f (x ∷ xs) (suc at) item old new l e h = ap (λ z. f x ∷ z) (put_at f xs at item old new (omega (arith, l)) e h)
