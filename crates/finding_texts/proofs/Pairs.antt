-- What is written of the items of a list, or of the pairs of two, one after another.
use Rattle.std.proofs.Common.{◌≡◌, ℕ, zero, suc, ◌+◌, ◌≤◌, List, [], ◌∷◌, length, take, zip, flat_map, get_or, Option, Some, refl, sym, ap, ◌∙◌, slice_get, arith}
use Rattle.std.proofs.lemmas.Option.{same_Some, slice_get-get_or}
use Rattle.state_tree.proofs.Lists.{get_within, get_zip}
use Rattle.text_writer.specs.Writes.{WriterState, Writes}
use Rattle.text_writer.proofs.WritingLemmas.{one_more}

-- what stands at a place is what an index there gives
pub item_is : {A : Type 0} (xs : List A) (i : ℕ) (x d : A) → slice_get xs i ≡ Some x → get_or xs i d ≡ x
item_is xs i x d at = same_Some (get_or xs i d) x (sym (slice_get-get_or xs i d (get_within xs i x at)) ∙ at)

-- behind the texts of the first items that of one more is written
pub item_more : {A : Type 0} {first second third : WriterState} {old mid new : Option (List ℕ)} (f : A → List ℕ) (xs : List A) (i : ℕ) (x : A) → slice_get xs i ≡ Some x
    → Writes first old (flat_map f (take i xs)) second mid → Writes second mid (f x) third new → Writes first old (flat_map f (take (i + 1) xs)) third new
item_more f xs i x at h k = one_more f xs i x (get_within xs i x at) (sym (item_is xs i x x at)) h k

-- behind the texts of the first pairs that of one more is written
pub pair_more : {A B : Type 0} {first second third : WriterState} {old mid new : Option (List ℕ)} (f : A × B → List ℕ) (xs : List A) (ys : List B) (i : ℕ) (x : A) (y : B) → slice_get xs i ≡ Some x → slice_get ys i ≡ Some y
    → Writes first old (flat_map f (take i (zip xs ys))) second mid → Writes second mid (f (x, y)) third new → Writes first old (flat_map f (take (i + 1) (zip xs ys))) third new
pair_more f xs ys i x y at beside h k = item_more f (zip xs ys) i (x, y) (get_zip xs ys i x y at beside) h k

-- there are no more pairs than items of the first list
pub all_pairs : {A B : Type 0} (n : ℕ) (xs : List A) (ys : List B) → length xs ≤ n → take n (zip xs ys) ≡ zip xs ys
all_pairs zero [] ys h = refl
all_pairs zero (x ∷ xs) ys h = absurd (omega (arith, h))
all_pairs (suc n) [] ys h = refl
all_pairs (suc n) (x ∷ xs) [] h = refl
all_pairs {A} {B} (suc n) (x ∷ xs) (y ∷ ys) h = ap (λ (zs : List (A × B)). (x, y) ∷ zs) (all_pairs n xs ys (omega (arith, h)))
