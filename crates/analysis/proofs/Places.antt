-- Items at places, written one after another.
use Rattle.std.proofs.Common.{◌≡◌, ℕ, zero, suc, ◌+◌, List, [], ◌∷◌, flat_map, take, Option, Some, slice_get, get_or, sym}
use Rattle.std.proofs.lemmas.Option.{same_Some}
use Rattle.state_tree.proofs.Lists.{get_within}
use Rattle.text_writer.specs.Writes.{WriterState, Writes}
use Rattle.text_writer.proofs.WritingLemmas.{one_more}

read_there : {A : Type 0} (xs : List A) (i : ℕ) (x : A) → slice_get xs i ≡ Some x → x ≡ get_or xs i x
read_there [] i x h = absurd (let no : ⊥ = cc in no)
read_there (y ∷ xs) zero x h = sym (same_Some y x h)
read_there (y ∷ xs) (suc i) x h = read_there xs i x h

-- behind the texts of the items before a place that of its item is written
pub written_there : {A : Type 0} {first second third : WriterState} {old mid new : Option (List ℕ)} (f : A → List ℕ) (xs : List A) (i : ℕ) (x : A) → slice_get xs i ≡ Some x
    → Writes first old (flat_map f (take i xs)) second mid → Writes second mid (f x) third new → Writes first old (flat_map f (take (i + 1) xs)) third new
written_there f xs i x is h k = one_more f xs i x (get_within xs i x is) (read_there xs i x is) h k
