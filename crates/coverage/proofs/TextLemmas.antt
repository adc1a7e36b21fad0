-- Texts of members beside their tallies, one after another.
use Rattle.std.proofs.Common.{◌≡◌, ℕ, ◌+◌, ◌≤◌, List, length, take, zip, flat_map, get_or, Option, Some, slice_get, sym, ap, ◌∙◌, arith}
use Rattle.std.proofs.lemmas.List.{take_all}
use Rattle.std.proofs.lemmas.Option.{same_Some, slice_get-get_or}
use Rattle.std.proofs.lemmas.Slice.Zip.{length-zip}
use Rattle.std.specs.List.{AllZip}
use Rattle.state_tree.proofs.Lists.{as_long, get_within, get_zip}
use Rattle.text_writer.specs.Writes.{WriterState, Writes}
use Rattle.text_writer.proofs.WritingLemmas.{one_more, alike}

module _ {A B : Type 0} {first second : WriterState} {old mid : Option (List ℕ)} (f : A × B → List ℕ) (xs : List A) (ys : List B) (i : ℕ) (h : Writes first old (flat_map f (take i (zip xs ys))) second mid) where
  -- behind the texts of the first pairs that of one more is written
  pub pair_more : {third : WriterState} {new : Option (List ℕ)} (x : A) (y : B) → slice_get xs i ≡ Some x → slice_get ys i ≡ Some y
      → Writes second mid (f (x, y)) third new → Writes first old (flat_map f (take (i + 1) (zip xs ys))) third new
  pair_more x y at beside k =
      let zs = zip xs ys in
      let there = get_zip xs ys i x y at beside in
      let within = get_within zs i (x, y) there in
      one_more f zs i (x, y) within (same_Some (x, y) (get_or zs i (x, y)) (sym there ∙ slice_get-get_or zs i (x, y) within)) h k

  -- there are no more pairs than items of the first list
  pub all_pairs : length xs ≤ i → Writes first old (flat_map f (zip xs ys)) second mid
  all_pairs l =
      let long = length-zip xs ys in
      alike (ap (λ (zs : List (A × B)). flat_map f zs) (take_all i (zip xs ys) (omega (arith, long, l)))) h

-- two lists that stand beside one are as long
pub as_many : {A B C : Type 0} (R : A → B → Type 0) (Q : A → C → Type 0) (xs : List A) (ys seen : List B) (zs : List C) → AllZip R xs ys → seen ≡ ys → AllZip Q xs zs
    → length seen ≡ length zs
as_many {A} {B} R Q xs ys seen zs r same q = ap (λ (ws : List B). length ws) same ∙ sym (as_long R xs ys r) ∙ as_long Q xs zs q
