-- Rows that are left out, columns with their numbers, and the whole text.
use Rattle.std.proofs.Common.{◌≡◌, ℕ, zero, suc, ◌+◌, Bool, true, List, [], ◌∷◌, ◌++◌, length, if◌then◌else◌, ℤ, Option, Some, Result, Ok, Err, IfOk, ◌↔◌, slice_get, refl, sym, ap, ◌∙◌, arith, w64, FitsSigned, to_z, of_z}
use Rattle.std.specs.Option.{option_map}
use Rattle.std.specs.Ordering.{int_eq}
use Rattle.std.specs.Result.{IsOk}
use Rattle.std.proofs.lemmas.Bool.Decides.{Decides-int_eq}
use Rattle.std.proofs.lemmas.Int.{to_z-of_z}
use Rattle.std.proofs.lemmas.Option.{same_Some}
use Rattle.rsml_meaning.specs.Texts.{Text}
use Rattle.rsml_meaning.specs.Words.{numbered_from}
use Rattle.state_tree.proofs.Lists.{not_true}
use Rattle.text_writer.specs.Writes.{Writes}
use Rattle.text_writer.specs.DraftState.{DraftState, empty, writer_state}

-- the text of numbers that differ
pub unlike : (m n : ℤ) (same other : Text) → (of_z w64 m ≡ of_z w64 n → ⊥) → other ≡ (if int_eq m n then same else other)
unlike m n same other h =
    let no = not_true (int_eq m n) (λ e. h (ap (λ (z : ℤ). of_z w64 z) ((Decides-int_eq m n).0 e))) in
    sym (ap (λ (b : Bool). if b then same else other) no)

-- and of numbers that do not
pub like : (m n : ℤ) (same other : Text) → FitsSigned w64 m → FitsSigned w64 n → of_z w64 m ≡ of_z w64 n → same ≡ (if int_eq m n then same else other)
like m n same other fits small e =
    let is = sym (to_z-of_z w64 m fits) ∙ ap (to_z w64) e ∙ to_z-of_z w64 n small in
    sym (ap (λ (b : Bool). if b then same else other) ((Decides-int_eq m n).1 is))

-- items with their numbers
pub numbered_long : {A : Type 0} (n : ℕ) (xs : List A) → length (numbered_from n xs) ≡ length xs
numbered_long n [] = refl
numbered_long n (x ∷ xs) = ap suc (numbered_long (suc n) xs)

pub numbered_there : {A : Type 0} (n k : ℕ) (xs : List A) (x : A) → slice_get xs k ≡ Some x → slice_get (numbered_from n xs) k ≡ Some (n + k, x)
numbered_there n k [] x h = absurd (let no : ⊥ = cc in no)
numbered_there {A} n zero (y ∷ xs) x h =
    let same : n ≡ n + 0 = omega arith in
    ap (λ (o : Option A). option_map (λ z. (n, z)) o) h ∙ ap (λ (m : ℕ). Some (m, x)) same
numbered_there {A} n (suc k) (y ∷ xs) x h =
    let same : suc n + k ≡ n + suc k = omega arith in
    numbered_there (suc n) k xs x h ∙ ap (λ (m : ℕ). Some (m, x)) same

-- what is written to an empty draft is what it gives
pub finished : {T E : Type 0} (items : T → List ℕ) (r : Result T E) (start end : DraftState) (t : List ℕ) → start ≡ empty → Writes (writer_state start) (Some start.text) t (writer_state end) (Some end.text)
    → IsOk r ↔ (end.whole ≡ true) → IfOk r (λ v. items v ≡ end.text) → IfOk r (λ v. items v ≡ t)
finished items (Ok v) start end t e h ok given =
    let written : end.text ≡ start.text ++ t = same_Some end.text (start.text ++ t) (h.all (ok.0 refl)) in
    given ∙ written ∙ ap (λ (d : DraftState). d.text ++ t) e
finished items (Err x) start end t e h ok given = tt
