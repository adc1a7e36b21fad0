-- The truths of all phrases, given one after the other.
use Rattle.std.proofs.Common.{◌≡◌, ℕ, zero, suc, ◌+◌, ◌<◌, ◌≤◌, Bool, List, [], ◌∷◌, ◌++◌, fold, length, take, set, Some, refl, sym, ap, ◌∙◌, slice_get, arith, add-one}
use Rattle.std.proofs.lemmas.List.{take_all}
use Rattle.rsml_syntax.specs.declared.world.World.{World}
use Rattle.rsml_meaning.specs.Cells.{cells}
use Rattle.and_or_tables.specs.Ground.{known}
use Rattle.rsml_ground.specs.declared.phrases.GroundPhrase.{GroundPhrase}
use Rattle.rsml_ground.specs.Truths.{Grounded, phrase_truth, with_next, truths_in}
use Rattle.rsml_ground.specs.Grounded.{IsGrounded}
use Rattle.macros.proofs.Alike.{phrase_alike}
use Rattle.macros.proofs.Below.{IsBelow, names_below}
use Rattle.macros.proofs.Below.{none_some, some_same}

known_taken : (ts : List Bool) (n k : ℕ) → k < n → known ts k ≡ known (take n ts) k
known_taken [] zero k h = refl
known_taken [] (suc n) k h = refl
known_taken (t ∷ ts) zero k h = absurd (omega (arith, h))
known_taken (t ∷ ts) (suc n) zero h = refl
known_taken (t ∷ ts) (suc n) (suc k) h = known_taken ts n k (omega (arith, h))

take_set : (ts : List Bool) (n : ℕ) (t : Bool) → n < length ts → take (suc n) (set ts n t) ≡ take n ts ++ (t ∷ [])
take_set [] n t h = absurd (omega (arith, h))
take_set (u ∷ ts) zero t h = refl
take_set (u ∷ ts) (suc n) t h = ap (λ (xs : List Bool). u ∷ xs) (take_set ts n t (omega (arith, h)))

fold_more : (f : List Bool → GroundPhrase → List Bool) (ps : List GroundPhrase) (ts : List Bool) (n : ℕ) (p : GroundPhrase) → slice_get ps n ≡ Some p
    → fold f ts (take (suc n) ps) ≡ f (fold f ts (take n ps)) p
fold_more f [] ts n p h = absurd (none_some h)
fold_more f (q ∷ ps) ts zero p h = ap (f ts) (some_same h)
fold_more f (q ∷ ps) ts (suc n) p h = fold_more f ps (f ts q) n p h

-- one more phrase has its truth
pub filled_more : (g : Grounded) (w : World) (ts : List Bool) (n : ℕ) (p : GroundPhrase) (t : Bool) → IsGrounded g → n < length ts
    → slice_get g.phrases n ≡ Some p → t ≡ phrase_truth g w ts p
    → take n ts ≡ fold (with_next g w) [] (take n g.phrases)
    → take (n + 1) (set ts n t) ≡ fold (with_next g w) [] (take (n + 1) g.phrases)
filled_more g w ts n p t is h at truth before =
    let named = names_below g.definitions (length (cells g.spec)) n p (is.rest.phrase n p at) in
    let alike : phrase_truth g w ts p ≡ phrase_truth g w (take n ts) p = phrase_alike (IsBelow n) ts (take n ts) (known_taken ts n) g w p named in
    ap (λ k. take k (set ts n t)) (add-one n)
    ∙ take_set ts n t h
    ∙ ap (λ b. take n ts ++ (b ∷ [])) (truth ∙ alike)
    ∙ ap (λ us. with_next g w us p) before
    ∙ sym (fold_more (with_next g w) g.phrases [] n p at)
    ∙ ap (λ k. fold (with_next g w) [] (take k g.phrases)) (sym (add-one n))

-- all phrases have
pub filled : (g : Grounded) (w : World) (ts : List Bool) (n : ℕ) → length ts ≡ length g.phrases → length g.phrases ≤ n
    → take n ts ≡ fold (with_next g w) [] (take n g.phrases) → ts ≡ truths_in g w
filled g w ts n many past before =
    sym (take_all n ts (omega (arith, many, past))) ∙ before ∙ ap (fold (with_next g w) []) (take_all n g.phrases past)
