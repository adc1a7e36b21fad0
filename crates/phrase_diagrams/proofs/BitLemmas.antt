-- The levels of a part, with a sign.
use Rattle.std.proofs.Common.{◌≡◌, ℕ, zero, suc, ◌+◌, eqb, Bool, true, false, if◌then◌else◌, List, [], ◌∷◌, ◌++◌, map, refl, ◌∙◌, ap, arith, Some, None, option_to_list}
use Rattle.std.proofs.lemmas.List.{map-append}
use Rattle.std.proofs.lemmas.List.Elements.{All-append}
use Rattle.spelled_numbers.specs.declared.weighted.Weighted.{Weighted}
use Rattle.spelled_numbers.specs.Sums.{AddOnly}
use Rattle.spelled_numbers.specs.declared.slot.Slot.{Slot}
use Rattle.spelled_numbers.specs.declared.slot.Slot.TheVariants.{Part, Free}
use Rattle.spelled_numbers.specs.Bits.{bits_of}
use Rattle.phrase_diagrams.specs.Signs.{with_sign}

-- one level
abbrev one_bit : Bool → Bool → ℕ → ℕ → List Weighted
one_bit b minus w k = option_to_list (if b then Some (record { minus = minus; level = k; weight = w }) else None)

one_signed : (b minus : Bool) (w k : ℕ) → map (with_sign minus) (one_bit b false w k) ≡ one_bit b minus w k
one_signed true minus w k = refl
one_signed false minus w k = refl

signed_from : (p : ℕ) (minus : Bool) (slots : List Slot) (k : ℕ) → map (with_sign minus) (bits_of p false slots k) ≡ bits_of p minus slots k
signed_from p minus [] k = refl
signed_from p minus (Part q w ∷ ss) k =
    map-append (with_sign minus) (one_bit (eqb q p) false w k) (bits_of p false ss (k + 1))
    ∙ ap (λ xs. xs ++ map (with_sign minus) (bits_of p false ss (k + 1))) (one_signed (eqb q p) minus w k)
    ∙ ap (λ xs. one_bit (eqb q p) minus w k ++ xs) (signed_from p minus ss (k + 1))
signed_from p minus (Free ∷ ss) k = signed_from p minus ss (k + 1)

-- the levels of a part, each with this sign
pub signed_bits : (p : ℕ) (minus : Bool) (slots : List Slot) → map (with_sign minus) (bits_of p false slots 0) ≡ bits_of p minus slots 0
signed_bits p minus slots = signed_from p minus slots 0

one_adds : (b : Bool) (w k : ℕ) → AddOnly (one_bit b false w k)
one_adds true w k zero d less = refl
one_adds true w k (suc i) d less = absurd (omega (arith, less))
one_adds false w k i d less = absurd (omega (arith, less))

add_from : (p : ℕ) (slots : List Slot) (k : ℕ) → AddOnly (bits_of p false slots k)
add_from p [] k = λ i d less. absurd (omega (arith, less))
add_from p (Part q w ∷ ss) k =
    All-append (λ (t : Weighted). t.minus ≡ false) (one_bit (eqb q p) false w k) (bits_of p false ss (k + 1)) (one_adds (eqb q p) w k) (add_from p ss (k + 1))
add_from p (Free ∷ ss) k = add_from p ss (k + 1)

-- the weights of a part add
pub bits_add : (p : ℕ) (slots : List Slot) → AddOnly (bits_of p false slots 0)
bits_add p slots = add_from p slots 0
