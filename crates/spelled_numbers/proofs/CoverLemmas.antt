-- A layout covers where the weights of each part do.
use Rattle.std.proofs.Common.{◌≡◌, ℕ, ◌+◌, ◌≤◌, eqb, Bool, true, false, if◌then◌else◌, List, [], ◌∷◌, sum, refl, arith, inl, inr}
use Rattle.std.proofs.lemmas.Bool.Decides.{eqb_tells}
use Rattle.std.proofs.lemmas.List.Sums.{sum_by-cons}
use Rattle.spelled_numbers.specs.declared.slot.Slot.{Slot}
use Rattle.spelled_numbers.specs.declared.slot.Slot.TheVariants.{Part, Free}
use Rattle.spelled_numbers.specs.Weights.{IsCovering}
use Rattle.spelled_numbers.specs.Spelling.{total, Covers, weights_of}

one_total : (b : Bool) (w n : ℕ) (ws : List ℕ) → n ≡ sum ws → (if b then w else 0) + n ≡ sum (if b then w ∷ ws else ws)
one_total true w n ws e = omega (arith, e, sum_by-cons (λ (x : ℕ). x) w ws)
one_total false w n ws e = omega (arith, e)

pub total_sum : (p : ℕ) (slots : List Slot) → total p slots ≡ sum (weights_of p slots)
total_sum p [] = refl
total_sum p (Part q w ∷ ss) = one_total (eqb q p) w (total p ss) (weights_of p ss) (total_sum p ss)
total_sum p (Free ∷ ss) = omega (arith, total_sum p ss)

later_covers : (b : Bool) (w : ℕ) (ws : List ℕ) → IsCovering (if b then w ∷ ws else ws) → IsCovering ws
later_covers true w ws c = c.1
later_covers false w ws c = c

first_fits : (b : Bool) (w : ℕ) (ws : List ℕ) → b ≡ true → IsCovering (if b then w ∷ ws else ws) → w ≤ sum ws + 1
first_fits true w ws e c = c.0
first_fits false w ws e c = cc

itself : (q : ℕ) → eqb q q ≡ true
itself q = elim (eqb_tells q q) [ inl h ↦ h.0 | inr h ↦ absurd (h.1 refl) ]

pub covers : (slots : List Slot) → ((p : ℕ) → IsCovering (weights_of p slots)) → Covers slots
covers [] all = tt
covers (Part q w ∷ ss) all = (
  omega (arith, total_sum q ss, first_fits (eqb q q) w (weights_of q ss) (itself q) (all q)),
  covers ss (λ p. later_covers (eqb q p) w (weights_of p ss) (all p)),
)
covers (Free ∷ ss) all = covers ss all
