-- The numbers that values of the levels spell, and values that spell numbers.
use Rattle.std.specs.Prelude.{◌≡◌, ℕ, ◌+◌, ◌-◌, ◌≤◌, nat_lt, ◌==◌, Bool, false, if◌then◌else◌, List, [], ◌∷◌, slice_index_or, slice_get, Some, ⊤}
use Rattle.spelled_numbers.specs.declared.slot.Slot.{Slot}
use Rattle.spelled_numbers.specs.declared.slot.Slot.TheVariants.{Part, Free}

-- the weight of a slot for a part
abbrev pub weight_for : ℕ → Slot → ℕ
weight_for p (Part q w) = if q == p then w else 0
weight_for p Free = 0

-- the greatest number of a part
abbrev pub total : ℕ → List Slot → ℕ
total p [] = 0
total p (s ∷ ss) = weight_for p s + total p ss

-- the number of a part, where the first slot is that of level k
abbrev pub number : ℕ → List Slot → (ℕ → Bool) → ℕ → ℕ
number p [] values k = 0
number p (s ∷ ss) values k = (if values k then weight_for p s else 0) + number p ss values (k + 1)

-- each weight is at most one more than the sum of the later ones of its part
abbrev pub Covers : List Slot → Type 0
Covers [] = ⊤
Covers (Part q w ∷ ss) = (w ≤ total q ss + 1) × Covers ss
Covers (Free ∷ ss) = Covers ss

-- the weights of a part, in order
abbrev pub weights_of : ℕ → List Slot → List ℕ
weights_of p [] = []
weights_of p (Part q w ∷ ss) = if q == p then w ∷ weights_of p ss else weights_of p ss
weights_of p (Free ∷ ss) = weights_of p ss

-- what is left to spell where a level counts with a weight for a part
abbrev pub left_after : (ℕ → ℕ) → ℕ → ℕ → ℕ → ℕ
left_after numbers q w p = numbers p - (if q == p then w else 0)

-- the values of the levels from k on: one of a part is true where the later ones of its part are not enough
abbrev pub digits : List Slot → (ℕ → ℕ) → (ℕ → Bool) → ℕ → List Bool
digits [] numbers free k = []
digits (Part q w ∷ ss) numbers free k = nat_lt (total q ss) (numbers q)
    ∷ digits ss (if nat_lt (total q ss) (numbers q) then left_after numbers q w else numbers) free (k + 1)
digits (Free ∷ ss) numbers free k = free k ∷ digits ss numbers free (k + 1)

-- values of the levels that spell these numbers, the free levels as they are
abbrev pub spelled : List Slot → (ℕ → ℕ) → (ℕ → Bool) → ℕ → Bool
spelled slots numbers free level = slice_index_or (digits slots numbers free 0) level false

-- the level is one of the part's
abbrev pub IsLevelOf : ℕ → List Slot → ℕ → Type 0
IsLevelOf p slots level = (w : ℕ) × (slice_get slots level ≡ Some (Part p w))
