-- What there is on each event.
use Rattle.std.specs.Prelude.{◌≡◌, ℕ, suc, ◌<◌, List, [], ◌∷◌, map, length, Some, slice_get, if◌then◌else◌, ◌==◌}
use Rattle.elaborate.specs.Machine.{GroundMachine}

-- the places, counted from a number, of those that are this number
abbrev pub places_of : ℕ → ℕ → List ℕ → List ℕ
places_of n at [] = []
places_of n at (x ∷ xs) = if x == n then at ∷ places_of n (suc at) xs else places_of n (suc at) xs

-- the numbers of the transitions on an event, rising
abbrev pub transitions_on : GroundMachine → ℕ → List ℕ
transitions_on m event = places_of event 0 (map (λ x. x.event) m.transitions)

-- the numbers of the cases of sends on an event, rising
abbrev pub cases_on : GroundMachine → ℕ → List ℕ
cases_on m event = places_of event 0 (map (λ x. x.event) m.send_cases)

-- for each number below the count the places of those that are this number
pub record AreOn (count : ℕ) (numbers : List ℕ) (lists : List (List ℕ)) : Type 0 where
  pub long : length lists ≡ count
  pub each : (n : ℕ) → n < count → slice_get lists n ≡ Some (places_of n 0 numbers)
