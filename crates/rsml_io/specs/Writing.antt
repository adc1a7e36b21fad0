-- What a write adds to the written bytes.
use Rattle.std.specs.Prelude.{◌≡◌, ℕ, ◌<◌, List, ◌++◌, length, take, Option, option_map}

-- the written bytes, where they are told, with these at their end
abbrev pub appended : Option (List ℕ) → List ℕ → Option (List ℕ)
appended written bytes = option_map (λ w. w ++ bytes) written

-- some bytes from the front were written, and not all
abbrev pub AppendsProperPrefix : Option (List ℕ) → Option (List ℕ) → List ℕ → Type 0
AppendsProperPrefix old new bytes = (n : ℕ) × (n < length bytes) × (new ≡ appended old (take n bytes))
