-- Indices that follow each other.
use Rattle.std.specs.Prelude.{ℕ, suc, ◌+◌, ◌-◌, List, Option, nat_eq}
use Rattle.std.specs.Option.{option_map}
use Rattle.std.specs.List.{position_from, range_with_len}

-- the lowest index to the highest
abbrev pub range : ℕ → ℕ → List ℕ
range low high = range_with_len low (suc high - low)

-- the place of an index, where the first one has this place
abbrev pub place_from : ℕ → List ℕ → ℕ → Option ℕ
place_from first indices index = option_map (λ place. first + place) (position_from (nat_eq index) 0 indices)
