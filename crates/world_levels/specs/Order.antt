-- The order in which parts take levels.
use Rattle.std.specs.Prelude.{ℕ, ◌+◌, List, [], ◌∷◌}
use Rattle.world_levels.specs.declared.place.Place.{Place}
use Rattle.world_levels.specs.declared.place.Place.TheVariants as place

-- how many free levels a place stands for
abbrev pub frees : Place → ℕ
frees place.Free = 1
frees _ = 0

-- how many free levels an order has
abbrev pub free_count : List Place → ℕ
free_count [] = 0
free_count (p ∷ ps) = frees p + free_count ps
