-- The edges of a number: the one below it is at the number itself, the one above it at the next number.
use Rattle.std.specs.Prelude.{Bool, true, false, List, [], ◌++◌, flat_map, if◌then◌else◌, ℤ, pos, ◌+ℤ◌}
use Rattle.std.specs.Option.{option_map, option_to_list}
use Rattle.rsml_syntax.specs.declared.syntax.Relation.{Relation}
use Rattle.rsml_syntax.specs.declared.syntax.Relation.TheVariants as relations
use Rattle.rsml_syntax.specs.limits.Comparisons.{InputCell, GroundSum}
use Rattle.rsml_syntax.specs.limits.Thresholds.{single_cell, constant_number, mirrored, Threshold}
use Rattle.rsml_limits.specs.declared.thresholds.edge.Edge.{Edge}
use Rattle.rsml_limits.specs.declared.thresholds.edge.Edge.TheVariants.{Below, Above}
use Rattle.rsml_limits.specs.thresholds.Compared.{Right}
use Rattle.rsml_limits.specs.thresholds.Pairs.{grid}

-- the comparison of a cell with a number asks for this edge of the number
abbrev pub is_asked : Edge → Relation → Bool
is_asked Below relations.LessEqual = false
is_asked Below relations.Greater = false
is_asked Below relation = true
is_asked Above relations.Less = false
is_asked Above relations.GreaterEqual = false
is_asked Above relation = true

-- where this edge of a number is
abbrev pub edge_of : Edge → ℤ → ℤ
edge_of Below number = number
edge_of Above number = number +ℤ pos 1

-- SUMS, EACH A CELL, A CONSTANT OR NEITHER

-- the cells among sums
abbrev pub cells_of : List GroundSum → List InputCell
cells_of sums = flat_map (λ s. option_to_list (single_cell s)) sums

-- the edge of a sum that is constant
abbrev pub edge_number : Edge → GroundSum → List ℤ
edge_number edge sum = option_to_list (option_map (edge_of edge) (constant_number sum))

-- this edge of each constant among sums
abbrev pub edge_numbers : Edge → List GroundSum → List ℤ
edge_numbers edge sums = flat_map (edge_number edge) sums

-- RIGHT SIDES THAT ASK FOR AN EDGE

-- this edge of each constant right side, where a cell on the left asks for it
abbrev pub asked_numbers : Edge → List Right → List ℤ
asked_numbers edge rights = flat_map (λ r. if is_asked edge r.relation then edge_number edge r.terms else []) rights

-- the right sides that are cells and ask for this edge of a constant on the left
abbrev pub asking_cells : Edge → List Right → List InputCell
asking_cells edge rights = flat_map (λ r. if is_asked edge (mirrored r.relation) then option_to_list (single_cell r.terms) else []) rights

-- WHAT COMPARISONS ASK FOR

-- what the comparisons of sums with right sides ask for at this edge of constants
abbrev pub edge_pairs : Edge → List GroundSum → List Right → List Threshold
edge_pairs edge sums rights = grid (cells_of sums) (asked_numbers edge rights) ++ grid (asking_cells edge rights) (edge_numbers edge sums)
