-- Cells with the numbers that are asked of them, whether they are inner or not.
use Rattle.std.specs.Prelude.{◌≡◌, Bool, List, [], ◌++◌, map, flat_map, Option, Some, ℤ}
use Rattle.std.specs.List.{list_any}
use Rattle.rsml_syntax.specs.declared.syntax.Relation.{Relation}
use Rattle.rsml_syntax.specs.rules.Globals.{Globals}
use Rattle.rsml_syntax.specs.limits.Comparisons.{InputCell, Comparison}
use Rattle.rsml_syntax.specs.limits.Thresholds.{single_cell, constant_number, mirrored, asked, is_inner, Threshold, same_threshold}

-- Lists with the same members.
pub record SameMembers {A : Type 0} (eq : A → A → Bool) (xs ys : List A) : Type 0 where
  pub same : (q : A) → list_any (eq q) xs ≡ list_any (eq q) ys

-- the same pairs, in any order and number
abbrev pub SamePairs : List Threshold → List Threshold → Type 0
SamePairs xs ys = SameMembers same_threshold xs ys

-- each cell with each number
abbrev pub grid : List InputCell → List ℤ → List Threshold
grid cells numbers = flat_map (λ c. map (λ n. (c, n)) numbers) cells

-- a cell with the numbers that its comparison with a constant asks for
abbrev pub cell_pairs : Option InputCell → Relation → Option ℤ → List Threshold
cell_pairs (Some cell) relation (Some c) = map (λ n. (cell, n)) (asked relation c)
cell_pairs _ relation _ = []

-- those of a comparison; one with the constant on the left is read mirrored
abbrev pub pairs : Comparison → List Threshold
pairs x =
    cell_pairs (single_cell x.left) x.relation (constant_number x.right)
    ++ cell_pairs (single_cell x.right) (mirrored x.relation) (constant_number x.left)

abbrev pub has_inner : Globals → Threshold → Bool
has_inner g t = is_inner g t.0.input t.1
