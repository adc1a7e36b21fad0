-- Worlds, their order, and what a cell holds. A world need not be reachable.
use Rattle.std.specs.Prelude.{◌≡◌, ℕ, Bool, true, false, ◌&&◌, not, length, Option, Some, None, if◌then◌else◌, ℤ, pos, IsTrue, nat_lt, zip, unwrap_or}
use Rattle.std.specs.Ordering.{then_cmp, on, nat_cmp, int_cmp}
use Rattle.std.specs.Cmp.Lexicographic.{pointwise, slice_cmp}
use Rattle.std.specs.declared.cmp.Ordering.{Ordering}
use Rattle.std.specs.declared.cmp.Ordering.TheVariants.{Less}
use Rattle.rsml_syntax.specs.declared.syntax.Spec.{Spec}
use Rattle.rsml_syntax.specs.declared.world.World.{World}
use Rattle.rsml_meaning.specs.Words.{Instance, same_instance, first_some}
use Rattle.rsml_meaning.specs.Instances.{Component, components}
use Rattle.rsml_meaning.specs.Cells.{InputCell, cells, is_of}

-- the place of a child
abbrev pub is_choice : Component → ℕ → Bool
is_choice c place = nat_lt place (length c.children)

-- one child for each component, and for each cell a number of its type
abbrev pub is_world : Spec → World → Bool
is_world s w = pointwise is_choice (components s) w.choices && pointwise (λ c n. is_of c.numbers n) (cells s) w.cells

-- it is a world of the specification
abbrev pub IsWorld : Spec → World → Type 0
IsWorld s w = IsTrue (is_world s w)

-- first the components by the place of their child, then the cells by their number; the first difference decides
abbrev pub world_cmp : World → World → Ordering
world_cmp = then_cmp (on (λ w. w.choices) (slice_cmp nat_cmp)) (on (λ w. w.cells) (slice_cmp int_cmp))

-- the first world is before the second
abbrev pub IsBefore : World → World → Type 0
IsBefore v w = world_cmp v w ≡ Less

-- whether this is the input's cell, or with true its previous cell
abbrev pub is_cell : Bool → Instance → InputCell → Bool
is_cell true input c = c.previous && same_instance c.input input
is_cell false input c = not c.previous && same_instance c.input input

-- the number of a cell, where it is this one
abbrev pub held : Bool → Instance → InputCell × ℤ → Option ℤ
held previous input c = if is_cell previous input c.0 then Some c.1 else None

-- the number of the input's cell, or with true of its previous cell
abbrev pub cell : Spec → World → Bool → Instance → ℤ
cell s w previous input = unwrap_or (first_some (held previous input) (zip (cells s) w.cells)) (pos 0)
