-- What a counter keeps, and how it counts.
use Rattle.std.specs.Prelude.{◌≡◌, ℕ, ◌+◌, ◌<◌, ◌^◌, List, [], map, length, replicate, Option, Some, None, slice_index_or, if◌then◌else◌}
use Rattle.rsml_syntax.specs.declared.syntax.Cell.{Cell}
use Rattle.rsml_syntax.specs.declared.syntax.Guard.{Guard}
use Rattle.rsml_syntax.specs.rules.Tables.{column, below}
use Rattle.and_or_tables.specs.Asked.{asked}
use Rattle.and_or_tables.specs.Shape.{cells_of, columns}
use Rattle.rsml_ground.specs.declared.definitions.GroundGuard.{GroundGuard}
use Rattle.rsml_ground.specs.declared.definitions.GroundGuard.TheVariants as guards
use Rattle.micro_step.specs.Rising.{among}
use Rattle.coverage.specs.Coverage.{Covered, cells_in, columns_in}
use Rattle.coverage.specs.declared.counter.Counter.{Counter}

-- the cells of the table that is kept, if one is
abbrev pub cells_kept : Option (List (List Cell)) → List (List Cell)
cells_kept None = []
cells_kept (Some cells) = cells

-- the cells of the rows of a guard over numbers; `always` has none
abbrev pub ground_cells : GroundGuard → List (List Cell)
ground_cells guards.Always = []
ground_cells (guards.Table table) = cells_of table

-- nothing is covered of a table of so many columns
abbrev pub none_yet : ℕ → Covered
none_yet n = record { count = 0; columns = replicate n 0 }

-- one round more, in which the truths of the rows are these bits
abbrev pub one_more : ℕ → List (List Cell) → Covered → Covered
one_more bits cells c = record {
  count = c.count + 1;
  columns = map (λ place. slice_index_or c.columns place 0 + (if column (asked bits cells) place then 1 else 0)) (below (length c.columns));
}

-- a counter that has counted one round more
abbrev pub counted : ℕ → Counter → Counter
counted bits c = record c { tally = one_more bits (cells_kept c.masks) c.tally }

-- the counter of a number, which has counted one round more if the number is among these
abbrev pub counted_among : List ℕ → (ℕ → ℕ) → ℕ → Counter → Counter
counted_among ks bits k c = if among ks k then counted (bits k) c else c

-- A counter counts the columns of its table, and there is room for more rounds.
pub record IsReady (c : Counter) : Type 0 where
  pub whole : length c.tally.columns ≡ columns (cells_kept c.masks)
  pub room : c.tally.count < 2 ^ 63

-- A counter of a table with these cells has counted nothing yet.
pub record IsNew (cells : List (List Cell)) (c : Counter) : Type 0 where
  pub kept : cells_kept c.masks ≡ cells
  pub none : c.tally ≡ none_yet (columns cells)

-- A counter keeps the cells of a guard's table, and counts its columns.
pub record IsOf (g : Guard) (c : Counter) : Type 0 where
  pub kept : cells_kept c.masks ≡ cells_in g
  pub long : length c.tally.columns ≡ columns_in g
