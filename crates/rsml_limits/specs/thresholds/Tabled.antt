-- AskBlocks of a table: a cell by its place, with the numbers of a list.
use Rattle.std.specs.Prelude.{◌≡◌, ℕ, ◌<◌, false, List, [], ◌++◌, map, flat_map, slice_index_or, ℤ, pos}
use Rattle.std.specs.List.{All}
use Rattle.std.specs.Option.{option_map_or}
use Rattle.pair_counts.specs.declared.blocks.Block.{Block}
use Rattle.pair_counts.specs.Blocks.{list_at}
use Rattle.rsml_syntax.specs.text.Names.{Name}
use Rattle.rsml_syntax.specs.rules.Globals.{Globals, meaning}
use Rattle.rsml_syntax.specs.limits.Comparisons.{InputCell}
use Rattle.rsml_syntax.specs.limits.Thresholds.{Threshold, ends}

abbrev pub cell_at : List InputCell → ℕ → InputCell
cell_at cells place = slice_index_or cells place (record { previous = false; input = []; at = 0 })

-- the pairs of a block
abbrev pub block_pairs : List InputCell → List (List ℤ) → Block → List Threshold
block_pairs cells lists l = map (λ n. (cell_at cells l.fixed, n)) (list_at lists l.list)

-- those of all blocks
abbrev pub table_pairs : List InputCell → List (List ℤ) → List Block → List Threshold
table_pairs cells lists blocks = flat_map (block_pairs cells lists) blocks

-- the places of blocks are among this many cells and lists
abbrev pub AreWithin : ℕ → ℕ → List Block → Type 0
AreWithin cells lists blocks = All (λ l. (l.fixed < cells) × (l.list < lists)) blocks

-- A list that begins with an older one.
pub record Extends {A : Type 0} (old new : List A) : Type 0 where
  pub more : List A
  pub is : new ≡ old ++ more

-- the lowest and the highest number of an input; no number is between those of what is not declared
abbrev pub input_ends : Globals → Name → ℤ × ℤ
input_ends g input = option_map_or (ends g) (meaning g input) (pos 0, pos 0)
