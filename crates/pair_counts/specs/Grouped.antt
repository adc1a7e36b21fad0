-- Blocks grouped by their fixed numbers: each number with the places of its lists, in the order of the blocks.
use Rattle.std.specs.Prelude.{ℕ, ◌==◌, nat_eq, List, [], map, filter, unwrap_or}
use Rattle.std.specs.Map.{lookup}
use Rattle.pair_counts.specs.declared.blocks.Block.{Block}

-- the places of the lists of a number
abbrev pub places_of : List Block → ℕ → List ℕ
places_of blocks fixed = map (λ l. l.list) (filter (λ l. fixed == l.fixed) blocks)

-- the places that stand with a number, none where it is not there
abbrev pub places_at : List (ℕ × List ℕ) → ℕ → List ℕ
places_at groups fixed = unwrap_or (lookup (nat_eq fixed) groups) []
