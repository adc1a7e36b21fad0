-- One way in which the levels spell a number, of several.
use Rattle.std.specs.Prelude.{◌≡◌, ℕ, ◌-◌, nat_lt, Bool, true, ◌&&◌, not, if◌then◌else◌, List, [], ◌∷◌, slice_index_or, ℤ, pos}
use Rattle.rsml_syntax.specs.declared.world.World.{World}
use Rattle.rsml_meaning.specs.Worlds.{IsWorld}
use Rattle.bdd_core.specs.Diagram.{Diagram, IsRef, meaning}
use Rattle.spelled_numbers.specs.declared.weighted.Weighted.{Weighted}
use Rattle.spelled_numbers.specs.Sums.{total_weight}
use Rattle.world_levels.specs.Spelling.{spelled_world}
use Rattle.keyed_levels.specs.Keyed.{KeyedWorlds, world_at}

-- what is left of a number after a level with this weight, which is true or not
abbrev pub left_after : ℕ → ℕ → Bool → ℕ
left_after left weight is = if is then left - weight else left

-- whether a level has this value
abbrev pub has_value : (ℕ → Bool) → ℕ → Bool → Bool
has_value values level value = if value then values level else not (values level)

-- whether the levels have the values by which a number is spelled: a level is true where the later ones are not enough
abbrev pub is_spelled : List Weighted → ℕ → (ℕ → Bool) → Bool
is_spelled [] left values = true
is_spelled (t ∷ ts) left values = has_value values t.level (nat_lt (total_weight ts) left)
    && is_spelled ts (left_after left t.weight (nat_lt (total_weight ts) left)) values

-- r is true only where a cell has this number, and where a world in which it has is spelled
pub record IsNumber (d : Diagram) (k : KeyedWorlds) (cell : ℕ) (n : ℤ) (r : ℕ) : Type 0 where
  pub is_ref : IsRef d r
  pub only : (values : ℕ → Bool) → meaning d r values ≡ true → slice_index_or (world_at k values).cells cell (pos 0) ≡ n
  pub all : (w : World) (free : ℕ → Bool) → IsWorld k.base.spec w → slice_index_or w.cells cell (pos 0) ≡ n
      → meaning d r (spelled_world k.base.spec k.slots w free) ≡ true
