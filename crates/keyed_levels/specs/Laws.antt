-- The laws of levels that stand for comparisons.
use Rattle.std.specs.Prelude.{◌≡◌, ◌↔◌, ℕ, Bool, false}
use Rattle.rsml_syntax.specs.declared.world.World.{World}
use Rattle.rsml_meaning.specs.Worlds.{IsWorld}
use Rattle.bdd_core.specs.Diagram.{Diagram, meaning}
use Rattle.bdd_core.specs.Calls.{Keeps}
use Rattle.free_levels.specs.Keys.{AreKeys}
use Rattle.keyed_levels.specs.Keyed.{KeyedWorlds, AreKeyed, Lawful, keys_of, world_at, Tells}

-- lawful values spell worlds
abbrev pub LawfulValuesSpellWorlds : Type 0
LawfulValuesSpellWorlds = (k : KeyedWorlds) → AreKeyed k → (values : ℕ → Bool) → IsWorld k.base.spec (world_at k values)

-- and each world is spelled by some
pub record SpelledLawfully (k : KeyedWorlds) (w : World) : Type 0 where
  pub values : ℕ → Bool
  pub lawful : Lawful k values
  pub spells : world_at k values ≡ w

abbrev pub EachWorldIsSpelledLawfully : Type 0
EachWorldIsSpelledLawfully = (k : KeyedWorlds) → AreKeyed k → (w : World) → IsWorld k.base.spec w → SpelledLawfully k w

-- the levels are keys: they differ, and no comparison depends on any of them
abbrev pub TheyAreKeys : Type 0
TheyAreKeys = (k : KeyedWorlds) → AreKeyed k → AreKeys (keys_of k)

-- what a function told it still tells in a later arena
abbrev pub TellsOn : Type 0
TellsOn = (old new : Diagram) (k : KeyedWorlds) (truth : World → Bool) (r : ℕ) → Keeps old new → Tells old k truth r → Tells new k truth r

-- a function is false at all lawful values exactly where what it tells is true of no world
abbrev pub FalseInAllWorlds : Type 0
FalseInAllWorlds = (d : Diagram) (k : KeyedWorlds) (truth : World → Bool) (r : ℕ) → AreKeyed k → Tells d k truth r
    → ((values : ℕ → Bool) → Lawful k values → meaning d r values ≡ false) ↔ ((w : World) → IsWorld k.base.spec w → truth w ≡ false)
