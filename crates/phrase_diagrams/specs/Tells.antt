-- Functions of levels that tell truths of worlds.
use Rattle.std.specs.Prelude.{ℕ, Bool}
use Rattle.rsml_syntax.specs.declared.world.World.{World}
use Rattle.bdd_core.specs.Diagram.{Diagram}
use Rattle.bdd_core.specs.Calls.{Represents}
use Rattle.world_levels.specs.Spelling.{WorldLevels, world_of}

-- r is true exactly where the values of the levels spell a world of which this is true
abbrev pub Tells : Diagram → WorldLevels → (World → Bool) → ℕ → Type 0
Tells d levels truth r = Represents d (λ values. truth (world_of levels.spec levels.slots values)) r
