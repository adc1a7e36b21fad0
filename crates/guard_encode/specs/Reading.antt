-- Which parts of worlds functions read.
use Rattle.std.specs.Prelude.{◌≡◌, ◌≢◌, ℕ, Bool, slice_get}
use Rattle.rsml_syntax.specs.declared.world.World.{World}
use Rattle.rsml_meaning.specs.Worlds.{IsWorld}
use Rattle.world_levels.specs.Laws.{DifferInCell}
use Rattle.guard_encode.specs.Encoding.{Encoding, Tells}

-- two worlds that differ at most in the child of one component
pub record DifferInChoice (component : ℕ) (v w : World) : Type 0 where
  pub choices : (k : ℕ) → k ≢ component → slice_get v.choices k ≡ slice_get w.choices k
  pub cells : v.cells ≡ w.cells

-- what is told by f does not depend on the child of a component: worlds that differ in it alone have the same truth
abbrev pub IgnoresChoice : Encoding → ℕ → ℕ → Type 0
IgnoresChoice e component f = (truth : World → Bool) → Tells e truth f
    → (v w : World) → IsWorld e.machine.base.spec v → IsWorld e.machine.base.spec w → DifferInChoice component v w → truth v ≡ truth w

-- nor on the number of a cell
abbrev pub IgnoresCell : Encoding → ℕ → ℕ → Type 0
IgnoresCell e cell f = (truth : World → Bool) → Tells e truth f
    → (v w : World) → IsWorld e.machine.base.spec v → IsWorld e.machine.base.spec w
    → DifferInCell e.machine.base.spec cell v w → truth v ≡ truth w
