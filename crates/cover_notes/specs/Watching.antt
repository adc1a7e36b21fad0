-- What a machine keeps that does what event lines tell.
use Rattle.std.specs.Prelude.{◌≡◌, ◌≤◌, List, length, ℤ}
use Rattle.rsml_syntax.specs.declared.syntax.Spec.{Spec}
use Rattle.rsml_syntax.specs.declared.world.World.{World}
use Rattle.rsml_meaning.specs.Words.{Each}
use Rattle.rsml_meaning.specs.Worlds.{IsWorld}
use Rattle.rsml_meaning.specs.Interfaces.{receives}
use Rattle.elaborate.specs.Machine.{GroundMachine}
use Rattle.micro_step.specs.Numbers.{Kept, IsFor}

-- What is kept for a machine is its own, its world is one of the specification, and there is room for the numbers of each receive.
pub record IsWatching (m : GroundMachine) (forms : Spec) (values : List ℤ) (scratch : Kept) (w : World) : Type 0 where
  pub forms_are : forms ≡ m.base.spec
  pub room : Each (λ x. length x.inputs ≤ length values) (receives m.base.spec)
  pub made : IsFor m scratch
  pub is_world : IsWorld m.base.spec w
