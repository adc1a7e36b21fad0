-- What a step comes to.
use Rattle.std.specs.Prelude.{◌≡◌, List}
use Rattle.rsml_syntax.specs.declared.syntax.Spec.{Spec}
use Rattle.rsml_syntax.specs.declared.world.World.{World}
use Rattle.rsml_meaning.specs.Words.{Instance}
use Rattle.rsml_meaning.specs.Steps.{Round, IsStep}

-- What a step comes to: its rounds, each with its present events, taken transitions, send cases and values; and the
-- world that it leaves.
pub record StepResult : Type 0 where
  pub rounds : List Round
  pub world : World

-- a step from present events comes to this
abbrev pub IsStepResult : Spec → World → List Instance → StepResult → Type 0
IsStepResult s w present r = IsStep s w present r.rounds r.world

-- a step from present events comes to one thing
abbrev pub HasOneStep : Spec → World → List Instance → Type 0
HasOneStep s w present = (r : StepResult) × IsStepResult s w present r × ((q : StepResult) → IsStepResult s w present q → q ≡ r)
