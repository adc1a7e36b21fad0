-- Steps that are counted.
use Rattle.std.specs.Prelude.{◌≡◌, ℕ, ◌+◌, ◌<◌, ◌≤◌, ◌^◌, List, ◌++◌, length}
use Rattle.rsml_syntax.specs.declared.syntax.Spec.{Spec}
use Rattle.rsml_syntax.specs.declared.world.World.{World}
use Rattle.rsml_meaning.specs.Words.{Instance}
use Rattle.rsml_meaning.specs.Steps.{Round, IsStep}
use Rattle.coverage.specs.Coverage.{Coverage, coverage}

-- What was counted is what some rounds cover, and there is room for so many more.
pub record HasRoom (more : ℕ) (c : Coverage) : Type 0 where
  pub rounds : List Round
  pub counted : c ≡ coverage c.spec rounds
  pub few : length rounds + more < 2 ^ 63

-- A step of at most 1,024 rounds, which were counted.
pub record StepIsCounted (s : Spec) (w : World) (present : List Instance) (w' : World) (c c' : Coverage) : Type 0 where
  pub rounds : List Round
  pub is : IsStep s w present rounds w'
  pub few : length rounds ≤ 1024
  pub counted : (rs : List Round) → c ≡ coverage s rs → c' ≡ coverage s (rs ++ rounds)
