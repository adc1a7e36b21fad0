-- What is counted of the parts of a run: rounds, steps and reactions.
use Rattle.std.specs.Prelude.{◌≡◌, List, [], ◌∷◌}
use Rattle.rsml_syntax.specs.declared.syntax.Spec.{Spec}
use Rattle.rsml_syntax.specs.declared.world.World.{World}
use Rattle.rsml_meaning.specs.Words.{Instance}
use Rattle.rsml_meaning.specs.EventLines.{Message}
use Rattle.rsml_meaning.specs.Steps.{Round, IsRound, IsStep}
use Rattle.rsml_meaning.specs.Runs.{Reaction, IsReaction}
use Rattle.run_counts.specs.declared.counts.Counts.{Counts}
use Rattle.run_counts.specs.Sums.{with_rounds, with_reactions}

-- A round, with what is counted before and after it.
pub record RoundIsCounted (s : Spec) (w : World) (present : List Instance) (w' : World) (raised : List Instance) (c c' : Counts) : Type 0 where
  pub round : Round
  pub is : IsRound s w present round w' raised
  pub counted : c' ≡ with_rounds c (round ∷ [])

-- A step, with what is counted before and after it.
pub record StepIsCounted (s : Spec) (w : World) (present : List Instance) (w' : World) (c c' : Counts) : Type 0 where
  pub rounds : List Round
  pub is : IsStep s w present rounds w'
  pub counted : c' ≡ with_rounds c rounds

-- The reaction to a message, with what is counted before and after it.
pub record EventIsCounted (s : Spec) (m : Message) (w w' : World) (c c' : Counts) : Type 0 where
  pub reaction : Reaction
  pub is : IsReaction s w m reaction
  pub leaves : reaction.world ≡ w'
  pub counted : c' ≡ with_reactions c (reaction ∷ [])
