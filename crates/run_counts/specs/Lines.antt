-- What is counted of a line.
use Rattle.std.specs.Prelude.{◌≡◌, List, Option}
use Rattle.rsml_syntax.specs.declared.syntax.Spec.{Spec}
use Rattle.rsml_syntax.specs.declared.world.World.{World}
use Rattle.rsml_meaning.specs.EventLines.{Outcome}
use Rattle.rsml_meaning.specs.Runs.{Reaction, IsRunFrom}
use Rattle.simulator.specs.helpers.Series.{world_after}
use Rattle.simulator.specs.helpers.Turns.{told_in}
use Rattle.run_counts.specs.declared.counts.Counts.{Counts}
use Rattle.run_counts.specs.Sums.{with_reactions}

-- The reaction to the event that a line tells, if it tells one, with what is counted before and after it.
pub record LineIsCounted (s : Spec) (o : Option Outcome) (w w' : World) (c c' : Counts) : Type 0 where
  pub run : List Reaction
  pub is_run : IsRunFrom s w (told_in o) run
  pub leaves : world_after w run ≡ w'
  pub counted : c' ≡ with_reactions c run
