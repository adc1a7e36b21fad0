-- The last round of a machine, by its numbers.
use Rattle.std.specs.Prelude.{◌≡◌}
use Rattle.rsml_syntax.specs.declared.syntax.Spec.{Spec}
use Rattle.rsml_meaning.specs.Truth.{view}
use Rattle.rsml_meaning.specs.Steps.{Round}
use Rattle.micro_step.specs.Micros.{enabled_numbers, sending_numbers}
use Rattle.reactions.specs.Stepping.{LastRound}

-- Its numbers are those of all transitions and of all cases of sends that were enabled on the present events.
pub record HasAllNumbers (s : Spec) (l : LastRound) : Type 0 where
  pub all_taken : l.taken ≡ enabled_numbers s (view s l.world) l.present
  pub all_sent : l.sent ≡ sending_numbers s (view s l.world) l.present

-- The round began in its world, with its present events.
pub record IsLast (l : LastRound) (r : Round) : Type 0 where
  pub world : r.world ≡ l.world
  pub present : r.present ≡ l.present
