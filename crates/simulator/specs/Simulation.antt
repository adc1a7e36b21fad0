-- What a simulation is of, and how far it has come.
use Rattle.std.specs.Prelude.{◌≡◌, ℕ, List, [], Option, None}
use Rattle.rsml_syntax.specs.declared.syntax.Spec.{Spec}
use Rattle.rsml_syntax.specs.declared.world.World.{World}
use Rattle.rsml_meaning.specs.Words.{Instance}
use Rattle.rsml_meaning.specs.EventFiles.{Limits}
use Rattle.rsml_meaning.specs.Runs.{first_world}
use Rattle.event_file.specs.Reading.{Reading, new_reading}
use Rattle.reactions.specs.Stepping.{LastRound}
use Rattle.simulator.specs.declared.upcoming.Upcoming.{Upcoming}

pub record Simulation : Type 0 where
  -- the specification
  pub spec : Spec
  -- how many bytes a line and the event file may have
  pub limits : Limits
  -- the reader of the event file
  pub reading : Reading
  -- the final answer of `next_event`, once it is given
  pub answered : Option Upcoming
  -- the world
  pub world : World
  -- the events that are present
  pub present : List Instance
  -- how many events came
  pub events : ℕ
  -- the last round
  pub last : LastRound

-- Nothing was read, no event came, and it is in the first world, as it was before. No round was done: none took or sent anything.
pub record IsNew (m : Simulation) : Type 0 where
  pub unread : m.reading ≡ new_reading m.limits
  pub unanswered : m.answered ≡ None
  pub first : m.world ≡ first_world m.spec
  pub last : m.last.world ≡ first_world m.spec
  pub none_taken : m.last.taken ≡ []
  pub none_sent : m.last.sent ≡ []
  pub none : m.present ≡ []
  pub uncounted : m.events ≡ 0
