-- What a simulation keeps true.
use Rattle.std.specs.Prelude.{◌≡◌, ◌≢◌, ℕ, ◌≤◌, Option, Some, None, IfSome, ⊤}
use Rattle.rsml_meaning.specs.EventFiles.{program_limits}
use Rattle.event_file.specs.Reading.{Reading}
use Rattle.event_file.specs.declared.next.Next.TheVariants as next
use Rattle.simulator.specs.declared.upcoming.Upcoming.{Upcoming}
use Rattle.simulator.specs.declared.upcoming.Upcoming.TheVariants as upcoming

-- an answer is final
abbrev pub IsFinal : Upcoming → Type 0
IsFinal (upcoming.Event k) = ⊥
IsFinal _ = ⊤

-- There are no more events than bytes before the reader's offset, which is within the limits; what was answered is final; and a refused
-- read was answered at once.
pub record IsGoing (r : Reading) (answered : Option Upcoming) (events : ℕ) : Type 0 where
  pub limit : r.limits.file ≤ program_limits.file
  pub within : r.at ≤ r.limits.file
  pub few : events ≤ r.at
  pub final : IfSome answered IsFinal
  pub unrefused : answered ≡ None → r.settled ≢ Some next.ReadFault
