-- The number with which the program ends.
use Rattle.std.specs.Prelude.{ℕ}
use Rattle.answering.specs.declared.status.Status.{Status}
use Rattle.answering.specs.declared.status.Status.TheVariants as status

-- by the table of statuses
abbrev pub number : Status → ℕ
number status.Done = 0
number status.Refused = 1
number status.SpecFault = 2
number status.EventFault = 3
number status.Usage = 4
number status.ReadFault = 5
number status.WriteFault = 6
number status.NoMemory = 7
number status.TooLong = 8
