-- What a command promises that follows an event file, as a simulation does, whatever the file and the sink do.
use Rattle.std.specs.Prelude.{◌≡◌, ◌≢◌, ℕ, ◌⊎◌, Option, Some}
use Rattle.rsml_io.specs.Counts.{Rose}
use Rattle.rsml_io.specs.Writing.{appended, AppendsProperPrefix}
use Rattle.rsml_syntax.specs.declared.syntax.Spec.{Spec}
use Rattle.rsml_meaning.specs.EventLines.{Bytes}
use Rattle.rsml_meaning.specs.EventFiles.{Limits}
use Rattle.simulator.specs.Outputs.{Output, ReadOutput, RunTexts, traces}
use Rattle.simulator.specs.declared.sim_end.SimEnd.{SimEnd}
use Rattle.simulator.specs.declared.sim_end.SimEnd.TheVariants as end

-- What it met: what its event file told of its bytes, how far it was read and how often a read of it was refused, what the sink
-- told of its written bytes, and how often a write was refused, each before and after.
pub record Meeting : Type 0 where
  pub told : Option Bytes
  pub reach : Option ℕ
  pub reach_after : Option ℕ
  pub reads_refused : ℕ
  pub reads_refused_after : ℕ
  pub written : Option Bytes
  pub written_after : Option Bytes
  pub writes_refused : ℕ
  pub writes_refused_after : ℕ

-- a read, or a write, was refused
abbrev pub ReadRefused : Meeting → Type 0
ReadRefused m = Rose m.reads_refused m.reads_refused_after

abbrev pub WriteRefused : Meeting → Type 0
WriteRefused m = Rose m.writes_refused m.writes_refused_after

-- these bytes were written, and no others; or a prefix of them, and not all
abbrev pub Writes : Meeting → Bytes → Type 0
Writes m bytes = m.written_after ≡ appended m.written bytes

abbrev pub WritesPrefix : Meeting → Bytes → Type 0
WritesPrefix m bytes = AppendsProperPrefix m.written m.written_after bytes

-- where a read of a file that tells its bytes was refused: how many had been read, which is its reach where that is told, and what was
-- to be written
pub record StopsReading (texts : RunTexts) (s : Spec) (limits : Limits) (m : Meeting) (content : Bytes) (bytes : Bytes) : Type 0 where
  pub read : ℕ
  pub output : ReadOutput texts s limits content read bytes
  pub reach : m.reach ≡ Some 0 → m.reach_after ≡ Some read

-- how it ends where neither a read nor a write was refused
abbrev pub IsOutput : RunTexts → Spec → Limits → Meeting → SimEnd → Type 0
IsOutput texts s limits m ended = ended ≢ end.ReadFault → ended ≢ end.WriteFault → (content : Bytes) → m.told ≡ Some content
    → (bytes : Bytes) × Output texts s limits content ended bytes × Writes m bytes

-- a read fault comes only where a read was refused; what is to be written then stands
abbrev pub TellsReadFault : RunTexts → Spec → Limits → Meeting → SimEnd → Type 0
TellsReadFault texts s limits m ended = ended ≡ end.ReadFault → ReadRefused m × ((content : Bytes) → m.told ≡ Some content
    → (bytes : Bytes) × StopsReading texts s limits m content bytes × Writes m bytes)

-- a write fault comes only where a write was refused; a prefix stands of what was to be written
abbrev pub LeavesPrefix : RunTexts → Spec → Limits → Meeting → SimEnd → Type 0
LeavesPrefix texts s limits m ended = ended ≡ end.WriteFault → WriteRefused m × ((content : Bytes) → m.told ≡ Some content
    → ((wanted : SimEnd) × (bytes : Bytes) × Output texts s limits content wanted bytes × WritesPrefix m bytes)
    ⊎ (ReadRefused m × ((bytes : Bytes) × StopsReading texts s limits m content bytes × WritesPrefix m bytes)))

-- All that is promised of a command that follows an event file and writes such texts. With neither a read nor a write refused it ends
-- as its event file wants, since each fault has its cause.
pub record Follows (texts : RunTexts) (s : Spec) (limits : Limits) (m : Meeting) (ended : SimEnd) : Type 0 where
  pub output : IsOutput texts s limits m ended
  pub read_fault : TellsReadFault texts s limits m ended
  pub prefix : LeavesPrefix texts s limits m ended

-- what a simulation promises
abbrev pub Simulates : Spec → Limits → Meeting → SimEnd → Type 0
Simulates = Follows traces
