-- When a simulation fits what its event file holds, and what an answer of `next_event` says.
use Rattle.std.specs.Prelude.{◌≡◌, ℕ, ◌+◌, ◌⊎◌, List, [], ◌∷◌, ◌++◌, length, Option, Some, None, IfSome, slice_get}
use Rattle.rsml_meaning.specs.Words.{Each}
use Rattle.rsml_meaning.specs.EventLines.{Bytes, Message}
use Rattle.rsml_meaning.specs.EventFiles.{Line, FileFault, long_line, broken_line, long_file, IsWellFormed, IsFirstFault, fault_at, lines_of, lines_before, sound_lines, messages}
use Rattle.rsml_meaning.specs.Interfaces.{receives}
use Rattle.rsml_meaning.specs.Runs.{latched}
use Rattle.event_file.specs.Reading.{Fits, lines_ahead, taken}
use Rattle.event_lines.specs.Told.{rule_of}
use Rattle.simulator.specs.Simulation.{Simulation}
use Rattle.simulator.specs.declared.upcoming.Upcoming.{Upcoming}
use Rattle.simulator.specs.declared.upcoming.Upcoming.TheVariants as upcoming

-- the lines that were read
abbrev pub lines_read : Bytes → Simulation → List Line
lines_read content m = lines_ahead m.reading.at content

-- the fault of an event file that an answer tells
abbrev pub fault_in : Upcoming → Option FileFault
fault_in (upcoming.LineFault n fault) = Some (broken_line n (rule_of fault))
fault_in (upcoming.LineTooLong n) = Some (long_line n)
fault_in upcoming.TooLong = Some long_file
fault_in _ = None

-- the same, of the final answer where there is one
abbrev pub answered_fault : Simulation → Option FileFault
answered_fault m = elim m.answered [ Some answer ↦ fault_in answer | None ↦ None ]

-- a line has no fault, or the one that was answered
abbrev pub IsSoundOrTold : Bytes → Simulation → Line → Type 0
IsSoundOrTold content m l = (fault_at m.spec m.limits (length content) l ≡ None) ⊎ (fault_at m.spec m.limits (length content) l ≡ answered_fault m)

-- The fault is the first of the file, and the messages before it came.
pub record StopsAt (content : Bytes) (m : Simulation) (f : FileFault) : Type 0 where
  pub first : IsFirstFault m.spec m.limits content f
  pub came : messages m.spec (lines_read content m) ≡ messages m.spec (sound_lines m.spec m.limits content)

-- The file is well-formed, it was read to its end, and so many events came.
pub record EndsWith (content : Bytes) (m : Simulation) (n : ℕ) : Type 0 where
  pub formed : IsWellFormed m.spec m.limits content
  pub all : lines_read content m ≡ lines_of content
  pub count : n ≡ m.events

-- a final answer is right for what the file holds
abbrev pub IsRightAnswer : Bytes → Simulation → Upcoming → Type 0
IsRightAnswer content m (upcoming.Event k) = ⊥
IsRightAnswer content m (upcoming.Ended n) = EndsWith content m n
IsRightAnswer content m (upcoming.LineFault n fault) = StopsAt content m (broken_line n (rule_of fault))
IsRightAnswer content m (upcoming.LineTooLong n) = StopsAt content m (long_line n)
IsRightAnswer content m upcoming.TooLong = StopsAt content m long_file
-- the lines that were read are those whose LF stands among the bytes taken
IsRightAnswer content m upcoming.ReadFault = lines_before (taken m.reading) content ≡ lines_read content m

-- The simulation fits what its event file holds.
pub record FitsFile (content : Bytes) (m : Simulation) : Type 0 where
  -- its reader does
  pub reader : Fits content m.reading
  -- the lines that were read have no fault but the one that was answered
  pub sound : Each (IsSoundOrTold content m) (lines_read content m)
  -- their messages came, and were counted
  pub counted : m.events ≡ length (messages m.spec (lines_read content m))
  -- the final answer is right
  pub right : IfSome m.answered (IsRightAnswer content m)

-- The next message of the event file came, by the receive of this number: it was latched, its event is present, and it was counted.
pub record Comes (told : Option Bytes) (k : ℕ) (m m' : Simulation) : Type 0 where
  pub message : Message
  pub receive : slice_get (receives m.spec) k ≡ Some message.receive
  pub next : IfSome told (λ content. messages m.spec (lines_read content m') ≡ messages m.spec (lines_read content m) ++ (message ∷ []))
  pub changes : m' ≡ record m {
    reading = m'.reading;
    world = latched m.spec m.world message;
    present = message.receive.raised ∷ [];
    events = m.events + 1;
  }

-- No further message of the event file came: the answer stands from then on, and nothing else changed but the reader.
pub record NoneComes (told : Option Bytes) (answer : Upcoming) (m m' : Simulation) : Type 0 where
  pub none : IfSome told (λ content. messages m.spec (lines_read content m') ≡ messages m.spec (lines_read content m))
  pub changes : m' ≡ record m { reading = m'.reading; answered = Some answer }

-- what an answer does
abbrev pub Goes : Option Bytes → Simulation → Upcoming → Simulation → Type 0
Goes told m (upcoming.Event k) m' = Comes told k m m'
Goes told m answer m' = NoneComes told answer m m'
