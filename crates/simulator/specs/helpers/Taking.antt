-- What a simulation answers on what its reader gave.
use Rattle.std.specs.Prelude.{◌≡◌, ℕ, Option, Some, None}
use Rattle.rsml_meaning.specs.EventLines.{breaks, read_line}
use Rattle.event_file.specs.Reading.{Reading}
use Rattle.event_file.specs.declared.next.Next.{Next}
use Rattle.event_file.specs.declared.next.Next.TheVariants as next
use Rattle.event_lines.specs.declared.line_fault.LineFault.{LineFault}
use Rattle.event_lines.specs.Told.{rule_of}
use Rattle.simulator.specs.Simulation.{Simulation}
use Rattle.simulator.specs.helpers.Turns.{Turning, Takes}
use Rattle.simulator.specs.declared.upcoming.Upcoming.{Upcoming}
use Rattle.simulator.specs.declared.upcoming.Upcoming.TheVariants as upcoming

-- a simulation by a machine that takes lines, a reader, and the final answer
abbrev pub simulation_of : Turning → Reading → Option Upcoming → Simulation
simulation_of t r answered = record {
  spec = t.spec;
  limits = r.limits;
  reading = r;
  answered = answered;
  world = t.world;
  present = t.present;
  events = t.events;
  last = t.last;
}

-- an answer, where it is final
abbrev pub if_final : Upcoming → Option Upcoming
if_final (upcoming.Event k) = None
if_final answer = Some answer

-- the answer where the reader has no line
abbrev pub final_of : Next → ℕ → ℕ → Upcoming
final_of next.ReadFault events number = upcoming.ReadFault
final_of next.LineTooLong events number = upcoming.LineTooLong number
final_of next.TooLong events number = upcoming.TooLong
final_of _ events number = upcoming.Ended events

-- the answer on a line that is not skipped: it was taken, or it breaks a rule
abbrev pub LineGoes : Reading → Turning → Upcoming → Turning → Type 0
LineGoes r t (upcoming.Event k) t' = Takes (read_line t.spec r.line) k t t'
LineGoes r t answer t' = (fault : LineFault) × (answer ≡ upcoming.LineFault r.number fault) × (read_line t.spec r.line ≡ breaks (rule_of fault)) × (t' ≡ t)

-- the answer on what the reader gave
abbrev pub AnswerGoes : Next → Reading → Turning → Upcoming → Turning → Type 0
AnswerGoes next.Line r t answer t' = LineGoes r t answer t'
AnswerGoes n r t answer t' = (answer ≡ final_of n t.events r.number) × (t' ≡ t)
