-- How far a simulation has come.
use Rattle.std.specs.Prelude.{◌≡◌, ℕ, ◌≤◌, true, false, List, ◌++◌, length, Option, None}
use Rattle.rsml_io.specs.Counts.{Rose}
use Rattle.rsml_io.specs.Writing.{appended}
use Rattle.rsml_syntax.specs.declared.syntax.Spec.{Spec}
use Rattle.rsml_meaning.specs.Words.{Each}
use Rattle.rsml_meaning.specs.EventLines.{Bytes}
use Rattle.rsml_meaning.specs.EventFiles.{Limits, Line, fault_at, messages}
use Rattle.rsml_meaning.specs.Runs.{Reaction, first_world, IsRunFrom}
use Rattle.rsml_meaning.specs.Trace.{trace_text}
use Rattle.text_writer.specs.Writes.{WriterState}
use Rattle.text_writer.specs.Buffering.{AppendsPrefix}
use Rattle.simulator.specs.Ends.{last_line}
use Rattle.simulator.specs.Outputs.{Output, ReadOutput, traces}
use Rattle.simulator.specs.helpers.Series.{world_after}
use Rattle.simulator.specs.Simulation.{Simulation}
use Rattle.simulator.specs.Fitting.{FitsFile, lines_read}
use Rattle.simulator.specs.declared.sim_end.SimEnd.{SimEnd}
use Rattle.simulator.specs.declared.sim_end.SimEnd.TheVariants as end

-- Writing.

-- Behind a text stand all of the bytes while nothing is refused, and else some from their front.
pub record Stands (old : Option (List ℕ)) (bytes : List ℕ) (state : WriterState) (new : Option (List ℕ)) : Type 0 where
  pub all : state.whole ≡ true → new ≡ appended old bytes
  pub part : state.whole ≡ false → AppendsPrefix old new bytes

-- A refusal, if there was one, was counted, and all went to one target.
pub record Counted (state state' : WriterState) : Type 0 where
  pub count : state.refusals ≤ state'.refusals
  pub cause : state'.whole ≡ false → Rose state.refusals state'.refusals
  pub same : state'.target ≡ state.target

-- Lines.

-- no line has a fault
abbrev pub AreSound : Spec → Limits → Bytes → List Line → Type 0
AreSound s limits content ls = Each (λ l. fault_at s limits (length content) l ≡ None) ls

-- Between two events: the simulation fits what the file holds, and this is a run of all messages that came.
pub record HasRun (content : Bytes) (m : Simulation) (run : List Reaction) : Type 0 where
  pub fits : FitsFile content m
  pub is_run : IsRunFrom m.spec (first_world m.spec) (messages m.spec (lines_read content m)) run
  pub after : world_after (first_world m.spec) run ≡ m.world
  pub count : length run ≡ m.events

-- It has a run, of which the trace was written.
pub record Followed (content : Bytes) (m : Simulation) (old : Option (List ℕ)) (state : WriterState) (new : Option (List ℕ)) : Type 0 where
  pub run : List Reaction
  pub has : HasRun content m run
  pub stands : Stands old (trace_text m.spec run) state new

-- Ends.

-- how it ends when so many bytes of the file were read, and what stands before the last line:
abbrev pub EndsSo : Spec → Limits → Bytes → ℕ → SimEnd → Bytes → Type 0
-- some output begins so
EndsSo s limits content k end.WriteFault trace = (wanted : SimEnd) × (more : Bytes) × Output traces s limits content wanted (trace ++ more)
-- with the line of the read this is what is written there
EndsSo s limits content k end.ReadFault trace = ReadOutput traces s limits content k (trace ++ last_line end.ReadFault)
-- with its last line it is the output
EndsSo s limits content k (end.Ended n) trace = Output traces s limits content (end.Ended n) (trace ++ last_line (end.Ended n))
EndsSo s limits content k (end.LineFault n fault) trace = Output traces s limits content (end.LineFault n fault) (trace ++ last_line (end.LineFault n fault))
EndsSo s limits content k (end.LineTooLong n) trace = Output traces s limits content (end.LineTooLong n) (trace ++ last_line (end.LineTooLong n))
EndsSo s limits content k end.TooLong trace = Output traces s limits content end.TooLong (trace ++ last_line end.TooLong)

-- A simulation has come to its last line.
pub record Stops (s : Spec) (limits : Limits) (content : Bytes) (k : ℕ) (ended : SimEnd) (old : Option (List ℕ)) (state : WriterState) (new : Option (List ℕ)) : Type 0 where
  pub trace : Bytes
  pub stands : Stands old trace state new
  pub ends : EndsSo s limits content k ended trace
