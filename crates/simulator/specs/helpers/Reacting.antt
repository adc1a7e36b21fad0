-- What a simulation of a certified specification writes of one message.
use Rattle.std.specs.Prelude.{ℕ, List, ◌++◌, Option, flat_map}
use Rattle.rsml_syntax.specs.declared.syntax.Spec.{Spec}
use Rattle.rsml_syntax.specs.declared.world.World.{World}
use Rattle.rsml_meaning.specs.Words.{Instance, numbered}
use Rattle.rsml_meaning.specs.Instances.{globals_of}
use Rattle.rsml_meaning.specs.Steps.{Round, IsStep}
use Rattle.rsml_meaning.specs.Trace.{round_text, event_line}
use Rattle.text_writer.specs.Writes.{WriterState, Writes}
use Rattle.rsml_meaning.specs.Interfaces.{ReceiveInstance}

-- A step, of which the texts of the rounds were written.
pub record StepIsWritten (s : Spec) (w : World) (present : List Instance) (w' : World) (state : WriterState) (old : Option (List ℕ)) (state' : WriterState) (new : Option (List ℕ)) : Type 0 where
  pub rounds : List Round
  pub is : IsStep s w present rounds w'
  pub writes : Writes state old (flat_map (round_text (globals_of s)) (numbered rounds)) state' new

-- A step on an event that came by a receive, of which the text was written: the line of the event with its number, and those of the rounds.
pub record EventIsWritten (s : Spec) (number : ℕ) (x : ReceiveInstance) (w : World) (present : List Instance) (w' : World) (state : WriterState) (old : Option (List ℕ)) (state' : WriterState) (new : Option (List ℕ)) : Type 0 where
  pub rounds : List Round
  pub is : IsStep s w present rounds w'
  pub writes : Writes state old (event_line number x.receive ++ flat_map (round_text (globals_of s)) (numbered rounds)) state' new
