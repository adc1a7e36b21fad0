-- A machine that takes the lines of event files one after another.
use Rattle.std.specs.Prelude.{◌≡◌, ℕ, ◌+◌, List, [], ◌∷◌, length, take, Option, Some, None, slice_get, if◌then◌else◌, ℤ}
use Rattle.rsml_syntax.specs.declared.syntax.Spec.{Spec}
use Rattle.rsml_syntax.specs.declared.world.World.{World}
use Rattle.rsml_meaning.specs.Words.{Instance}
use Rattle.rsml_meaning.specs.EventLines.{Bytes, is_skipped, LineRule, Message, Outcome, breaks, tells, read_line}
use Rattle.rsml_meaning.specs.Interfaces.{ReceiveInstance, receives}
use Rattle.rsml_meaning.specs.Runs.{latched}
use Rattle.reactions.specs.Stepping.{LastRound}

-- A specification, the world that it is in, the events that are present, how many events came, and the last round.
pub record Turning : Type 0 where
  pub spec : Spec
  pub world : World
  pub present : List Instance
  pub events : ℕ
  pub last : LastRound

-- the message of a receive with these numbers
abbrev pub message_of : ReceiveInstance → List ℤ → Message
message_of x values = record { receive = x; numbers = take (length x.inputs) values }

-- what a line without its line end says; nothing where it is skipped
abbrev pub said : Spec → Bytes → Option Outcome
said s text = if is_skipped text then None else Some (read_line s text)

-- the rule that it breaks
abbrev pub rule_in : Option Outcome → Option LineRule
rule_in o = elim o [ Some (breaks rule) ↦ Some rule | _ ↦ None ]

-- the event that it tells, if it tells one
abbrev pub told_in : Option Outcome → List Message
told_in o = elim o [ Some (tells m) ↦ m ∷ [] | _ ↦ [] ]

-- The line tells a message of the receive of this number: it was latched, its event is present, and it was counted.
pub record Takes (o : Outcome) (k : ℕ) (t t' : Turning) : Type 0 where
  pub message : Message
  pub told : o ≡ tells message
  pub receive : slice_get (receives t.spec) k ≡ Some message.receive
  pub changes : t' ≡ record t {
    world = latched t.spec t.world message;
    present = message.receive.raised ∷ [];
    events = t.events + 1;
  }
