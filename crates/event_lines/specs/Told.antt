-- What reading an event line answers.
use Rattle.std.specs.Prelude.{◌≡◌, List, length, take, Some, slice_get, ℤ, Result, MatchResult}
use Rattle.rsml_syntax.specs.declared.syntax.Spec.{Spec}
use Rattle.rsml_meaning.specs.Interfaces.{receives}
use Rattle.rsml_meaning.specs.EventLines.{LineRule, E1, E2, E3, E4, E5, E6, E7, Message, Outcome, breaks, tells}
use Rattle.interfaces.specs.Writes.{AreTyped}
use Rattle.event_lines.specs.declared.line_fault.LineFault.{LineFault}
use Rattle.event_lines.specs.declared.line_fault.LineFault.TheVariants.{NotUtf8, UnknownInterface, BadIndex, WrongField, ExtraWord, NotAValue, OutOfRange}
use Rattle.event_lines.specs.declared.received.Received.{Received}

-- the rule that a fault says to be broken
abbrev pub rule_of : LineFault → LineRule
rule_of NotUtf8 = E1
rule_of UnknownInterface = E2
rule_of BadIndex = E3
rule_of WrongField = E4
rule_of ExtraWord = E5
rule_of NotAValue = E6
rule_of OutOfRange = E7

-- The line tells an event of the receive at this place; its numbers are the first of the values, one of its type for each input.
pub record IsReceived (s : Spec) (o : Outcome) (r : Received) (values : List ℤ) : Type 0 where
  pub message : Message
  pub told : o ≡ tells message
  pub receive : slice_get (receives s) r.interface ≡ Some message.receive
  pub numbers : take (length message.numbers) values ≡ message.numbers
  pub count : length message.numbers ≡ length message.receive.inputs
  pub typed : AreTyped s message.receive.inputs message.numbers

-- the answer says what the line comes to
abbrev pub Says : Spec → Outcome → Result Received LineFault → List ℤ → Type 0
Says s o result values = MatchResult result (λ r. IsReceived s o r values) (λ fault. o ≡ breaks (rule_of fault))
