-- What a command on two files answers and writes, by their texts.
use Rattle.std.specs.Prelude.{◌≡◌}
use Rattle.rsml_meaning.specs.EventLines.{Bytes}
use Rattle.rsml_syntax.specs.declared.syntax.Spec.{Spec}
use Rattle.answering.specs.declared.status.Status.{Status}
use Rattle.checking.specs.Outputs.{TextFault}
use Rattle.explaining.specs.Outputs.{WithNotes}
use Rattle.comparing.specs.Outputs.{SameOutput, of_first}
use Rattle.proving.specs.Outputs.{ProveOutput}
use Rattle.pairing.specs.Kept.{IsKeptText}
use Rattle.pairing.specs.declared.pair_action.PairAction.{PairAction}
use Rattle.pairing.specs.declared.pair_action.PairAction.TheVariants as action

-- what an action makes of a text that is such: the text alone, or with comment lines behind it
abbrev pub Shows : PairAction → (Bytes → Type 0) → Bytes → Type 0
Shows action.Prove Is = Is
Shows action.ExplainProve Is = WithNotes Is
Shows action.Same Is = Is
Shows action.ExplainSame Is = WithNotes Is

-- What is answered and written of a first text that is too long, reads as no specification, or as one that breaks a rule or a limit: a line
-- that tells the first file, and the line of the fault.
pub record FirstFault (text : Bytes) (answer : Status) (bytes : Bytes) : Type 0 where
  pub line : Bytes
  pub fault : TextFault text answer line
  pub split : bytes ≡ of_first line

-- what is answered and written of a second text, but for comment lines, where the first reads as this specification, which keeps the rules
-- and the limits
abbrev pub SecondOutput : PairAction → Spec → Bytes → Status → Bytes → Type 0
SecondOutput action.Prove = ProveOutput
SecondOutput action.ExplainProve = ProveOutput
SecondOutput action.Same = SameOutput
SecondOutput action.ExplainSame = SameOutput

-- What a command answers and writes, but for comment lines, by the two texts.
pub data BareOutput (does : PairAction) (text other : Bytes) (answer : Status) (bytes : Bytes) : Type 0 where
  fault : FirstFault text answer bytes → BareOutput does text other answer bytes
  looked_at : (s : Spec) → IsKeptText text s → SecondOutput does s other answer bytes → BareOutput does text other answer bytes

-- the same with the comment lines behind it, where the action writes some
abbrev pub PairOutput : PairAction → Bytes → Bytes → Status → Bytes → Type 0
PairOutput does text other answer = Shows does (BareOutput does text other answer)
