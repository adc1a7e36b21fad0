-- When transitions and cases of sends over numbers stand for those of the specification.
use Rattle.std.specs.Prelude.{◌≡◌, ℕ, List, map, length, Option, Some, None, slice_get, ⊤}
use Rattle.std.specs.List.{AllZip}
use Rattle.rsml_syntax.specs.declared.syntax.Spec.{Spec}
use Rattle.rsml_syntax.specs.declared.syntax.Value.{Value}
use Rattle.rsml_syntax.specs.declared.syntax.Value.TheVariants as values
use Rattle.rsml_syntax.specs.declared.syntax.Answer.{Answer}
use Rattle.rsml_syntax.specs.declared.syntax.Answer.TheVariants as answers
use Rattle.rsml_syntax.specs.limits.Comparisons.{Indices}
use Rattle.rsml_meaning.specs.Words.{Instance, Path}
use Rattle.rsml_meaning.specs.Instances.{states, components, events}
use Rattle.rsml_meaning.specs.Cells.{cells}
use Rattle.rsml_meaning.specs.Truth.{within}
use Rattle.rsml_meaning.specs.Transitions.{TransitionInstance, transitions}
use Rattle.rsml_meaning.specs.Interfaces.{SendCaseInstance, sends, send_cases}
use Rattle.state_arrays.specs.Places.{path_at}
use Rattle.rsml_ground.specs.declared.phrases.GroundPhrase.{GroundPhrase}
use Rattle.rsml_ground.specs.Rests.{SumFits, GuardFits}
use Rattle.rsml_ground.specs.StandsFor.{SumIs, IsFunction, GuardIs}
use Rattle.ground_members.specs.declared.transitions.GroundTransition.{GroundTransition}
use Rattle.ground_members.specs.declared.send_cases.GroundValue.{GroundValue}
use Rattle.ground_members.specs.declared.send_cases.GroundValue.TheVariants as value
use Rattle.ground_members.specs.declared.send_cases.GroundAnswer.{GroundAnswer}
use Rattle.ground_members.specs.declared.send_cases.GroundAnswer.TheVariants as answer
use Rattle.ground_members.specs.declared.send_cases.GroundSendCase.{GroundSendCase}

-- Numbers.

-- the component of this number has the path
abbrev pub IsComponent : Spec → Path → ℕ → Type 0
IsComponent s path k = slice_get (map (λ c. c.path) (components s)) k ≡ Some path

-- the state of this number has the path
abbrev pub IsState : Spec → Path → ℕ → Type 0
IsState s path k = path_at (states s) k ≡ Some path

-- the event of this number
abbrev pub IsEvent : Spec → Instance → ℕ → Type 0
IsEvent s e k = slice_get (events s) k ≡ Some e

-- the send instance of this number
abbrev pub IsSend : Spec → Instance → ℕ → Type 0
IsSend s x k = slice_get (sends s) k ≡ Some x

-- Transitions.

-- the state of the target, or none for a stay
abbrev pub IsTarget : Spec → Option Path → Option ℕ → Type 0
IsTarget s None None = ⊤
IsTarget s (Some path) (Some k) = IsState s path k
IsTarget s _ _ = ⊥

-- Of a transition: its component, source, target, trigger, guard, raised events in order, and ordinal.
pub record TransitionIs (ps : List GroundPhrase) (s : Spec) (t : TransitionInstance) (x : GroundTransition) : Type 0 where
  pub component : IsComponent s t.component x.component
  pub source : IsState s t.source x.source
  pub target : IsTarget s t.target x.target
  pub event : IsEvent s t.event x.event
  pub guard : GuardIs ps s (within t.this) t.guard x.guard
  pub fits : GuardFits (length ps) x.guard
  pub raises : AllZip (IsEvent s) t.raises x.raises
  pub ordinal : x.ordinal ≡ t.ordinal

-- the transitions stand for those of the specification, one for each, in order
abbrev pub AreTransitions : List GroundPhrase → Spec → List GroundTransition → Type 0
AreTransitions ps s xs = AllZip (TransitionIs ps s) (transitions s) xs

-- Cases of sends.

-- of a value: its sum, or its function instance
abbrev pub ValueIs : Spec → Indices → Value → GroundValue → Type 0
ValueIs s r (values.Sum x) (value.Sum y) = SumIs s r x y × SumFits (length (cells s)) y
ValueIs s r (values.Function f) (value.Function k) = IsFunction s r f k
ValueIs s r _ _ = ⊥

-- of an answer: quiet, or its values in order
abbrev pub AnswerIs : Spec → Indices → Answer → GroundAnswer → Type 0
AnswerIs s r answers.Quiet answer.Quiet = ⊤
AnswerIs s r (answers.Values xs) (answer.Values ys) = AllZip (ValueIs s r) xs ys
AnswerIs s r _ _ = ⊥

-- Of a case of a send: its send, trigger, guard, answer and ordinal.
pub record SendCaseIs (ps : List GroundPhrase) (s : Spec) (c : SendCaseInstance) (x : GroundSendCase) : Type 0 where
  pub send : IsSend s c.send x.send
  pub event : IsEvent s c.event x.event
  pub guard : GuardIs ps s (within c.send.index) c.guard x.guard
  pub fits : GuardFits (length ps) x.guard
  pub answer : AnswerIs s (within c.send.index) c.answer x.answer
  pub ordinal : x.ordinal ≡ c.ordinal

-- the cases stand for those of the specification, one for each, in order
abbrev pub AreSendCases : List GroundPhrase → Spec → List GroundSendCase → Type 0
AreSendCases ps s xs = AllZip (SendCaseIs ps s) (send_cases s) xs
