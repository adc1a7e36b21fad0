-- A machine: a specification over numbers.
use Rattle.std.specs.Prelude.{List}
use Rattle.rsml_syntax.specs.declared.syntax.Spec.{Spec}
use Rattle.rsml_ground.specs.declared.definitions.Definition.{Definition}
use Rattle.rsml_ground.specs.declared.phrases.GroundPhrase.{GroundPhrase}
use Rattle.rsml_ground.specs.Truths.{Grounded}
use Rattle.rsml_ground.specs.Grounded.{IsGrounded}
use Rattle.ground_members.specs.declared.transitions.GroundTransition.{GroundTransition}
use Rattle.ground_members.specs.declared.send_cases.GroundSendCase.{GroundSendCase}
use Rattle.ground_members.specs.Members.{AreTransitions, AreSendCases}

-- A specification with its phrases and its macro and function instances; its transitions; and the cases of its sends. Each has
-- its place as its number.
pub record GroundMachine : Type 0 where
  pub base : Grounded
  pub transitions : List GroundTransition
  pub send_cases : List GroundSendCase

-- a machine of its parts
abbrev pub of_parts : Spec → List GroundPhrase → List Definition → List GroundTransition → List GroundSendCase → GroundMachine
of_parts s ps ds ts cs = record { base = record { spec = s; phrases = ps; definitions = ds }; transitions = ts; send_cases = cs }

-- The machine stands for its specification, which keeps the rules and limits: the definitions stand for the macro and function
-- instances, the transitions for the transitions, and the cases for the cases of sends, one for each, in order.
pub record StandsFor (m : GroundMachine) : Type 0 where
  pub grounded : IsGrounded m.base
  pub transitions_are : AreTransitions m.base.phrases m.base.spec m.transitions
  pub cases_are : AreSendCases m.base.phrases m.base.spec m.send_cases
