-- What is stored of the transitions and the cases of sends of a machine.
use Rattle.std.specs.Prelude.{◌≡◌, List, ℕ, map, length}
use Rattle.rsml_meaning.specs.Instances.{events}
use Rattle.rsml_ground.specs.Truths.{Grounded}
use Rattle.ground_members.specs.declared.transitions.GroundTransition.{GroundTransition}
use Rattle.ground_members.specs.declared.send_cases.GroundSendCase.{GroundSendCase}
use Rattle.elaborate.specs.Machine.{GroundMachine, StandsFor}
use Rattle.elaborate.specs.OnEvents.{AreOn}

-- a machine of its phrases and definitions, its transitions, and the cases of its sends
abbrev pub machine_of : Grounded → List GroundTransition → List GroundSendCase → GroundMachine
machine_of g transitions cases = record { base = g; transitions = transitions; send_cases = cases }

-- The machine stands for its specification, and what there is on each event is stored.
pub record AreMembers (m : GroundMachine) (count : ℕ) (on : List (List ℕ)) (case_count : ℕ) (cases_on : List (List ℕ)) : Type 0 where
  pub stands : StandsFor m
  pub count_is : count ≡ length m.transitions
  pub case_count_is : case_count ≡ length m.send_cases
  pub transitions_on_are : AreOn (length (events m.base.spec)) (map (λ x. x.event) m.transitions) on
  pub cases_on_are : AreOn (length (events m.base.spec)) (map (λ x. x.event) m.send_cases) cases_on
