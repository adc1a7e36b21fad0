-- What is told of members.
use Rattle.std.proofs.Common.{◌≡◌, ℕ, ◌<◌, length, Some, slice_get}
use Rattle.rsml_meaning.specs.Instances.{states}
use Rattle.rsml_meaning.specs.Transitions.{transitions}
use Rattle.rsml_meaning.specs.Interfaces.{definitions, function_cases, send_cases}
use Rattle.rsml_meaning.specs.Groups as meaning
use Rattle.rsml_ground.specs.Rests.{GuardFits}
use Rattle.rsml_ground.specs.StandsFor.{DefinitionIs}
use Rattle.rsml_ground.proofs.DeclaredLemmas.{beside_first}
use Rattle.state_tree.proofs.Lists.{beside, get_within}
use Rattle.ground_members.specs.declared.transitions.GroundTransition.{GroundTransition}
use Rattle.ground_members.specs.declared.send_cases.GroundSendCase.{GroundSendCase}
use Rattle.ground_members.specs.Members.{TransitionIs, SendCaseIs}
use Rattle.ground_groups.specs.declared.group.Member.{Member}
use Rattle.ground_groups.specs.declared.group.Member.TheVariants as members
use Rattle.ground_groups.specs.Groups.{MemberIs}
use Rattle.elaborate.specs.Machine.{GroundMachine, StandsFor}
use Rattle.guard_encode.proofs.ConditionLemmas.{state_there}

-- A transition: its guard fits, and its source is a state.
pub transition_fits : (m : GroundMachine) (number : ℕ) (x : GroundTransition) → StandsFor m → slice_get m.transitions number ≡ Some x → GuardFits (length m.base.phrases) x.guard
transition_fits m number x stands at =
    let t = beside (TransitionIs m.base.phrases m.base.spec) (transitions m.base.spec) m.transitions number x stands.transitions_are at in
    t.2.fits

pub source_there : (m : GroundMachine) (number : ℕ) (x : GroundTransition) → StandsFor m → slice_get m.transitions number ≡ Some x → x.source < length (states m.base.spec)
source_there m number x stands at =
    let t = beside (TransitionIs m.base.phrases m.base.spec) (transitions m.base.spec) m.transitions number x stands.transitions_are at in
    state_there (states m.base.spec) x.source t.0.source t.2.source

-- one that is a member is there
pub transition_there : (m : GroundMachine) (number : ℕ) → StandsFor m → (member : meaning.Member) → MemberIs m.base.spec member (members.Transition number) → number < length m.transitions
transition_there m number stands (meaning.transition t) is =
    let x = beside_first (TransitionIs m.base.phrases m.base.spec) (transitions m.base.spec) m.transitions stands.transitions_are number t is in
    get_within m.transitions number x.0 x.1
transition_there m number stands (meaning.send_case c) is = absurd is
transition_there m number stands (meaning.case f c) is = absurd is

-- A case of a send.

pub send_case_fits : (m : GroundMachine) (number : ℕ) (x : GroundSendCase) → StandsFor m → slice_get m.send_cases number ≡ Some x → GuardFits (length m.base.phrases) x.guard
send_case_fits m number x stands at =
    let t = beside (SendCaseIs m.base.phrases m.base.spec) (send_cases m.base.spec) m.send_cases number x stands.cases_are at in
    t.2.fits

pub send_case_there : (m : GroundMachine) (number : ℕ) → StandsFor m → (member : meaning.Member) → MemberIs m.base.spec member (members.SendCase number) → number < length m.send_cases
send_case_there m number stands (meaning.transition t) is = absurd is
send_case_there m number stands (meaning.send_case c) is =
    let x = beside_first (SendCaseIs m.base.phrases m.base.spec) (send_cases m.base.spec) m.send_cases stands.cases_are number c is in
    get_within m.send_cases number x.0 x.1
send_case_there m number stands (meaning.case f c) is = absurd is

-- A case of a function.

pub function_there : (m : GroundMachine) (function place : ℕ) → StandsFor m → (member : meaning.Member) → MemberIs m.base.spec member (members.FunctionCase function place) → function < length m.base.definitions
function_there m function place stands (meaning.transition t) is = absurd is
function_there m function place stands (meaning.send_case c) is = absurd is
function_there m function place stands (meaning.case f c) is =
    let d = beside_first (DefinitionIs m.base.phrases m.base.spec) (definitions m.base.spec) m.base.definitions stands.grounded.stand function (function_cases is.instance) is.there in
    get_within m.base.definitions function d.0 d.1
