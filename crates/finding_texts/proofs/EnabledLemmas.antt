-- Which members are enabled, part by part.
use Rattle.std.proofs.Common.{◌≡◌, ℕ, ◌<◌, Bool, false, ◌&&◌, List, [], ◌∷◌, length, Option, Some, None, refl, sym, ap, ◌∙◌, subst, slice_get}
use Rattle.std.specs.Option.{option_map, option_map_or}
use Rattle.rsml_syntax.specs.declared.syntax.Spec.{Spec}
use Rattle.rsml_syntax.specs.declared.world.World.{World}
use Rattle.rsml_meaning.specs.Words.{Each, Path}
use Rattle.rsml_meaning.specs.Instances.{State, states}
use Rattle.rsml_meaning.specs.Transitions.{transitions}
use Rattle.rsml_meaning.specs.Interfaces.{send_cases, definitions, function_cases}
use Rattle.rsml_meaning.specs.Groups as meaning_of
use Rattle.state_arrays.specs.Places.{path_at}
use Rattle.rsml_ground.specs.declared.definitions.Definition.{Definition}
use Rattle.rsml_ground.specs.declared.definitions.Definition.TheVariants as definition
use Rattle.rsml_ground.specs.declared.definitions.GroundCase.{GroundCase}
use Rattle.rsml_ground.specs.declared.definitions.GroundGuard.{GroundGuard}
use Rattle.rsml_ground.specs.Rests.{GuardFits, CaseFits, DefinitionFits}
use Rattle.rsml_ground.specs.StandsFor.{DefinitionIs}
use Rattle.rsml_ground.specs.Truths.{Grounded, is_active, guard_truth, truths_in}
use Rattle.rsml_ground.proofs.Alike.{truths_count}
use Rattle.ground_members.specs.declared.transitions.GroundTransition.{GroundTransition}
use Rattle.ground_members.specs.declared.send_cases.GroundSendCase.{GroundSendCase}
use Rattle.ground_members.specs.Members.{TransitionIs, SendCaseIs}
use Rattle.ground_groups.specs.declared.group.Member.TheVariants as member
use Rattle.ground_groups.specs.Groups.{MemberIs}
use Rattle.macros.specs.Guards.{GuardBelow}
use Rattle.state_tree.proofs.Lists.{as_long, beside, get_within, within_get}
use Rattle.elaborate.specs.Machine.{GroundMachine, StandsFor}
use Rattle.elaborate.specs.Enabled.{is_enabled, is_sending, enabled_at}

-- The numbers of members.

pub transition_below : (m : GroundMachine) → StandsFor m → (k : ℕ) (x : meaning_of.Member) → MemberIs m.base.spec x (member.Transition k) → k < length m.transitions
transition_below m stands k (meaning_of.transition t) is =
    subst (λ (n : ℕ). k < n) (as_long (TransitionIs m.base.phrases m.base.spec) (transitions m.base.spec) m.transitions stands.transitions_are) (get_within (transitions m.base.spec) k t is)
transition_below m stands k (meaning_of.send_case c) is = absurd is
transition_below m stands k (meaning_of.case f c) is = absurd is

pub send_case_below : (m : GroundMachine) → StandsFor m → (k : ℕ) (x : meaning_of.Member) → MemberIs m.base.spec x (member.SendCase k) → k < length m.send_cases
send_case_below m stands k (meaning_of.transition t) is = absurd is
send_case_below m stands k (meaning_of.send_case c) is =
    subst (λ (n : ℕ). k < n) (as_long (SendCaseIs m.base.phrases m.base.spec) (send_cases m.base.spec) m.send_cases stands.cases_are) (get_within (send_cases m.base.spec) k c is)
send_case_below m stands k (meaning_of.case f c) is = absurd is

pub function_below : (m : GroundMachine) → StandsFor m → (k place : ℕ) (x : meaning_of.Member) → MemberIs m.base.spec x (member.FunctionCase k place) → k < length m.base.definitions
function_below m stands k place (meaning_of.transition t) is = absurd is
function_below m stands k place (meaning_of.send_case c) is = absurd is
function_below m stands k place (meaning_of.case f c) is =
    subst (λ (n : ℕ). k < n) (as_long (DefinitionIs m.base.phrases m.base.spec) (definitions m.base.spec) m.base.definitions stands.grounded.stand)
    (get_within (definitions m.base.spec) k (function_cases is.instance) is.there)

path_below : (s : Spec) (k : ℕ) (p : Path) → path_at (states s) k ≡ Some p → k < length (states s)
path_below s k p h = by (slice_get (states s) k) refl h
  where
    by : (o : Option State) → slice_get (states s) k ≡ o → option_map (λ x. x.path) o ≡ Some p → k < length (states s)
    by None e h = absurd (let no : ⊥ = cc in no)
    by (Some x) e h = get_within (states s) k x e

-- the source of a transition is a state
pub source_below : (m : GroundMachine) → StandsFor m → (k : ℕ) (x : GroundTransition) → slice_get m.transitions k ≡ Some x → x.source < length (states m.base.spec)
source_below m stands k x at =
    let t = beside (TransitionIs m.base.phrases m.base.spec) (transitions m.base.spec) m.transitions k x stands.transitions_are at in
    path_below m.base.spec x.source t.0.source t.2.source

-- Guards.

-- a guard over the phrases is one over their truths
pub guard_below : (g : Grounded) (w : World) (ts : List Bool) (x : GroundGuard) → ts ≡ truths_in g w → GuardBelow (length g.phrases) x → GuardBelow (length ts) x
guard_below g w ts x e h = subst (λ (n : ℕ). GuardBelow n x) (sym (ap length e ∙ truths_count g w)) h

guards_fit : (cells n : ℕ) (cs : List GroundCase) → Each (CaseFits cells n) cs → Each (λ c. GuardFits n c.guard) cs
guards_fit cells n [] e = tt
guards_fit cells n (c ∷ cs) e = (e.0.guard, guards_fit cells n cs e.1)

-- so are the guards of the cases of a function
pub cases_fit : (g : Grounded) (w : World) (ts : List Bool) (cells : ℕ) (d : Definition) (list cs : List GroundCase) → ts ≡ truths_in g w → DefinitionFits cells (length g.phrases) d → d ≡ definition.Function list → cs ≡ list
    → Each (λ c. GuardFits (length ts) c.guard) cs
cases_fit g w ts cells d list cs e fits is same =
    subst (λ (n : ℕ). Each (λ c. GuardFits n c.guard) cs) (sym (ap length e ∙ truths_count g w))
    (subst (λ (xs : List GroundCase). Each (λ c. GuardFits (length g.phrases) c.guard) xs) (sym same)
    (guards_fit cells (length g.phrases) list (subst (DefinitionFits cells (length g.phrases)) is fits)))

-- Members that are enabled.

-- a transition: its source is active, and its guard is true
pub transition_enabled : (m : GroundMachine) (w : World) (ts : List Bool) (k : ℕ) (guard : GroundGuard) (act holds : Bool) → k < length m.transitions → ts ≡ truths_in m.base w
    → ((x : GroundTransition) → slice_get m.transitions k ≡ Some x → guard ≡ x.guard) → ((x : GroundTransition) → slice_get m.transitions k ≡ Some x → act ≡ is_active m.base.spec w x.source)
    → holds ≡ guard_truth ts guard → (act && holds) ≡ enabled_at m w (member.Transition k)
transition_enabled m w ts k guard act holds below e same active h =
    let x = within_get m.transitions k below in
    ap (λ (b : Bool). b && holds) (active x.0 x.1)
    ∙ ap (λ (b : Bool). is_active m.base.spec w x.0.source && b) (h ∙ ap (λ (us : List Bool). guard_truth us guard) e ∙ ap (guard_truth (truths_in m.base w)) (same x.0 x.1))
    ∙ sym (ap (λ (o : Option GroundTransition). option_map_or (is_enabled m w) o false) x.1)

-- one whose source is not active is not enabled
pub transition_resting : (m : GroundMachine) (w : World) (k : ℕ) (act : Bool) → k < length m.transitions → ((x : GroundTransition) → slice_get m.transitions k ≡ Some x → act ≡ is_active m.base.spec w x.source)
    → ((x : GroundTransition) → slice_get m.transitions k ≡ Some x → false ≡ is_active m.base.spec w x.source) → act ≡ enabled_at m w (member.Transition k)
transition_resting m w k act below active resting =
    let x = within_get m.transitions k below in
    active x.0 x.1 ∙ sym (resting x.0 x.1)
    ∙ ap (λ (b : Bool). b && guard_truth (truths_in m.base w) x.0.guard) (resting x.0 x.1)
    ∙ sym (ap (λ (o : Option GroundTransition). option_map_or (is_enabled m w) o false) x.1)

-- a case of a send: its guard is true
pub send_case_enabled : (m : GroundMachine) (w : World) (ts : List Bool) (k : ℕ) (guard : GroundGuard) (holds : Bool) → k < length m.send_cases → ts ≡ truths_in m.base w
    → ((x : GroundSendCase) → slice_get m.send_cases k ≡ Some x → guard ≡ x.guard) → holds ≡ guard_truth ts guard → holds ≡ enabled_at m w (member.SendCase k)
send_case_enabled m w ts k guard holds below e same h =
    let x = within_get m.send_cases k below in
    h ∙ ap (λ (us : List Bool). guard_truth us guard) e ∙ ap (guard_truth (truths_in m.base w)) (same x.0 x.1)
    ∙ sym (ap (λ (o : Option GroundSendCase). option_map_or (is_sending m w) o false) x.1)
