-- Members over numbers are enabled where those of the text are.
use Rattle.std.proofs.Common.{◌≡◌, ℕ, Bool, true, false, ◌&&◌, List, [], ◌∷◌, length, filter, cond, Option, Some, None, slice_get, refl, sym, ap, ◌∙◌, subst}
use Rattle.std.specs.List.{AllZip}
use Rattle.std.specs.Option.{option_map_or}
use Rattle.rsml_syntax.specs.declared.syntax.Case.{Case}
use Rattle.rsml_syntax.specs.declared.syntax.Spec.{Spec}
use Rattle.rsml_syntax.specs.declared.world.World.{World}
use Rattle.rsml_meaning.specs.Words.{Path, Instance, item_of}
use Rattle.rsml_meaning.specs.Active.{active}
use Rattle.rsml_meaning.specs.Truth.{view, guard, within}
use Rattle.rsml_meaning.specs.Transitions.{TransitionInstance, transitions}
use Rattle.rsml_meaning.specs.Transitions as meaning
use Rattle.rsml_meaning.specs.Interfaces.{SendCaseInstance, FunctionInstance, send_cases, definitions, function_cases}
use Rattle.rsml_meaning.specs.Groups.{Group, enabled, members, enabled_count}
use Rattle.rsml_meaning.specs.Groups as meaning_of
use Rattle.rsml_ground.specs.declared.definitions.Definition.{Definition}
use Rattle.rsml_ground.specs.declared.definitions.Definition.TheVariants as definition
use Rattle.rsml_ground.specs.declared.definitions.GroundCase.{GroundCase}
use Rattle.rsml_ground.specs.Truths.{is_active, guard_truth, truths_in}
use Rattle.rsml_ground.specs.StandsFor.{CaseIs, DefinitionIs}
use Rattle.rsml_ground.proofs.DeclaredLemmas.{beside_first, path_is}
use Rattle.rsml_ground.proofs.PhraseLemmas.{guards_mean_the_text}
use Rattle.ground_members.specs.declared.transitions.GroundTransition.{GroundTransition}
use Rattle.ground_members.specs.declared.send_cases.GroundSendCase.{GroundSendCase}
use Rattle.ground_members.specs.Members.{TransitionIs, SendCaseIs}
use Rattle.ground_groups.specs.declared.group.Member.{Member}
use Rattle.ground_groups.specs.declared.group.Member.TheVariants as member
use Rattle.ground_groups.specs.Groups.{MemberIs, IsFunctionCase}
use Rattle.elaborate.specs.Machine.{GroundMachine, StandsFor}
use Rattle.elaborate.specs.Enabled.{is_enabled, is_sending, is_true_case, enabled_at, count_at}
use Rattle.elaborate.specs.Laws.{MembersAreEnabledAsInTheText, CountsAreThoseOfTheText}
use Rattle.elaborate.proofs.Views.{view_active}

-- a transition over numbers is enabled where the one is for which it stands
pub transition_enabled : (m : GroundMachine) (w : World) → StandsFor m → (t : TransitionInstance) (x : GroundTransition) → TransitionIs m.base.phrases m.base.spec t x
    → is_enabled m w x ≡ meaning.is_enabled (view m.base.spec w) t
transition_enabled m w stands t x is =
    ap (λ (b : Bool). b && guard_truth (truths_in m.base w) x.guard)
    (ap (active m.base.spec w) (path_is m.base.spec x.source t.source is.source) ∙ sym (view_active m.base.spec w t.source))
    ∙ ap (λ (b : Bool). (view m.base.spec w).is_active t.source && b) (guards_mean_the_text m.base w stands.grounded (within t.this) t.guard x.guard is.guard)

-- so is a case of a send
pub case_sending : (m : GroundMachine) (w : World) → StandsFor m → (c : SendCaseInstance) (x : GroundSendCase) → SendCaseIs m.base.phrases m.base.spec c x
    → is_sending m w x ≡ guard (view m.base.spec w) (within c.send.index) c.guard
case_sending m w stands c x is = guards_mean_the_text m.base w stands.grounded (within c.send.index) c.guard x.guard is.guard

transition_at : (m : GroundMachine) (w : World) → StandsFor m → (t : TransitionInstance) (k : ℕ) → slice_get (transitions m.base.spec) k ≡ Some t
    → option_map_or (is_enabled m w) (slice_get m.transitions k) false ≡ meaning.is_enabled (view m.base.spec w) t
transition_at m w stands t k at =
    let y = beside_first (TransitionIs m.base.phrases m.base.spec) (transitions m.base.spec) m.transitions stands.transitions_are k t at in
    ap (λ (o : Option GroundTransition). option_map_or (is_enabled m w) o false) y.1 ∙ transition_enabled m w stands t y.0 y.2

send_case_at : (m : GroundMachine) (w : World) → StandsFor m → (c : SendCaseInstance) (k : ℕ) → slice_get (send_cases m.base.spec) k ≡ Some c
    → option_map_or (is_sending m w) (slice_get m.send_cases k) false ≡ guard (view m.base.spec w) (within c.send.index) c.guard
send_case_at m w stands c k at =
    let y = beside_first (SendCaseIs m.base.phrases m.base.spec) (send_cases m.base.spec) m.send_cases stands.cases_are k c at in
    ap (λ (o : Option GroundSendCase). option_map_or (is_sending m w) o false) y.1 ∙ case_sending m w stands c y.0 y.2

case_in : (m : GroundMachine) (w : World) → StandsFor m → (f : FunctionInstance) (d : Definition) → DefinitionIs m.base.phrases m.base.spec (function_cases f) d
    → (place : ℕ) (c : ℕ × Case) → slice_get f.cases place ≡ Some c → is_true_case m w (Some d) place ≡ guard (view m.base.spec w) (within f.function.index) (item_of c).guard
case_in m w stands f (definition.Macro table) is place c at = absurd is
case_in m w stands f (definition.Function cases) is place c at =
    let R = λ (c : ℕ × Case) (x : GroundCase). CaseIs m.base.phrases m.base.spec (within f.function.index) (item_of c) x in
    let y = beside_first R f.cases cases is place c at in
    ap (λ (o : Option GroundCase). option_map_or (λ x. guard_truth (truths_in m.base w) x.guard) o false) y.1
    ∙ guards_mean_the_text m.base w stands.grounded (within f.function.index) (item_of c).guard y.0.guard y.2.guard

function_case_at : (m : GroundMachine) (w : World) → StandsFor m → (f : Instance) (c : ℕ × Case) (k place : ℕ) → IsFunctionCase m.base.spec f c k place
    → is_true_case m w (slice_get m.base.definitions k) place ≡ guard (view m.base.spec w) (within f.index) (item_of c).guard
function_case_at m w stands f c k place is =
    let y = beside_first (DefinitionIs m.base.phrases m.base.spec) (definitions m.base.spec) m.base.definitions stands.grounded.stand k (function_cases is.instance) is.there in
    ap (λ (o : Option Definition). is_true_case m w o place) y.1
    ∙ case_in m w stands is.instance y.0 y.2 place c is.case_is
    ∙ ap (λ (i : Instance). guard (view m.base.spec w) (within i.index) (item_of c).guard) is.is

pub members_are_enabled : MembersAreEnabledAsInTheText
members_are_enabled m w stands (meaning_of.transition t) (member.Transition k) is = transition_at m w stands t k is
members_are_enabled m w stands (meaning_of.transition t) (member.SendCase k) is = absurd is
members_are_enabled m w stands (meaning_of.transition t) (member.FunctionCase k place) is = absurd is
members_are_enabled m w stands (meaning_of.send_case c) (member.Transition k) is = absurd is
members_are_enabled m w stands (meaning_of.send_case c) (member.SendCase k) is = send_case_at m w stands c k is
members_are_enabled m w stands (meaning_of.send_case c) (member.FunctionCase k place) is = absurd is
members_are_enabled m w stands (meaning_of.case f c) (member.Transition k) is = absurd is
members_are_enabled m w stands (meaning_of.case f c) (member.SendCase k) is = absurd is
members_are_enabled m w stands (meaning_of.case f c) (member.FunctionCase k place) is = function_case_at m w stands f c k place is

counted : (m : GroundMachine) (w : World) → StandsFor m → (ms : List meaning_of.Member) (xs : List Member) → AllZip (MemberIs m.base.spec) ms xs
    → length (filter (enabled_at m w) xs) ≡ length (filter (enabled (view m.base.spec w)) ms)
counted m w stands [] [] z = refl
counted m w stands [] (x ∷ xs) z = absurd z
counted m w stands (y ∷ ys) [] z = absurd z
counted m w stands (y ∷ ys) (x ∷ xs) z =
    by (enabled_at m w x) (enabled (view m.base.spec w) y) (members_are_enabled m w stands y x z.0) (counted m w stands ys xs z.1)
  where
    by : (a b : Bool) → a ≡ b → length (filter (enabled_at m w) xs) ≡ length (filter (enabled (view m.base.spec w)) ys)
        → length (cond a (x ∷ filter (enabled_at m w) xs) (filter (enabled_at m w) xs)) ≡ length (cond b (y ∷ filter (enabled (view m.base.spec w)) ys) (filter (enabled (view m.base.spec w)) ys))
    by true true e h = cc
    by false false e h = h
    by true false e h = cc
    by false true e h = cc

pub counts_are : CountsAreThoseOfTheText
counts_are m w stands g xs z = counted m w stands (members m.base.spec g) xs z
