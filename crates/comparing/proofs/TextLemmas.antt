-- How the parts of a difference are written.
use Rattle.std.proofs.Common.{◌≡◌, ℕ, true, List, [], ◌++◌, Option, Some, Result, Ok, Err, codes, map, refl, sym, ap, ◌∙◌, subst, slice_get}
use Rattle.std.specs.Prelude.{IfOk, ◌↔◌}
use Rattle.std.specs.Option.{option_map, option_map_or}
use Rattle.std.specs.Result.{IsOk}
use Rattle.std.proofs.lemmas.Option.{same_Some, slice_get-map}
use Rattle.rsml_syntax.specs.declared.syntax.Spec.{Spec}
use Rattle.rsml_meaning.specs.Words.{Instance}
use Rattle.rsml_meaning.specs.Interfaces.{Definition, SendCaseInstance, definitions, send_cases, sends}
use Rattle.rsml_meaning.specs.Groups as meaning_of
use Rattle.rsml_meaning.specs.Texts.{Text, instance_text}
use Rattle.state_arrays.specs.Places.{defined}
use Rattle.rsml_ground.proofs.DeclaredLemmas.{beside_first}
use Rattle.ground_members.specs.declared.send_cases.GroundSendCase.{GroundSendCase}
use Rattle.ground_members.specs.Members.{SendCaseIs}
use Rattle.ground_groups.specs.declared.group.Member.TheVariants as member
use Rattle.ground_groups.specs.Groups.{MemberIs, IsFunctionCase}
use Rattle.elaborate.specs.Machine.{GroundMachine, StandsFor}
use Rattle.text_writer.specs.Writes.{Writes}
use Rattle.text_writer.specs.DraftState.{DraftState, empty, writer_state}
use Rattle.comparing.specs.DifferenceText.{owner_text}

-- the case of a send at a place is of the send of that of the text
pub send_is : (m : GroundMachine) → StandsFor m → (k : ℕ) (c : SendCaseInstance) (x : GroundSendCase) → slice_get (send_cases m.base.spec) k ≡ Some c → slice_get m.send_cases k ≡ Some x
    → slice_get (sends m.base.spec) x.send ≡ Some c.send
send_is m stands k c x at there =
    let y = beside_first (SendCaseIs m.base.phrases m.base.spec) (send_cases m.base.spec) m.send_cases stands.cases_are k c at in
    subst (λ (z : GroundSendCase). slice_get (sends m.base.spec) z.send ≡ Some c.send) (same_Some y.0 x (sym y.1 ∙ there)) y.2.send

-- the name of an instance at a place of a list
pub name_is : (xs : List Instance) (k : ℕ) (x : Instance) → slice_get xs k ≡ Some x → option_map_or instance_text (slice_get xs k) [] ≡ instance_text x
name_is xs k x at = ap (λ (o : Option Instance). option_map_or instance_text o []) at

-- that of the function of a case
pub function_name : (s : Spec) (f : Instance) (k place : ℕ) (c : _) → IsFunctionCase s f c k place → option_map_or instance_text (slice_get (map defined (definitions s)) k) [] ≡ instance_text f
function_name s f k place c is =
    name_is (map defined (definitions s)) k f
    (slice_get-map defined (definitions s) k ∙ ap (λ (o : Option Definition). option_map defined o) is.there ∙ ap (λ (i : Instance). Some i) is.is)

-- What holds of the owners of transitions, of cases of sends, and of cases of functions.

pub of_transition : (P : Text → Type 0) (s : Spec) (k : ℕ) → P [] → (m : meaning_of.Member) → MemberIs s m (member.Transition k) → P (owner_text m)
of_transition P s k h (meaning_of.transition t) is = h
of_transition P s k h (meaning_of.send_case c) is = absurd is
of_transition P s k h (meaning_of.case f c) is = absurd is

pub of_send_case : (P : Text → Type 0) (s : Spec) (k : ℕ) → ((c : SendCaseInstance) → slice_get (send_cases s) k ≡ Some c → P (codes "send " ++ (instance_text c.send ++ codes " ")))
    → (m : meaning_of.Member) → MemberIs s m (member.SendCase k) → P (owner_text m)
of_send_case P s k h (meaning_of.transition t) is = absurd is
of_send_case P s k h (meaning_of.send_case c) is = h c is
of_send_case P s k h (meaning_of.case f c) is = absurd is

pub of_function_case : (P : Text → Type 0) (s : Spec) (k place : ℕ) → P (codes "function " ++ (option_map_or instance_text (slice_get (map defined (definitions s)) k) [] ++ codes " "))
    → (m : meaning_of.Member) → MemberIs s m (member.FunctionCase k place) → P (owner_text m)
of_function_case P s k place h (meaning_of.transition t) is = absurd is
of_function_case P s k place h (meaning_of.send_case c) is = absurd is
of_function_case P s k place h (meaning_of.case f c) is = subst (λ (t : Text). P (codes "function " ++ (t ++ codes " "))) (function_name s f k place c is) h

-- what is written to an empty draft, for each of some things, is what it gives
pub finished : {T E X : Type 0} (items : T → List ℕ) (r : Result T E) (start end : DraftState) (Is : X → Type 0) (t : X → List ℕ) → start ≡ empty
    → ((x : X) → Is x → Writes (writer_state start) (Some start.text) (t x) (writer_state end) (Some end.text))
    → IsOk r ↔ (end.whole ≡ true) → IfOk r (λ v. items v ≡ end.text) → IfOk r (λ v. (x : X) → Is x → items v ≡ t x)
finished items (Ok v) start end Is t e h ok given = λ x is.
    let written : end.text ≡ start.text ++ t x = same_Some end.text (start.text ++ t x) ((h x is).all (ok.0 refl)) in
    given ∙ written ∙ ap (λ (d : DraftState). d.text ++ t x) e
finished items (Err x) start end Is t e h ok given = tt
