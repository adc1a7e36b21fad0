-- The labels of members by their numbers.
use Rattle.std.proofs.Common.{◌≡◌, ℕ, zero, suc, ◌+◌, List, [], ◌∷◌, Some, sym, ap, ◌∙◌, subst, slice_get, arith}
use Rattle.std.proofs.lemmas.Option.{same_Some}
use Rattle.rsml_syntax.specs.declared.syntax.Spec.{Spec}
use Rattle.rsml_syntax.specs.declared.syntax.Case.{Case}
use Rattle.rsml_meaning.specs.Words.{Instance, numbered_from, ordinal_of}
use Rattle.rsml_meaning.specs.Transitions.{TransitionInstance, transitions}
use Rattle.rsml_meaning.specs.Interfaces.{SendCaseInstance, send_cases, function_cases}
use Rattle.rsml_meaning.specs.Groups as meaning_of
use Rattle.rsml_meaning.specs.Texts.{Text, label, case_label}
use Rattle.rsml_meaning.specs.Report.{member_label}
use Rattle.rsml_ground.proofs.DeclaredLemmas.{beside_first, declared_at}
use Rattle.ground_members.specs.declared.transitions.GroundTransition.{GroundTransition}
use Rattle.ground_members.specs.declared.send_cases.GroundSendCase.{GroundSendCase}
use Rattle.ground_members.specs.Members.{TransitionIs, SendCaseIs}
use Rattle.ground_groups.specs.declared.group.Member.TheVariants as member
use Rattle.ground_groups.specs.Groups.{MemberIs, IsFunctionCase}
use Rattle.elaborate.specs.Machine.{GroundMachine, StandsFor}

-- the transition at a place stands for that of the text
pub transition_is : (m : GroundMachine) → StandsFor m → (k : ℕ) (t : TransitionInstance) (x : GroundTransition) → slice_get (transitions m.base.spec) k ≡ Some t → slice_get m.transitions k ≡ Some x
    → TransitionIs m.base.phrases m.base.spec t x
transition_is m stands k t x at there =
    let y = beside_first (TransitionIs m.base.phrases m.base.spec) (transitions m.base.spec) m.transitions stands.transitions_are k t at in
    subst (λ (z : GroundTransition). TransitionIs m.base.phrases m.base.spec t z) (same_Some y.0 x (sym y.1 ∙ there)) y.2

-- the case of a send at a place has the ordinal of that of the text
pub send_case_ordinal : (m : GroundMachine) → StandsFor m → (k : ℕ) (c : SendCaseInstance) (x : GroundSendCase) → slice_get (send_cases m.base.spec) k ≡ Some c → slice_get m.send_cases k ≡ Some x
    → x.ordinal ≡ c.ordinal
send_case_ordinal m stands k c x at there =
    let y = beside_first (SendCaseIs m.base.phrases m.base.spec) (send_cases m.base.spec) m.send_cases stands.cases_are k c at in
    ap (λ (z : GroundSendCase). z.ordinal) (sym (same_Some y.0 x (sym y.1 ∙ there))) ∙ y.2.ordinal

numbered_at : {A : Type 0} (n : ℕ) (xs : List A) (k : ℕ) (c : ℕ × A) → slice_get (numbered_from n xs) k ≡ Some c → ordinal_of c ≡ n + k
numbered_at n [] k c h = absurd (let no : ⊥ = cc in no)
numbered_at {A} n (x ∷ xs) zero c h = let e : n ≡ ordinal_of c = ap (λ (z : ℕ × A). z.0) (same_Some (n, x) c h) in omega (arith, e)
numbered_at n (x ∷ xs) (suc k) c h = let e = numbered_at (suc n) xs k c h in omega (arith, e)

-- the case at a place of a function has the number behind it
pub case_ordinal : (s : Spec) (f : Instance) (c : ℕ × Case) (k place : ℕ) → IsFunctionCase s f c k place → place + 1 ≡ ordinal_of c
case_ordinal s f c k place is =
    let declared = declared_at s k (function_cases is.instance) is.there in
    let e = numbered_at 1 declared.1 place c (ap (λ (xs : List (ℕ × Case)). slice_get xs place) (sym declared.3) ∙ is.case_is) in
    omega (arith, e)

-- What holds of the labels of transitions, of cases of sends, and of cases of functions.

pub of_transition : (P : Text → Type 0) (s : Spec) (k : ℕ) → ((t : TransitionInstance) → slice_get (transitions s) k ≡ Some t → P (label t))
    → (m : meaning_of.Member) → MemberIs s m (member.Transition k) → P (member_label m)
of_transition P s k h (meaning_of.transition t) is = h t is
of_transition P s k h (meaning_of.send_case c) is = absurd is
of_transition P s k h (meaning_of.case f c) is = absurd is

pub of_send_case : (P : Text → Type 0) (s : Spec) (k : ℕ) → ((c : SendCaseInstance) → slice_get (send_cases s) k ≡ Some c → P (case_label c.ordinal))
    → (m : meaning_of.Member) → MemberIs s m (member.SendCase k) → P (member_label m)
of_send_case P s k h (meaning_of.transition t) is = absurd is
of_send_case P s k h (meaning_of.send_case c) is = h c is
of_send_case P s k h (meaning_of.case f c) is = absurd is

pub of_function_case : (P : Text → Type 0) (s : Spec) (k place : ℕ) → P (case_label (place + 1)) → (m : meaning_of.Member) → MemberIs s m (member.FunctionCase k place) → P (member_label m)
of_function_case P s k place h (meaning_of.transition t) is = absurd is
of_function_case P s k place h (meaning_of.send_case c) is = absurd is
of_function_case P s k place h (meaning_of.case f c) is = subst (λ (n : ℕ). P (case_label n)) (case_ordinal s f c k place is) h
