-- The values that are sent are those that the specification allows.
use Rattle.std.proofs.Common.{◌≡◌, ℕ, List, [], ◌∷◌, map, fold, ℤ, inl, inr, refl, sym, ap, ◌∙◌, subst}
use Rattle.std.specs.List.{AllZip}
use Rattle.rsml_syntax.specs.declared.syntax.Spec.{Spec}
use Rattle.rsml_syntax.specs.declared.syntax.Decl.{Decl}
use Rattle.rsml_syntax.specs.declared.syntax.Decl.TheVariants as decl
use Rattle.rsml_syntax.specs.declared.syntax.Value.{Value}
use Rattle.rsml_syntax.specs.declared.syntax.Value.TheVariants as values
use Rattle.rsml_syntax.specs.declared.syntax.Answer.{Answer}
use Rattle.rsml_syntax.specs.declared.syntax.Answer.TheVariants as answers
use Rattle.rsml_syntax.specs.declared.world.World.{World}
use Rattle.rsml_syntax.specs.limits.Comparisons.{Indices}
use Rattle.rsml_syntax.specs.rules.Globals.{Globals}
use Rattle.rsml_meaning.specs.Words.{Instance, Each, IsOne}
use Rattle.rsml_meaning.specs.Instances.{globals_of}
use Rattle.rsml_meaning.specs.Truth.{View, bare, learn, view, within, instance, Gives}
use Rattle.rsml_meaning.specs.Interfaces.{SendCaseInstance, send_cases}
use Rattle.rsml_meaning.specs.Steps.{Sent, IsValue, AreValues}
use Rattle.rsml_ground.specs.Truths.{first_value, value_in}
use Rattle.rsml_ground.proofs.DeclaredLemmas.{beside_first}
use Rattle.rsml_ground.proofs.PhraseLemmas.{functions_mean_the_text}
use Rattle.rsml_ground.proofs.SumLemmas.{sums_mean_the_text}
use Rattle.ground_members.specs.declared.send_cases.GroundValue.{GroundValue}
use Rattle.ground_members.specs.declared.send_cases.GroundValue.TheVariants as value
use Rattle.ground_members.specs.declared.send_cases.GroundAnswer.{GroundAnswer}
use Rattle.ground_members.specs.declared.send_cases.GroundAnswer.TheVariants as answer
use Rattle.ground_members.specs.Members.{SendCaseIs, AnswerIs, ValueIs}
use Rattle.elaborate.specs.Machine.{GroundMachine, StandsFor}
use Rattle.state_tree.proofs.Kin.{get_index}
use Rattle.micro_step.specs.Places.{ArePlaces}
use Rattle.micro_step.specs.Numbers.{value_number, values_of, case_numbers, AreOfCase, of_cases}

learn_keeps : (d : Decl) (v : View) → (learn v d).names ≡ v.names
learn_keeps (decl.Macro x size rows) v = refl
learn_keeps (decl.Function x size cases) v = refl
learn_keeps _ v = refl

learned : (ds : List Decl) (v : View) → (fold learn v ds).names ≡ v.names
learned [] v = refl
learned (d ∷ ds) v = learned ds (learn v d) ∙ learn_keeps d v

view_names : (s : Spec) (w : World) → (view s w).names ≡ globals_of s
view_names s w = learned s.decls (bare s w)

first_is_given : (v : View) (f : Instance) (ns : List ℤ) → v.gives f ≡ ns → Gives v f (first_value ns)
first_is_given v f [] e = inr (e, refl)
first_is_given v f (n ∷ ns) e = inl (subst (λ ys. IsOne n ys) (sym e) (inl refl))

value_is : (m : GroundMachine) (w : World) (r : Indices) → StandsFor m → (x : Value) (y : GroundValue) → ValueIs m.base.spec r x y → IsValue (view m.base.spec w) r x (value_number m w y)
value_is m w r stands (values.Sum x) (value.Sum y) is = sums_mean_the_text m.base w r x y is.0
value_is m w r stands (values.Sum x) (value.Function k) is = absurd is
value_is m w r stands (values.Function f) (value.Sum y) is = absurd is
value_is m w r stands (values.Function f) (value.Function k) is =
    let s = m.base.spec in
    let v = view s w in
    let there = functions_mean_the_text m.base w stands.grounded k is.0 is.1 in
    let given = subst (λ (ns : List ℤ). Gives v is.0.function (first_value ns)) (sym there) (first_is_given v is.0.function (v.gives is.0.function) refl) in
    subst (λ (i : Instance). Gives v i (value_in m.base w k)) (is.2 ∙ ap (λ (g : Globals). instance g r f) (sym (view_names s w))) given

values_are : (m : GroundMachine) (w : World) (r : Indices) → StandsFor m → (xs : List Value) (ys : List GroundValue) → AllZip (ValueIs m.base.spec r) xs ys → AllZip (IsValue (view m.base.spec w) r) xs (map (value_number m w) ys)
values_are m w r stands [] [] z = tt
values_are m w r stands [] (y ∷ ys) z = absurd z
values_are m w r stands (x ∷ xs) [] z = absurd z
values_are m w r stands (x ∷ xs) (y ∷ ys) z = (value_is m w r stands x y z.0, values_are m w r stands xs ys z.1)

answer_is : (m : GroundMachine) (w : World) (r : Indices) → StandsFor m → (x : Answer) (y : GroundAnswer) → AnswerIs m.base.spec r x y → AreValues (view m.base.spec w) r x (map (value_number m w) (values_of y))
answer_is m w r stands answers.Quiet answer.Quiet is = refl
answer_is m w r stands answers.Quiet (answer.Values ys) is = absurd is
answer_is m w r stands (answers.Values xs) answer.Quiet is = absurd is
answer_is m w r stands (answers.Values xs) (answer.Values ys) is = values_are m w r stands xs ys is

-- What is sent.

-- Send cases with values: those of these numbers.
pub record AreSent (m : GroundMachine) (w : World) (cs : List SendCaseInstance) (ks : List ℕ) (ns : List (List ℤ)) : Type 0 where
  pub sent : List Sent
  pub cases_are : map (λ c. c.send_case) sent ≡ cs
  pub numbers_are : map (λ c. c.values) sent ≡ of_cases ns ks
  pub allowed : Each (λ c. AreValues (view m.base.spec w) (within c.send_case.send.index) c.send_case.answer c.values) sent

pub sent_with : (m : GroundMachine) (w : World) (ns : List (List ℤ)) → StandsFor m → (cs : List SendCaseInstance) (ks : List ℕ) → ArePlaces (send_cases m.base.spec) cs ks
    → Each (AreOfCase m w ns) ks → AreSent m w cs ks ns
sent_with m w ns stands [] [] z h = record { sent = []; cases_are = refl; numbers_are = refl; allowed = tt }
sent_with m w ns stands [] (k ∷ ks) z h = absurd z
sent_with m w ns stands (c ∷ cs) [] z h = absurd z
sent_with m w ns stands (c ∷ cs) (k ∷ ks) z h =
    let s = m.base.spec in
    let y = beside_first (SendCaseIs m.base.phrases s) (send_cases s) m.send_cases stands.cases_are k c z.0 in
    let rest = sent_with m w ns stands cs ks z.1 h.1 in
    let numbers = case_numbers m w y.0 in
    let there = get_index ns k numbers [] (h.0 y.0 y.1) in
    record {
      sent = (record { send_case = c; values = numbers }) ∷ rest.sent;
      cases_are = ap (λ (xs : List SendCaseInstance). c ∷ xs) rest.cases_are;
      numbers_are = λ i. sym there i ∷ rest.numbers_are i;
      allowed = (answer_is m w (within c.send.index) stands c.answer y.0.answer y.2.answer, rest.allowed);
    }
