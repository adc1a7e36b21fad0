-- A micro-step has one result where no two taken sources lie on one line and each function has one value.
use Rattle.std.proofs.Common.{◌≡◌, true, ◌&&◌, List, [], ◌∷◌, map, zip, fold, drop, ℤ, refl, sym, ap, ◌∙◌, subst}
use Rattle.std.specs.List.{AllZip}
use Rattle.rsml_syntax.specs.declared.syntax.Spec.{Spec}
use Rattle.rsml_syntax.specs.declared.world.World.{World}
use Rattle.rsml_syntax.specs.declared.syntax.Decl.{Decl}
use Rattle.rsml_syntax.specs.declared.syntax.Decl.TheVariants as decl
use Rattle.rsml_syntax.specs.declared.syntax.Value.{Value}
use Rattle.rsml_syntax.specs.declared.syntax.Value.TheVariants as values
use Rattle.rsml_syntax.specs.declared.syntax.Answer.{Answer}
use Rattle.rsml_syntax.specs.declared.syntax.Answer.TheVariants as answers
use Rattle.rsml_syntax.specs.limits.Comparisons.{Indices}
use Rattle.rsml_meaning.specs.Words.{Each, IsOne, AllThree, Instance, has}
use Rattle.rsml_meaning.specs.Instances.{components, globals_of}
use Rattle.rsml_meaning.specs.Truth.{View, view, learn, bare, within, instance, Gives}
use Rattle.rsml_meaning.specs.Interfaces.{SendCaseInstance, send_cases, is_sending}
use Rattle.rsml_meaning.specs.Steps.{Sent, IsValue, AreValues, outcomes, enabled_transitions, enabled_sends, raised_by}
use Rattle.rsml_meaning.specs.Scoped.{WellScoped, ValueIsScoped, AnswerIsScoped}
use Rattle.rsml_meaning.specs.MicroSteps.{Result, IsResult, NoTwoOnALine, FunctionsHaveOneValue}
use Rattle.rsml_meaning.specs.RunLaws.{MicroStepsAreOne, RoundsAreDeterminate}
use Rattle.rsml_meaning.proofs.Lists.{each_filter, each_more}
use Rattle.rsml_meaning.proofs.Sources.{each_taken}
use Rattle.rsml_meaning.proofs.Apart.{one_outcome, same_children}
use Rattle.rsml_meaning.proofs.WorldSteps.{micro_steps_exist}
use Rattle.rsml_meaning.proofs.Lines.{taken_apart}
use Rattle.rsml_meaning.proofs.Sends.{one_case}
use Rattle.rsml_meaning.proofs.MessageValues.{one_value, one_true_case}
use Rattle.rsml_meaning.proofs.Longer.{next_longer}

learn_keeps : (d : Decl) (v : View) → (learn v d).names ≡ v.names
learn_keeps (decl.Macro x size rows) v = refl
learn_keeps (decl.Function x size cases) v = refl
learn_keeps _ v = refl

learned : (ds : List Decl) (v : View) → (fold learn v ds).names ≡ v.names
learned [] v = refl
learned (d ∷ ds) v = learned ds (learn v d) ∙ learn_keeps d v

-- a view has the names of the specification
view_names : (s : Spec) (w : World) → (view s w).names ≡ globals_of s
view_names s w = learned s.decls (bare s w)

module _ (s : Spec) (w : World) (scoped : WellScoped s) (one : FunctionsHaveOneValue s w) where
  abbrev v : View
  v = view s w

  same_value : (r : Indices) (x : Value) (a b : ℤ) → ValueIsScoped s r x → IsValue v r x a → IsValue v r x b → a ≡ b
  same_value r (values.Sum x) a b p h j = h ∙ sym j
  same_value r (values.Function m) a b p h j =
      let named = ap (λ g. instance g r m) (view_names s w) ∙ sym p.2 in
      one p.0 p.1 a b (subst (λ z. Gives v z a) named h) (subst (λ z. Gives v z b) named j)

  same_list : (r : Indices) (xs : List Value) (ns ms : List ℤ) → Each (ValueIsScoped s r) xs → AllZip (IsValue v r) xs ns → AllZip (IsValue v r) xs ms → ns ≡ ms
  same_list r [] [] [] p h j = refl
  same_list r (x ∷ xs) (a ∷ ns) (b ∷ ms) p h j = λ t. same_value r x a b p.0 h.0 j.0 t ∷ same_list r xs ns ms p.1 h.1 j.1 t
  same_list r [] [] (b ∷ ms) p h j = elim j [ ]
  same_list r [] (a ∷ ns) ms p h j = elim h [ ]
  same_list r (x ∷ xs) [] ms p h j = elim h [ ]
  same_list r (x ∷ xs) (a ∷ ns) [] p h j = elim j [ ]

  same_answer : (r : Indices) (x : Answer) (ns ms : List ℤ) → AnswerIsScoped s r x → AreValues v r x ns → AreValues v r x ms → ns ≡ ms
  same_answer r answers.Quiet ns ms p h j = h ∙ sym j
  same_answer r (answers.Values xs) ns ms p h j = same_list r xs ns ms p h j

  abbrev Right : Sent → Type 0
  Right q = AreValues v (within q.send_case.send.index) q.send_case.answer q.values

  abbrev Scoped : SendCaseInstance → Type 0
  Scoped c = AnswerIsScoped s (within c.send.index) c.answer

  abbrev head_or : SendCaseInstance → List SendCaseInstance → SendCaseInstance
  head_or x [] = x
  head_or x (y ∷ ys) = y

  abbrev case_of : Sent → SendCaseInstance
  case_of q = q.send_case

  -- of the same cases the same is sent
  same_sent : (ss qs : List Sent) → map case_of ss ≡ map case_of qs → Each Scoped (map case_of ss) → Each Right ss → Each Right qs → ss ≡ qs
  same_sent [] [] e p h j = refl
  same_sent [] (q ∷ qs) e p h j = cc
  same_sent (a ∷ ss) [] e p h j = cc
  same_sent (a ∷ ss) (b ∷ qs) e p h j =
      let here = ap (head_or a.send_case) e in
      let rest = same_sent ss qs (ap (drop 1) e) p.1 h.1 j.1 in
      let vals = same_answer (within a.send_case.send.index) a.send_case.answer a.values b.values p.0 h.0
      (subst (λ (z : SendCaseInstance). AreValues v (within z.send.index) z.answer b.values) (sym here) j.0) in
      λ t. record { send_case = here t; values = vals t } ∷ rest t

  each_sent : (present : List Instance) → Each Scoped (enabled_sends s v present)
  each_sent present = each_more (λ c. Scoped c × ((has present c.event && is_sending v c) ≡ true)) Scoped (λ c h. h.0) (enabled_sends s v present)
      (each_filter Scoped (λ c. has present c.event && is_sending v c) (send_cases s) scoped.answers)

  pub same_result : (present : List Instance) → NoTwoOnALine (enabled_transitions s v present) → (r q : Result) → IsResult s w present r → IsResult s w present q → q ≡ r
  same_result present apart r q m n =
      let taken = n.all_taken ∙ sym m.all_taken in
      let sent = same_sent q.sent r.sent (n.all_sent ∙ sym m.all_sent) (subst (Each Scoped) (sym n.all_sent) (each_sent present)) n.values m.values in
      let on = each_taken s w present (λ c old new. IsOne new (outcomes r.taken c old)) r.world.choices m.children in
      let choices = same_children (outcomes (enabled_transitions s v present)) (λ c k. one_outcome (zip (components s) w.choices) c k (enabled_transitions s v present) on apart) (components s) w.choices q.world.choices r.world.choices
      (subst (λ ts. AllThree (λ c old new. IsOne new (outcomes ts c old)) (components s) w.choices q.world.choices) n.all_taken n.children)
      (subst (λ ts. AllThree (λ c old new. IsOne new (outcomes ts c old)) (components s) w.choices r.world.choices) m.all_taken m.children) in
      let numbers = n.numbers ∙ sym m.numbers in
      let raised = n.all_raised ∙ ap (raised_by s) taken ∙ sym m.all_raised in
      λ t. record { taken = taken t; sent = sent t; world = record { choices = choices t; cells = numbers t }; raised = raised t }

pub micro_steps_are_one : MicroStepsAreOne
micro_steps_are_one s w present scoped i one apart =
    let r = micro_steps_exist s w present i in
    (r.0, r.1, λ q m. same_result s w scoped one present apart r.0 q r.1 m)

pub rounds_are_determinate : RoundsAreDeterminate
rounds_are_determinate s w x n present scoped cert i ends =
    let apart = taken_apart s w scoped cert i x n present ends in
    record {
      apart = apart;
      sends = one_case s w scoped cert i x n present ends;
      functions = one_true_case s w cert i;
      result = micro_steps_are_one s w present scoped i (one_value s w cert i scoped.in_order) apart;
      longer = λ r m. next_longer s w x n present r m ends;
    }
