-- Where no member differs, two specifications of one frame are alike in each world.
use Rattle.std.proofs.Common.{◌≡◌, ℕ, suc, Bool, true, false, not, List, [], ◌∷◌, ◌++◌, map, flat_map, length, fold, zip, ◌⊎◌, inl, inr, if◌then◌else◌, unwrap_or, ℤ, pos, neg_ℤ, ◌+ℤ◌, refl, sym, ap, ◌∙◌, subst, arith, true≢false}
use Rattle.std.specs.List.{AllZip}
use Rattle.std.specs.Option.{option_map_or}
use Rattle.rsml_syntax.specs.declared.syntax.Spec.{Spec}
use Rattle.rsml_syntax.specs.declared.world.World.{World}
use Rattle.rsml_syntax.specs.declared.syntax.Decl.{Decl}
use Rattle.rsml_syntax.specs.declared.syntax.Decl.TheVariants as decl
use Rattle.rsml_syntax.specs.declared.syntax.Mention.{Mention}
use Rattle.rsml_syntax.specs.declared.syntax.Operand.{Operand}
use Rattle.rsml_syntax.specs.declared.syntax.Operand.TheVariants as operands
use Rattle.rsml_syntax.specs.declared.syntax.Term.{Term}
use Rattle.rsml_syntax.specs.declared.syntax.Sum.{Sum}
use Rattle.rsml_syntax.specs.declared.syntax.Value.{Value}
use Rattle.rsml_syntax.specs.declared.syntax.Value.TheVariants as values
use Rattle.rsml_syntax.specs.declared.syntax.Answer.{Answer}
use Rattle.rsml_syntax.specs.declared.syntax.Answer.TheVariants as answers
use Rattle.rsml_syntax.specs.declared.syntax.Case.{Case}
use Rattle.rsml_syntax.specs.text.Names.{Name}
use Rattle.rsml_syntax.specs.rules.Globals.{Globals, meaning, number, indices}
use Rattle.rsml_syntax.specs.rules.Uses.{is_input}
use Rattle.rsml_syntax.specs.limits.Comparisons.{Indices}
use Rattle.rsml_syntax.specs.limits.Checked.{IsChecked}
use Rattle.rsml_meaning.specs.Words.{Instance, Each, IsOne, first_some, numbered_from, item_of}
use Rattle.rsml_meaning.specs.Instances.{globals_of, events}
use Rattle.rsml_meaning.specs.Worlds.{IsWorld, held, cell}
use Rattle.rsml_meaning.specs.Truth.{View, view, bare, within, instance, mentioned, operand, term, sum, guard, values_given}
use Rattle.rsml_meaning.specs.Transitions.{transitions, is_enabled}
use Rattle.rsml_meaning.specs.Interfaces.{send_cases, is_sending, FunctionInstance, new_function, functions_of, functions}
use Rattle.rsml_meaning.specs.Groups.{Member, transition, send_case, case, enabled}
use Rattle.rsml_meaning.specs.Steps.{IsValue, AreValues}
use Rattle.rsml_meaning.specs.InOrder.{IsInOrder}
use Rattle.rsml_meaning.specs.Scoped.{WellScoped, ValueIsScoped, AnswerIsScoped}
use Rattle.rsml_meaning.proofs.Lists.{each_more, each_flat_map, each_map}
use Rattle.rsml_meaning.proofs.Stable.{same_rest, functions_give_their_cases}
use Rattle.rsml_meaning.proofs.rules.Scoped.{rules_give_scopes}
use Rattle.spec_frames.specs.Frames.{frame, HaveSameFrame}
use Rattle.equal_frames.specs.Alike.{opened_transition, opened_send_case}
use Rattle.equal_frames.specs.Differences.{all_members, differ, NoDifference}
use Rattle.equal_frames.proofs.Agree.{AreBlanked, same_number, same_is_input, same_instance_of}
use Rattle.equal_frames.proofs.Lists.{zip_more}
use Rattle.equal_frames.proofs.Members.{opened_numbered, opened_function, events_framed, transitions_framed, send_cases_framed, functions_framed}
use Rattle.equal_frames.proofs.Micro.{LikeMove, LikeCase, GivesAlike, AreLike}
use Rattle.equal_frames.proofs.Worlds.{zip_of_map, blanked_one, blanked_two, parts_same, cells_same}

-- Two lists, place by place.

zip_cut : {A B : Type 0} (R : A → B → Type 0) (xs : List A) (ys : List B) (us : List A) (vs : List B) → length xs ≡ length ys → AllZip R (xs ++ us) (ys ++ vs) → AllZip R xs ys × AllZip R us vs
zip_cut R [] [] us vs l h = (tt, h)
zip_cut R [] (y ∷ ys) us vs l h = absurd (omega (arith, l))
zip_cut R (x ∷ xs) [] us vs l h = absurd (omega (arith, l))
zip_cut R (x ∷ xs) (y ∷ ys) us vs l h = let r = zip_cut R xs ys us vs (omega (arith, l)) h.1 in ((h.0, r.0), r.1)

pub zip_unmap : {A B C D : Type 0} (R : C → D → Type 0) (f : A → C) (g : B → D) (xs : List A) (ys : List B) → AllZip R (map f xs) (map g ys) → AllZip (λ x y. R (f x) (g y)) xs ys
zip_unmap R f g [] [] h = tt
zip_unmap R f g (x ∷ xs) (y ∷ ys) h = (h.0, zip_unmap R f g xs ys h.1)
zip_unmap R f g [] (y ∷ ys) h = elim h [ ]
zip_unmap R f g (x ∷ xs) [] h = elim h [ ]

zip_pair : {A B : Type 0} (R S : A → B → Type 0) (xs : List A) (ys : List B) → AllZip R xs ys → AllZip S xs ys → AllZip (λ x y. R x y × S x y) xs ys
zip_pair R S [] [] h k = tt
zip_pair R S (x ∷ xs) (y ∷ ys) h k = ((h.0, k.0), zip_pair R S xs ys h.1 k.1)
zip_pair R S [] (y ∷ ys) h k = elim h [ ]
zip_pair R S (x ∷ xs) [] h k = elim h [ ]

long_map : {A B : Type 0} (f : A → B) (xs : List A) → length (map f xs) ≡ length xs
long_map f [] = refl
long_map f (x ∷ xs) = ap suc (long_map f xs)

-- lists that are one once they are mapped are as long, also mapped by others
as_long : {A B C D E : Type 0} (f : A → C) (g : B → C) (p : A → D) (q : B → E) (xs : List A) (ys : List B) → map f xs ≡ map g ys → length (map p xs) ≡ length (map q ys)
as_long f g p q xs ys e = long_map p xs ∙ sym (long_map f xs) ∙ ap length e ∙ long_map g ys ∙ sym (long_map q ys)

same_enabled : (a b : Bool) → (if a then not b else b) ≡ false → a ≡ b
same_enabled true true h = refl
same_enabled true false h = absurd (true≢false h)
same_enabled false true h = absurd (true≢false h)
same_enabled false false h = refl

-- Functions.

items_numbered : {A : Type 0} (n : ℕ) (xs : List A) → map item_of (numbered_from n xs) ≡ xs
items_numbered n [] = refl
items_numbered n (x ∷ xs) = ap (λ ys. x ∷ ys) (items_numbered (suc n) xs)

-- a function gives the values of its cases
abbrev IsOfCases : View → FunctionInstance → Type 0
IsOfCases v f = v.gives f.function ≡ values_given v (within f.function.index) (map item_of f.cases)

each_of_cases : (s : Spec) (w : World) → IsInOrder s → Each (IsOfCases (view s w)) (functions s)
each_of_cases s w o = each_flat_map (IsOfCases (view s w)) (functions_of (globals_of s)) s.decls of_decl
  where
    of_decl : (d : Decl) → IsOne d s.decls → Each (IsOfCases (view s w)) (functions_of (globals_of s) d)
    of_decl (decl.Function name size cases) m =
        each_map (IsOfCases (view s w)) (new_function name cases) (indices (globals_of s) size)
        (λ i. functions_give_their_cases s w o name i size cases m ∙ ap (values_given (view s w) (within i)) (sym (items_numbered 1 cases)))
    of_decl _ m = tt

-- the same cases but for their guards, which are true in both or in neither
abbrev pub LikeCases : View → View → Instance → Instance → ℕ × Case → ℕ × Case → Type 0
LikeCases u v f g c d = (opened_numbered c ≡ opened_numbered d) × (enabled u (case f c) ≡ enabled v (case g d))

-- the same function but for guards, which are true in both or in neither
abbrev pub LikeFunction : View → View → FunctionInstance → FunctionInstance → Type 0
LikeFunction u v f g = (f.function ≡ g.function) × AllZip (LikeCases u v f.function g.function) f.cases g.cases

abbrev cases_in : FunctionInstance → List Member
cases_in f = map (case f.function) f.cases

functions_alike : (u v : View) (fs gs : List FunctionInstance) → AllZip (λ f g. opened_function f ≡ opened_function g) fs gs → AllZip (λ m n. enabled u m ≡ enabled v n) (flat_map cases_in fs) (flat_map cases_in gs)
    → AllZip (LikeFunction u v) fs gs
functions_alike u v [] [] e h = tt
functions_alike u v (f ∷ fs) (g ∷ gs) e h =
    let cases : map opened_numbered f.cases ≡ map opened_numbered g.cases = ap (λ z. z.cases) e.0 in
    let r = zip_cut (λ m n. enabled u m ≡ enabled v n) (cases_in f) (cases_in g) (flat_map cases_in fs) (flat_map cases_in gs) (as_long opened_numbered opened_numbered (case f.function) (case g.function) f.cases g.cases cases) h in (
      (
        ap (λ z. z.function) e.0,
        zip_pair (λ c d. opened_numbered c ≡ opened_numbered d) (λ c d. enabled u (case f.function c) ≡ enabled v (case g.function d)) f.cases g.cases
            (zip_of_map opened_numbered opened_numbered f.cases g.cases cases)
            (zip_unmap (λ m n. enabled u m ≡ enabled v n) (case f.function) (case g.function) f.cases g.cases r.0),
      ),
      functions_alike u v fs gs e.1 r.1,
    )
functions_alike u v [] (g ∷ gs) e h = elim e [ ]
functions_alike u v (f ∷ fs) [] e h = elim e [ ]

-- Specifications.

-- the same view with other macros and functions
abbrev with_known : View → (Instance → Bool) → (Instance → List ℤ) → View
with_known v h g = record v { holds = h; gives = g }

module _ (s t : Spec) (one : IsChecked s) (two : IsChecked t) (same : HaveSameFrame s t) where
  -- what is the same in each of the two and its frame is the same in both
  across : {B : Type 0} (X : Globals → B) → X (globals_of s) ≡ X (globals_of (frame s)) → X (globals_of t) ≡ X (globals_of (frame t)) → X (globals_of s) ≡ X (globals_of t)
  across X a b = a ∙ ap (λ z. X (globals_of z)) same.syntax ∙ sym b

  abbrev ga : AreBlanked (globals_of s) (globals_of (frame s))
  ga = blanked_one s t one two same

  abbrev gb : AreBlanked (globals_of t) (globals_of (frame t))
  gb = blanked_two s t one two same

  pub instance_across : (r : Indices) (m : Mention) → instance (globals_of s) r m ≡ instance (globals_of t) r m
  instance_across r m = across (λ g. instance g r m) (same_instance_of (globals_of s) (globals_of (frame s)) ga r m) (same_instance_of (globals_of t) (globals_of (frame t)) gb r m)

  number_across : (name : Name) → number (globals_of s) name ≡ number (globals_of t) name
  number_across name = across (λ g. number g name) (same_number (globals_of s) (globals_of (frame s)) ga name) (same_number (globals_of t) (globals_of (frame t)) gb name)

  input_across : (name : Name) → option_map_or is_input (meaning (globals_of s) name) false ≡ option_map_or is_input (meaning (globals_of t) name) false
  input_across name = across (λ g. option_map_or is_input (meaning g name) false) (same_is_input (globals_of s) (globals_of (frame s)) ga name) (same_is_input (globals_of t) (globals_of (frame t)) gb name)

  pub cell_across : (w : World) (previous : Bool) (input : Instance) → cell s w previous input ≡ cell t w previous input
  cell_across w previous input = λ i. unwrap_or (first_some (held previous input) (zip (cells_same s t one two same i) w.cells)) (pos 0)

  pub transitions_open : map opened_transition (transitions s) ≡ map opened_transition (transitions t)
  transitions_open = transitions_framed s ga ∙ ap transitions same.syntax ∙ sym (transitions_framed t gb)

  pub send_cases_open : map opened_send_case (send_cases s) ≡ map opened_send_case (send_cases t)
  send_cases_open = send_cases_framed s ga ∙ ap send_cases same.syntax ∙ sym (send_cases_framed t gb)

  pub functions_open : map opened_function (functions s) ≡ map opened_function (functions t)
  functions_open = functions_framed s ga ∙ ap functions same.syntax ∙ sym (functions_framed t gb)

  module _ (w : World) where
    abbrev u : View
    u = view s w

    abbrev v : View
    v = view t w

    -- Sums.

    mentioned_bare : (r : Indices) (m : Mention) → mentioned (bare s w) r m ≡ mentioned (bare t w) r m
    mentioned_bare r m = λ i. elim (input_across m.name i) [ true ↦ cell_across w false (instance_across r m i) i | false ↦ number_across m.name i ]

    operand_known : (h k : Instance → Bool) (g f : Instance → List ℤ) (r : Indices) (o : Operand) → operand (with_known (bare s w) h g) r o ≡ operand (with_known (bare t w) k f) r o
    operand_known h k g f r (operands.Number n) = refl
    operand_known h k g f r (operands.Mention m) = mentioned_bare r m
    operand_known h k g f r (operands.Previous m) = λ i. cell_across w true (instance_across r m i) i

    operand_same : (r : Indices) (o : Operand) → operand u r o ≡ operand v r o
    operand_same r o =
        ap (λ z. operand z r o) (same_rest s.decls (bare s w))
        ∙ operand_known u.holds v.holds u.gives v.gives r o
        ∙ sym (ap (λ z. operand z r o) (same_rest t.decls (bare t w)))

    term_same : (r : Indices) (x : Term) → term u r x ≡ term v r x
    term_same r x = λ i. if x.minus then neg_ℤ (operand_same r x.operand i) else operand_same r x.operand i

    sum_same : (r : Indices) (x : Sum) → sum u r x ≡ sum v r x
    sum_same r x = λ i. fold (λ a y. a +ℤ term_same r y i) (pos 0) x.terms

    names_one : u.names ≡ globals_of s
    names_one = ap (λ z. z.names) (same_rest s.decls (bare s w))

    names_two : v.names ≡ globals_of t
    names_two = ap (λ z. z.names) (same_rest t.decls (bare t w))

    -- Values.

    given_same : (r : Indices) (f : Instance) (g : Instance) (cs ds : List (ℕ × Case)) → r ≡ within f.index → f ≡ g → AllZip (LikeCases u v f g) cs ds → values_given u r (map item_of cs) ≡ values_given v r (map item_of ds)
    given_same r f g [] [] e k h = refl
    given_same r f g (c ∷ cs) (d ∷ ds) e k h =
        let value : c.1.value ≡ d.1.value = ap (λ z. z.1.value) h.0.0 in
        let truth : guard u r c.1.guard ≡ guard v r d.1.guard
        = ap (λ z. guard u z c.1.guard) e ∙ h.0.1 ∙ ap (λ (x : Instance). guard v (within x.index) d.1.guard) (sym k) ∙ sym (ap (λ z. guard v z d.1.guard) e) in
        λ i. (if truth i then sum_same r (value i) i ∷ [] else []) ++ given_same r f g cs ds e k h.1 i
    given_same r f g [] (d ∷ ds) e k h = elim h [ ]
    given_same r f g (c ∷ cs) [] e k h = elim h [ ]

    gives_same : (fs gs : List FunctionInstance) → AllZip (LikeFunction u v) fs gs → Each (IsOfCases u) fs → Each (IsOfCases v) gs → (f : FunctionInstance) → IsOne f fs → u.gives f.function ≡ v.gives f.function
    gives_same [] gs z a b f m = absurd m
    gives_same (x ∷ fs) (y ∷ gs) z a b f (inl e) =
        ap (λ k. u.gives k.function) e
        ∙ a.0
        ∙ given_same (within x.function.index) x.function y.function x.cases y.cases refl z.0.0 z.0.1
        ∙ ap (λ (k : Instance). values_given v (within k.index) (map item_of y.cases)) z.0.0
        ∙ sym b.0
        ∙ ap v.gives (sym z.0.0)
        ∙ ap (λ k. v.gives k.function) (sym e)
    gives_same (x ∷ fs) (y ∷ gs) z a b f (inr m) = gives_same fs gs z.1 a.1 b.1 f m
    gives_same (x ∷ fs) [] z a b f m = elim z [ ]

    module _ (is_world : IsWorld s w) (none : NoDifference s t) where
      abbrev Enabled : Member → Member → Type 0
      Enabled m n = enabled u m ≡ enabled v n

      members_alike : AllZip Enabled (all_members s) (all_members t)
      members_alike = zip_more (λ m n. (x : World) → IsWorld s x → differ s t (m, n) x ≡ false) Enabled (λ m n h. same_enabled (enabled u m) (enabled v n) (h w is_world)) (all_members s) (all_members t) none

      first_cut : AllZip Enabled (map transition (transitions s)) (map transition (transitions t))
          × AllZip Enabled (map send_case (send_cases s) ++ flat_map cases_in (functions s)) (map send_case (send_cases t) ++ flat_map cases_in (functions t))
      first_cut = zip_cut Enabled (map transition (transitions s)) (map transition (transitions t)) (map send_case (send_cases s) ++ flat_map cases_in (functions s)) (map send_case (send_cases t) ++ flat_map cases_in (functions t))
          (as_long opened_transition opened_transition transition transition (transitions s) (transitions t) transitions_open) members_alike

      second_cut : AllZip Enabled (map send_case (send_cases s)) (map send_case (send_cases t)) × AllZip Enabled (flat_map cases_in (functions s)) (flat_map cases_in (functions t))
      second_cut = zip_cut Enabled (map send_case (send_cases s)) (map send_case (send_cases t)) (flat_map cases_in (functions s)) (flat_map cases_in (functions t))
          (as_long opened_send_case opened_send_case send_case send_case (send_cases s) (send_cases t) send_cases_open) first_cut.1

      pub moves_alike : AllZip (LikeMove u v) (transitions s) (transitions t)
      moves_alike = zip_pair (λ a b. opened_transition a ≡ opened_transition b) (λ a b. is_enabled u a ≡ is_enabled v b) (transitions s) (transitions t)
          (zip_of_map opened_transition opened_transition (transitions s) (transitions t) transitions_open)
          (zip_unmap Enabled transition transition (transitions s) (transitions t) first_cut.0)

      pub cases_alike : AllZip (LikeCase u v) (send_cases s) (send_cases t)
      cases_alike = zip_pair (λ a b. opened_send_case a ≡ opened_send_case b) (λ a b. is_sending u a ≡ is_sending v b) (send_cases s) (send_cases t)
          (zip_of_map opened_send_case opened_send_case (send_cases s) (send_cases t) send_cases_open)
          (zip_unmap Enabled send_case send_case (send_cases s) (send_cases t) second_cut.0)

      pub all_functions_alike : AllZip (LikeFunction u v) (functions s) (functions t)
      all_functions_alike = functions_alike u v (functions s) (functions t) (zip_of_map opened_function opened_function (functions s) (functions t) functions_open) second_cut.1

      scoped_one : WellScoped s
      scoped_one = rules_give_scopes s one.keeps.rules

      scoped_two : WellScoped t
      scoped_two = rules_give_scopes t two.keeps.rules

      function_gives : (f : FunctionInstance) → IsOne f (functions s) → u.gives f.function ≡ v.gives f.function
      function_gives f m = gives_same (functions s) (functions t) all_functions_alike (each_of_cases s w scoped_one.in_order) (each_of_cases t w scoped_two.in_order) f m

      value_moves : (r : Indices) (x : Value) (n : ℤ) → ValueIsScoped s r x → IsValue u r x n → IsValue v r x n
      value_moves r (values.Sum x) n p h = h ∙ sum_same r x
      value_moves r (values.Function m) n p h =
          let here : instance u.names r m ≡ p.0.function = ap (λ g. instance g r m) names_one ∙ sym p.2 in
          let there : p.0.function ≡ instance v.names r m = p.2 ∙ instance_across r m ∙ ap (λ g. instance g r m) (sym names_two) in
          let e : u.gives (instance u.names r m) ≡ v.gives (instance v.names r m) = ap u.gives here ∙ function_gives p.0 p.1 ∙ ap v.gives there in
          subst (λ (xs : List ℤ). IsOne n xs ⊎ ((xs ≡ []) × (n ≡ pos 0))) e h

      values_move : (r : Indices) (xs : List Value) (ns : List ℤ) → Each (ValueIsScoped s r) xs → AllZip (IsValue u r) xs ns → AllZip (IsValue v r) xs ns
      values_move r [] [] p h = tt
      values_move r (x ∷ xs) (n ∷ ns) p h = (value_moves r x n p.0 h.0, values_move r xs ns p.1 h.1)
      values_move r [] (n ∷ ns) p h = elim h [ ]
      values_move r (x ∷ xs) [] p h = elim h [ ]

      answer_moves : (r : Indices) (x : Answer) → AnswerIsScoped s r x → (ns : List ℤ) → AreValues u r x ns → AreValues v r x ns
      answer_moves r answers.Quiet p ns h = h
      answer_moves r (answers.Values xs) p ns h = values_move r xs ns p h

      pub are_like : AreLike s t w
      are_like = record {
        parts = parts_same s t one two same;
        names = events_framed s ga ∙ ap events same.syntax ∙ sym (events_framed t gb);
        moves = moves_alike;
        cases = cases_alike;
        answers = each_more (λ c. AnswerIsScoped s (within c.send.index) c.answer) (GivesAlike u v) (λ c p. answer_moves (within c.send.index) c.answer p) (send_cases s) scoped_one.answers;
      }
