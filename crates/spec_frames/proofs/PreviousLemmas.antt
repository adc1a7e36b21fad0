-- An input has a cell for its previous number exactly where it stands after `previous`.
use Rattle.std.proofs.Common.{◌≡◌, ℕ, ◌+◌, Bool, true, false, not, ◌&&◌, ◌||◌, cond, List, [], ◌∷◌, ◌++◌, map, flat_map, length, Option, Some, None, is_some, inl, inr, if◌then◌else◌, refl, sym, ap, ◌∙◌, subst, arith, true≢false}
use Rattle.std.specs.Prelude.{IsTrue, ◌↔◌}
use Rattle.std.specs.Cmp.{first_so, second_so}
use Rattle.std.specs.List.{AllByRecursion, list_any, position_from}
use Rattle.std.specs.Option.{option_map}
use Rattle.std.proofs.lemmas.List.Folds.{list_any-append}
use Rattle.rsml_syntax.specs.declared.syntax.Spec.{Spec}
use Rattle.rsml_syntax.specs.declared.syntax.Amount.{Amount}
use Rattle.rsml_syntax.specs.declared.syntax.Initial.{Initial}
use Rattle.rsml_syntax.specs.declared.syntax.Decl.{Decl}
use Rattle.rsml_syntax.specs.declared.syntax.Decl.TheVariants as decl
use Rattle.rsml_syntax.specs.limits.Checked.{IsChecked}
use Rattle.rsml_syntax.specs.limits.Previous.{names_previous}
use Rattle.rsml_syntax.specs.rules.Globals.{Globals, indices, many}
use Rattle.rsml_syntax.specs.text.Names.{Name, same, is_in}
use Rattle.rsml_names.specs.PreviousNames.{previous_names}
use Rattle.rsml_names.proofs.NamedAfter.{previous_is}
use Rattle.rsml_meaning.specs.Words.{Instance, Each, IsOne, at, same_instance, place_in}
use Rattle.rsml_meaning.specs.Instances.{globals_of}
use Rattle.rsml_meaning.proofs.Globals.{in_up_to}
use Rattle.rsml_meaning.proofs.Lists.{any_one, any_some, each_flat_map, one_flat_map, one_map, one_of_map}
use Rattle.rsml_meaning.proofs.Same.{name_same, instance_itself}
use Rattle.state_arrays.specs.Made.{inputs_of, previous_of}
use Rattle.state_arrays.specs.Places.{previous_place}
use Rattle.state_arrays.proofs.CellLemmas.{previous_at}
use Rattle.state_arrays.proofs.Distinct.{sized_here}
use Rattle.spec_frames.specs.Frames.{framed, input_of, HaveSameFrame}
use Rattle.spec_frames.specs.helpers.PreviousCells.{first_index, has_previous, previous_alike, alike}
use Rattle.spec_frames.specs.helpers.Sameness.{same_spec}
use Rattle.spec_frames.proofs.ListLemmas.{both}
use Rattle.spec_frames.proofs.SyntaxLemmas.{syntax_same}

-- Truths and lists.

and_false : (a : Bool) → (a && false) ≡ false
and_false true = refl
and_false false = refl

and_true : (a : Bool) → (a && true) ≡ a
and_true true = refl
and_true false = refl

and_or : (a b c : Bool) → ((a && b) || (a && c)) ≡ (a && (b || c))
and_or true b c = refl
and_or false b c = refl

one_truth : (a b : Bool) → (if a then b else not b) ≡ true → a ≡ b
one_truth true true h = refl
one_truth true false h = absurd (true≢false (sym h))
one_truth false true h = absurd (true≢false (sym h))
one_truth false false h = refl

truth_itself : (a : Bool) → (if a then a else not a) ≡ true
truth_itself true = refl
truth_itself false = refl

some_any : {A : Type 0} (t : A → Bool) (i : ℕ) (xs : List A) → is_some (position_from t i xs) ≡ list_any t xs
some_any t i [] = refl
some_any t i (x ∷ xs) = by (t x) (some_any t (i + 1) xs)
  where
    by : (b : Bool) → is_some (position_from t (i + 1) xs) ≡ list_any t xs → is_some (cond b (Some i) (position_from t (i + 1) xs)) ≡ (b || list_any t xs)
    by true h = refl
    by false h = h

some_mapped : {A B : Type 0} (f : A → B) (o : Option A) → is_some (option_map f o) ≡ is_some o
some_mapped f None = refl
some_mapped f (Some x) = refl

split : {A : Type 0} (x : A) (xs : List A) → IsOne x xs → (before after : List A) × (xs ≡ before ++ (x ∷ after))
split x [] m = absurd m
split x (y ∷ xs) (inl e) = ([], xs, ap (λ z. z ∷ xs) (sym e))
split x (y ∷ xs) (inr m) = let r = split x xs m in (y ∷ r.0, r.1, ap (λ zs. y ∷ zs) r.2)

-- An instance that is there.

module _ (s : Spec) (name : Name) (index : ℕ) where
  abbrev named : Instance → Bool
  named = same_instance (at name index)

  abbrev g : Globals
  g = globals_of s

  abbrev ns : List Name
  ns = previous_names s

  of_name : (n : Name) (is : List ℕ) → list_any named (map (at n) is) ≡ true → name ≡ n
  of_name n is h =
      let y = any_some named (map (at n) is) h in
      let x = one_of_map (at n) is y.0 y.1 in
      let e : named (at n x.0) ≡ true = ap named (sym x.2) ∙ y.2 in
      name_same name n (first_so (same name n) _ e)

  -- the instances of another name are not this one
  chosen : (n : Name) (is : List ℕ) → list_any named (if is_in n ns then map (at n) is else []) ≡ (is_in name ns && list_any named (map (at n) is))
  chosen n is = by (is_in n ns) (list_any named (map (at n) is)) refl refl
    where
      by : (a b : Bool) → is_in n ns ≡ a → list_any named (map (at n) is) ≡ b → list_any named (if a then map (at n) is else []) ≡ (is_in name ns && b)
      by true true e f = f ∙ sym (ap (λ z. is_in z ns && true) (of_name n is f) ∙ ap (λ c. c && true) e)
      by true false e f = f ∙ sym (and_false (is_in name ns))
      by false true e f = sym (ap (λ z. is_in z ns && true) (of_name n is f) ∙ ap (λ c. c && true) e)
      by false false e f = sym (and_false (is_in name ns))

  of_decl : (d : Decl) → list_any named (previous_of ns g d) ≡ (is_in name ns && list_any named (inputs_of g d))
  of_decl (decl.Input n size kind initial) = chosen n (indices g size)
  of_decl _ = sym (and_false (is_in name ns))

  of_decls : (ds : List Decl) → list_any named (flat_map (previous_of ns g) ds) ≡ (is_in name ns && list_any named (flat_map (inputs_of g) ds))
  of_decls [] = sym (and_false (is_in name ns))
  of_decls (d ∷ ds) =
      list_any-append named (previous_of ns g d) (flat_map (previous_of ns g) ds)
      ∙ (λ i. of_decl d i || of_decls ds i)
      ∙ and_or (is_in name ns) (list_any named (inputs_of g d)) (list_any named (flat_map (inputs_of g) ds))
      ∙ ap (λ b. is_in name ns && b) (sym (list_any-append named (inputs_of g d) (flat_map (inputs_of g) ds)))

  previous_by : list_any named (flat_map (inputs_of g) s.decls) ≡ true → is_some (previous_place s (at name index)) ≡ names_previous s name
  previous_by there =
      ap is_some (sym (previous_at s (at name index)))
      ∙ some_mapped (λ n. length (flat_map (inputs_of g) s.decls) + n) (place_in (flat_map (previous_of ns g) s.decls) (at name index))
      ∙ some_any named 0 (flat_map (previous_of ns g) s.decls)
      ∙ of_decls s.decls
      ∙ ap (λ b. is_in name ns && b) there
      ∙ and_true (is_in name ns)
      ∙ previous_is s name

-- Each input.

-- the input of a declaration, with its size
abbrev pub sized_input : Decl → List (Name × Option Amount)
sized_input (decl.Input name size _ _) = (name, size) ∷ []
sized_input _ = []

abbrev Told : Spec → Name × Option Amount → Type 0
Told s p = is_some (previous_place s (at p.0 (first_index p.1))) ≡ names_previous s p.0

first_in : (s : Spec) → IsChecked s → (name : Name) (size : Option Amount) (kind : Name) (initial : Initial) → IsOne (decl.Input name size kind initial) s.decls → IsOne (first_index size) (indices (globals_of s) size)
first_in s c name None kind initial m = inl refl
first_in s c name (Some amount) kind initial m =
    let p = split (decl.Input name (Some amount) kind initial) s.decls m in
    let small = sized_here s c.keeps.rules p.0 (decl.Input name (Some amount) kind initial) p.1 p.2 in
    in_up_to (many (globals_of s) (Some amount)) 1 (omega arith) small.some

told : (s : Spec) → IsChecked s → Each (Told s) (flat_map sized_input s.decls)
told s c = each_flat_map (Told s) sized_input s.decls of_each
  where
    of_each : (d : Decl) → IsOne d s.decls → Each (Told s) (sized_input d)
    of_each (decl.Input name size kind initial) m =
        let g = globals_of s in
        let x = at name (first_index size) in
        let here = one_flat_map (inputs_of g) s.decls (decl.Input name size kind initial) x m (one_map (at name) (indices g size) (first_index size) (first_in s c name size kind initial m)) in
        (previous_by s name (first_index size) (any_one (same_instance x) (flat_map (inputs_of g) s.decls) x here (instance_itself x)), tt)
    of_each _ m = tt

inputs_framed : (ds : List Decl) → flat_map sized_input ds ≡ flat_map sized_input (flat_map framed ds)
inputs_framed [] = refl
inputs_framed (decl.Input name size kind initial ∷ ds) = ap (λ ps. (name, size) ∷ ps) (inputs_framed ds)
inputs_framed (d ∷ ds) = inputs_framed ds

-- Frames.

module _ (s t : Spec) where
  abbrev Same : Name → Type 0
  Same name = names_previous s name ≡ names_previous t name

  same_to : (ds : List Decl) → Each (Told s) (flat_map sized_input ds) → Each (Told t) (flat_map sized_input ds) → previous_alike s t ds ≡ true → AllByRecursion Same (flat_map input_of ds)
  same_to [] a b h = tt
  same_to (decl.Input name size kind initial ∷ ds) a b h =
      let d = decl.Input name size kind initial in
      let here = if has_previous s d then has_previous t d else not (has_previous t d) in
      (sym a.0 ∙ one_truth (has_previous s d) (has_previous t d) (first_so here (previous_alike s t ds) h) ∙ b.0, same_to ds a.1 b.1 (second_so here (previous_alike s t ds) h))
  same_to (d ∷ ds) a b h = same_to ds a b h

  same_from : (ds : List Decl) → Each (Told s) (flat_map sized_input ds) → Each (Told t) (flat_map sized_input ds) → AllByRecursion Same (flat_map input_of ds) → previous_alike s t ds ≡ true
  same_from [] a b h = refl
  same_from (decl.Input name size kind initial ∷ ds) a b h =
      let d = decl.Input name size kind initial in
      let e : has_previous s d ≡ has_previous t d = a.0 ∙ h.0 ∙ sym b.0 in
      both (if has_previous s d then has_previous t d else not (has_previous t d)) (previous_alike s t ds)
      (ap (λ c. if c then has_previous t d else not (has_previous t d)) e ∙ truth_itself (has_previous t d)) (same_from ds a.1 b.1 h.1)
  same_from (d ∷ ds) a b h = same_from ds a b h

  module _ (one : IsChecked s) (two : IsChecked t) where
    other : flat_map framed s.decls ≡ flat_map framed t.decls → Each (Told t) (flat_map sized_input s.decls)
    other e =
        subst (λ (ps : List (Name × Option Amount)). Each (Told t) ps) (inputs_framed t.decls ∙ ap (flat_map sized_input) (sym e) ∙ sym (inputs_framed s.decls)) (told t two)

    frame_to : IsTrue (alike s t) → HaveSameFrame s t
    frame_to h =
        let syntax = (syntax_same s t).0 (first_so (same_spec s t) (previous_alike s t s.decls) h) in
        record { syntax = syntax; previous = same_to s.decls (told s one) (other (ap (λ z. z.decls) syntax)) (second_so (same_spec s t) (previous_alike s t s.decls) h) }

    frame_from : HaveSameFrame s t → IsTrue (alike s t)
    frame_from h =
        both (same_spec s t) (previous_alike s t s.decls) ((syntax_same s t).1 h.syntax) (same_from s.decls (told s one) (other (ap (λ z. z.decls) h.syntax)) h.previous)

    pub frame_same : IsTrue (alike s t) ↔ HaveSameFrame s t
    frame_same = (frame_to, frame_from)
