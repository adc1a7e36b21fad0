-- The members of a machine are those of its specification.
use Rattle.std.proofs.Common.{◌≡◌, ℕ, zero, suc, ◌+◌, List, [], ◌∷◌, ◌++◌, map, flat_map, length, take, Some, refl, sym, ap, ◌∙◌, subst, slice_get, add-one}
use Rattle.std.specs.List.{AllZip}
use Rattle.std.proofs.lemmas.Option.{same_Some}
use Rattle.rsml_syntax.specs.declared.syntax.Spec.{Spec}
use Rattle.rsml_syntax.specs.declared.syntax.Row.{Row}
use Rattle.rsml_syntax.specs.declared.syntax.Decl.{Decl}
use Rattle.rsml_syntax.specs.declared.syntax.Decl.TheVariants as decl
use Rattle.rsml_syntax.specs.rules.Globals.{Globals, indices}
use Rattle.rsml_meaning.specs.Words.{Instance, at, item_of}
use Rattle.rsml_meaning.specs.Instances.{globals_of}
use Rattle.rsml_meaning.specs.Truth.{within}
use Rattle.rsml_meaning.specs.Transitions.{transitions}
use Rattle.rsml_meaning.specs.Interfaces.{FunctionInstance, function_cases, macro_table, definitions, definitions_of, functions, functions_of, new_function, send_cases}
use Rattle.rsml_meaning.specs.Interfaces as interfaces
use Rattle.rsml_meaning.specs.Groups.{Member, transition, send_case, case}
use Rattle.state_tree.proofs.Lists.{as_long}
use Rattle.rsml_ground.specs.declared.definitions.Definition.{Definition}
use Rattle.rsml_ground.specs.declared.definitions.Definition.TheVariants as definition
use Rattle.rsml_ground.specs.declared.phrases.GroundPhrase.{GroundPhrase}
use Rattle.rsml_ground.specs.StandsFor.{CaseIs, DefinitionIs}
use Rattle.ground_members.specs.Members.{TransitionIs, SendCaseIs}
use Rattle.ground_groups.specs.declared.group.Member.{Member as Number}
use Rattle.ground_groups.specs.declared.group.Member.TheVariants as numbers
use Rattle.ground_groups.specs.Groups.{MemberIs}
use Rattle.elaborate.specs.Machine.{GroundMachine, StandsFor}
use Rattle.equal_frames.specs.Differences.{all_members}
use Rattle.same_spec.specs.Members.{all_cases, cases_of, numbered}

-- Lists.

zip_append : {A B : Type 0} (R : A → B → Type 0) (xs us : List A) (ys vs : List B) → AllZip R xs ys → AllZip R us vs → AllZip R (xs ++ us) (ys ++ vs)
zip_append R [] us [] vs h k = k
zip_append R (x ∷ xs) us (y ∷ ys) vs h k = (h.0, zip_append R xs us ys vs h.1 k)
zip_append R [] us (y ∷ ys) vs h k = elim h [ ]
zip_append R (x ∷ xs) us [] vs h k = elim h [ ]

pub joined : {A : Type 0} (xs ys zs : List A) → (xs ++ ys) ++ zs ≡ xs ++ (ys ++ zs)
joined [] ys zs = refl
joined (x ∷ xs) ys zs = ap (λ rest. x ∷ rest) (joined xs ys zs)

-- one number more
pub numbered_more : (make : ℕ → Number) (n : ℕ) → numbered make (n + 1) ≡ numbered make n ++ (make n ∷ [])
numbered_more make n = ap (numbered make) (add-one n) ∙ more make n
  where
    more : (make : ℕ → Number) (n : ℕ) → numbered make (suc n) ≡ numbered make n ++ (make n ∷ [])
    more make zero = refl
    more make (suc n) = ap (λ xs. make 0 ∷ xs) (more (λ k. make (suc k)) n)

-- one item more, behind others
pub pushed : (old items new more next : List Number) (x : Number) → items ≡ old ++ more → new ≡ items ++ (x ∷ []) → next ≡ more ++ (x ∷ []) → new ≡ old ++ next
pushed old items new more next x so_far push is =
    push ∙ ap (λ xs. xs ++ (x ∷ [])) so_far ∙ joined old more (x ∷ []) ∙ ap (λ xs. old ++ xs) (sym is)

-- the cases of one definition more
pub cases_more : (number : ℕ → ℕ) (ds : List Definition) (n : ℕ) (d : Definition) → slice_get ds n ≡ Some d → all_cases number (take (n + 1) ds) ≡ all_cases number (take n ds) ++ cases_of (number n) d
cases_more number ds n d here = ap (λ k. all_cases number (take k ds)) (add-one n) ∙ more number ds n here
  where
    ended : (xs : List Number) → xs ++ [] ≡ xs
    ended [] = refl
    ended (x ∷ xs) = ap (λ ys. x ∷ ys) (ended xs)

    more : (number : ℕ → ℕ) (ds : List Definition) (n : ℕ) → slice_get ds n ≡ Some d → all_cases number (take (suc n) ds) ≡ all_cases number (take n ds) ++ cases_of (number n) d
    more number [] n h = absurd (let no : ⊥ = cc in no)
    more number (e ∷ ds) zero h = ended (cases_of (number 0) e) ∙ ap (cases_of (number 0)) (same_Some e d h)
    more number (e ∷ ds) (suc n) h =
        ap (λ xs. cases_of (number 0) e ++ xs) (more (λ k. number (suc k)) ds n h)
        ∙ sym (joined (cases_of (number 0) e) (all_cases (λ k. number (suc k)) (take n ds)) (cases_of (number (suc n)) d))

pub cases_joined : (old items new : List Number) (number : ℕ → ℕ) (ds : List Definition) (n : ℕ) (d : Definition) → slice_get ds n ≡ Some d → items ≡ old ++ all_cases number (take n ds)
    → new ≡ items ++ cases_of (number n) d → new ≡ old ++ all_cases number (take (n + 1) ds)
cases_joined old items new number ds n d here so_far push =
    push ∙ ap (λ xs. xs ++ cases_of (number n) d) so_far ∙ joined old (all_cases number (take n ds)) (cases_of (number n) d) ∙ ap (λ xs. old ++ xs) (sym (cases_more number ds n d here))

-- Members.

-- numbers are those of items at their places
numbered_are : {A : Type 0} (R : Member → Number → Type 0) (f : A → Member) (make : ℕ → Number) (xs : List A) → ((k : ℕ) (x : A) → slice_get xs k ≡ Some x → R (f x) (make k)) → AllZip R (map f xs) (numbered make (length xs))
numbered_are R f make [] h = tt
numbered_are R f make (x ∷ xs) h = (h 0 x refl, numbered_are R f (λ k. make (suc k)) xs (λ k. h (suc k)))

-- the cases of a function; a macro has none
abbrev cases_in : interfaces.Definition → List Member
cases_in (macro_table i rows) = []
cases_in (function_cases f) = map (case f.function) f.cases

flat_append : {A B : Type 0} (f : A → List B) (xs ys : List A) → flat_map f (xs ++ ys) ≡ flat_map f xs ++ flat_map f ys
flat_append f [] ys = refl
flat_append f (x ∷ xs) ys = ap (λ zs. f x ++ zs) (flat_append f xs ys) ∙ sym (joined (f x) (flat_map f xs) (flat_map f ys))

abbrev of_function : FunctionInstance → List Member
of_function f = map (case f.function) f.cases

of_functions : (fs : List FunctionInstance) → flat_map cases_in (map function_cases fs) ≡ flat_map of_function fs
of_functions [] = refl
of_functions (f ∷ fs) = ap (λ xs. of_function f ++ xs) (of_functions fs)

of_macros : {A : Type 0} (make : A → Instance) (rows : List Row) (is : List A) → flat_map cases_in (map (λ i. macro_table (make i) rows) is) ≡ []
of_macros make rows [] = refl
of_macros make rows (i ∷ is) = of_macros make rows is

of_decl : (g : Globals) (d : Decl) → flat_map cases_in (definitions_of g d) ≡ flat_map of_function (functions_of g d)
of_decl g (decl.Macro name size rows) = of_macros (at name) rows (indices g size)
of_decl g (decl.Function name size cases) = of_functions (map (new_function name cases) (indices g size))
of_decl g (decl.Event name size) = refl
of_decl g (decl.Enumeration name values) = refl
of_decl g (decl.Range name low high) = refl
of_decl g (decl.Constant name value) = refl
of_decl g (decl.Input name size kind initial) = refl
of_decl g (decl.Receive name size inputs raised) = refl
of_decl g (decl.Send name size fields cases) = refl

-- the cases of all functions are those of all definitions
in_definitions : (s : Spec) → flat_map cases_in (definitions s) ≡ flat_map of_function (functions s)
in_definitions s = by s.decls
  where
    by : (ds : List Decl) → flat_map cases_in (flat_map (definitions_of (globals_of s)) ds) ≡ flat_map of_function (flat_map (functions_of (globals_of s)) ds)
    by [] = refl
    by (d ∷ ds) =
        flat_append cases_in (definitions_of (globals_of s) d) (flat_map (definitions_of (globals_of s)) ds)
        ∙ (λ i. of_decl (globals_of s) d i ++ by ds i)
        ∙ sym (flat_append of_function (functions_of (globals_of s) d) (flat_map (functions_of (globals_of s)) ds))

functions_are : (s : Spec) (ps : List GroundPhrase) (number : ℕ → ℕ) (xs : List interfaces.Definition) (ds : List Definition) → ((k : ℕ) (x : interfaces.Definition) → slice_get xs k ≡ Some x → slice_get (definitions s) (number k) ≡ Some x)
    → AllZip (DefinitionIs ps s) xs ds → AllZip (MemberIs s) (flat_map cases_in xs) (all_cases number ds)
functions_are s ps number [] [] there h = tt
functions_are s ps number (macro_table i rows ∷ xs) (definition.Macro table ∷ ds) there h = functions_are s ps (λ k. number (suc k)) xs ds (λ k. there (suc k)) h.1
functions_are s ps number (function_cases f ∷ xs) (definition.Function cases ∷ ds) there h =
    zip_append (MemberIs s) (of_function f) (flat_map cases_in xs) (numbered (numbers.FunctionCase (number 0)) (length cases)) (all_cases (λ k. number (suc k)) ds)
    (subst (λ n. AllZip (MemberIs s) (of_function f) (numbered (numbers.FunctionCase (number 0)) n)) (as_long (λ c x. CaseIs ps s (within f.function.index) (item_of c) x) f.cases cases h.0)
    (numbered_are (MemberIs s) (case f.function) (numbers.FunctionCase (number 0)) f.cases (λ place c at. record { instance = f; there = there 0 (function_cases f) refl; is = refl; case_is = at })))
    (functions_are s ps (λ k. number (suc k)) xs ds (λ k. there (suc k)) h.1)
functions_are s ps number (macro_table i rows ∷ xs) (definition.Function cases ∷ ds) there h = absurd h.0
functions_are s ps number (function_cases f ∷ xs) (definition.Macro table ∷ ds) there h = absurd h.0
functions_are s ps number [] (d ∷ ds) there h = elim h [ ]
functions_are s ps number (x ∷ xs) [] there h = elim h [ ]

-- all of them
pub members_are : (m : GroundMachine) (first second third : List Number) (transition_count case_count : ℕ) → StandsFor m → transition_count ≡ length m.transitions → case_count ≡ length m.send_cases
    → first ≡ numbered numbers.Transition transition_count → second ≡ first ++ numbered numbers.SendCase case_count → third ≡ second ++ all_cases (λ k. k) m.base.definitions
    → AllZip (MemberIs m.base.spec) (all_members m.base.spec) third
members_are m first second third transition_count case_count stands ts cs one two three =
    subst (AllZip (MemberIs s) (all_members s)) (sym whole)
    (zip_append (MemberIs s) (map transition (transitions s)) (map send_case (send_cases s) ++ flat_map of_function (functions s)) (numbered numbers.Transition transition_count)
    (numbered numbers.SendCase case_count ++ all_cases (λ k. k) m.base.definitions)
    (subst (λ n. AllZip (MemberIs s) (map transition (transitions s)) (numbered numbers.Transition n)) (as_long (TransitionIs m.base.phrases s) (transitions s) m.transitions stands.transitions_are ∙ sym ts)
    (numbered_are (MemberIs s) transition numbers.Transition (transitions s) (λ k x at. at)))
    (zip_append (MemberIs s) (map send_case (send_cases s)) (flat_map of_function (functions s)) (numbered numbers.SendCase case_count) (all_cases (λ k. k) m.base.definitions)
    (subst (λ n. AllZip (MemberIs s) (map send_case (send_cases s)) (numbered numbers.SendCase n)) (as_long (SendCaseIs m.base.phrases s) (send_cases s) m.send_cases stands.cases_are ∙ sym cs)
    (numbered_are (MemberIs s) send_case numbers.SendCase (send_cases s) (λ k x at. at)))
    (subst (λ ms. AllZip (MemberIs s) ms (all_cases (λ k. k) m.base.definitions)) (in_definitions s)
    (functions_are s m.base.phrases (λ k. k) (definitions s) m.base.definitions (λ k x at. at) stands.grounded.stand))))
  where
    s : Spec
    s = m.base.spec

    whole : third ≡ numbered numbers.Transition transition_count ++ (numbered numbers.SendCase case_count ++ all_cases (λ k. k) m.base.definitions)
    whole =
        three
        ∙ ap (λ xs. xs ++ all_cases (λ k. k) m.base.definitions) (two ∙ ap (λ xs. xs ++ numbered numbers.SendCase case_count) one)
        ∙ joined (numbered numbers.Transition transition_count) (numbered numbers.SendCase case_count) (all_cases (λ k. k) m.base.definitions)
