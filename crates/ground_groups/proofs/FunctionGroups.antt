-- The functions among definitions.
use Rattle.std.proofs.Common.{◌≡◌, ℕ, suc, ◌+◌, ◌<◌, ◌≤◌, List, [], ◌∷◌, ◌++◌, map, flat_map, filter_map, length, Option, Some, None, refl, sym, ap, ◌∙◌, subst, slice_get, get_or, take, arith}
use Rattle.std.specs.List.{AllZip, cons_option}
use Rattle.std.proofs.lemmas.List.{take_all, take_more, length-take-le}
use Rattle.rsml_syntax.specs.declared.syntax.Spec.{Spec}
use Rattle.rsml_syntax.specs.declared.syntax.Decl.{Decl}
use Rattle.rsml_syntax.specs.declared.syntax.Decl.TheVariants as decl
use Rattle.rsml_syntax.specs.rules.Globals.{Globals, indices}
use Rattle.rsml_meaning.specs.Words.{at}
use Rattle.rsml_meaning.specs.Instances.{globals_of}
use Rattle.rsml_meaning.specs.Interfaces.{Definition, macro_table, function_cases, FunctionInstance, definitions, definitions_of, functions, functions_of}
use Rattle.rsml_ground.specs.declared.phrases.GroundPhrase.{GroundPhrase}
use Rattle.rsml_ground.specs.declared.definitions.Definition.{Definition as GroundDefinition}
use Rattle.rsml_ground.specs.declared.definitions.Definition.TheVariants as definition
use Rattle.rsml_ground.specs.StandsFor.{DefinitionIs}
use Rattle.state_tree.proofs.Lists.{as_long}
use Rattle.ground_groups.specs.declared.functions.FunctionGroup.{FunctionGroup}
use Rattle.ground_groups.specs.Stored.{function_groups, IsFunctionGroup}

abbrev as_function : Definition → Option FunctionInstance
as_function (macro_table i rows) = None
as_function (function_cases f) = Some f

filter_map_append : {A B : Type 0} (f : A → Option B) (xs ys : List A) → filter_map f (xs ++ ys) ≡ filter_map f xs ++ filter_map f ys
filter_map_append f [] ys = refl
filter_map_append f (x ∷ xs) ys = by_item (f x) (filter_map_append f xs ys)
  where
    by_item : (o : Option _) → filter_map f (xs ++ ys) ≡ filter_map f xs ++ filter_map f ys → cons_option o (filter_map f (xs ++ ys)) ≡ cons_option o (filter_map f xs) ++ filter_map f ys
    by_item None e = e
    by_item (Some y) e = ap (λ z. y ∷ z) e

all_functions : (fs : List FunctionInstance) → filter_map as_function (map function_cases fs) ≡ fs
all_functions [] = refl
all_functions (f ∷ fs) = ap (λ z. f ∷ z) (all_functions fs)

no_functions : {A : Type 0} (f : A → Definition) (xs : List A) → ((x : A) → as_function (f x) ≡ None) → filter_map as_function (map f xs) ≡ []
no_functions f [] h = refl
no_functions f (x ∷ xs) h = ap (λ o. cons_option o (filter_map as_function (map f xs))) (h x) ∙ no_functions f xs h

of_decl : (g : Globals) (d : Decl) → filter_map as_function (definitions_of g d) ≡ functions_of g d
of_decl g (decl.Macro name size rows) = no_functions (λ i. macro_table (at name i) rows) (indices g size) (λ i. refl)
of_decl g (decl.Function name size cases) = all_functions (functions_of g (decl.Function name size cases))
of_decl g (decl.Enumeration name values) = refl
of_decl g (decl.Range name low high) = refl
of_decl g (decl.Constant name value) = refl
of_decl g (decl.Input name size kind initial) = refl
of_decl g (decl.Event name size) = refl
of_decl g (decl.Receive name size inputs raised) = refl
of_decl g (decl.Send name size fields cases) = refl

of_decls : (g : Globals) (ds : List Decl) → filter_map as_function (flat_map (definitions_of g) ds) ≡ flat_map (functions_of g) ds
of_decls g [] = refl
of_decls g (d ∷ ds) = filter_map_append as_function (definitions_of g d) (flat_map (definitions_of g) ds) ∙ (λ i. of_decl g d i ++ of_decls g ds i)

-- the groups are those of the functions among the definitions from a number on
groups_are : (ps : List GroundPhrase) (s : Spec) (k : ℕ) (ms : List Definition) (ds : List GroundDefinition) → AllZip (DefinitionIs ps s) ms ds → ((i : ℕ) (m : Definition) → slice_get ms i ≡ Some m → slice_get (definitions s) (k + i) ≡ Some m)
    → AllZip (IsFunctionGroup s) (filter_map as_function ms) (function_groups k ds)
groups_are ps s k [] [] h f = tt
groups_are ps s k (macro_table i rows ∷ ms) (definition.Macro table ∷ ds) h f = groups_are ps s (suc k) ms ds h.1 (λ j m g. subst (λ n. slice_get (definitions s) n ≡ Some m) (shift j) (f (suc j) m g))
  where
    shift : (n : ℕ) → k + suc n ≡ suc k + n
    shift n = omega arith
groups_are ps s k (function_cases x ∷ ms) (definition.Function cases ∷ ds) h f = (
  record { there = subst (λ n. slice_get (definitions s) n ≡ Some (function_cases x)) none (f 0 (function_cases x) refl); cases = sym (as_long _ x.cases cases h.0) },
  groups_are ps s (suc k) ms ds h.1 (λ j m g. subst (λ n. slice_get (definitions s) n ≡ Some m) (shift j) (f (suc j) m g)),
)
  where
    none : k + 0 ≡ k
    none = omega arith

    shift : (n : ℕ) → k + suc n ≡ suc k + n
    shift n = omega arith
groups_are ps s k (macro_table i rows ∷ ms) (definition.Function cases ∷ ds) h f = elim h.0 [ ]
groups_are ps s k (function_cases x ∷ ms) (definition.Macro table ∷ ds) h f = elim h.0 [ ]
groups_are ps s k [] (d ∷ ds) h f = elim h [ ]
groups_are ps s k (m ∷ ms) [] h f = elim h [ ]

pub function_groups_are : (ps : List GroundPhrase) (s : Spec) (ds : List GroundDefinition) (gs : List FunctionGroup) (n : ℕ) → gs ≡ function_groups 0 (take n ds) → length ds ≤ n → AllZip (DefinitionIs ps s) (definitions s) ds
    → AllZip (IsFunctionGroup s) (functions s) gs
function_groups_are ps s ds gs n e l h =
    subst (AllZip (IsFunctionGroup s) (functions s)) (sym (e ∙ ap (function_groups 0) (take_all n ds l)))
    (subst (λ fs. AllZip (IsFunctionGroup s) fs (function_groups 0 ds)) (of_decls (globals_of s) s.decls)
    (groups_are ps s 0 (definitions s) ds h (λ i m g. subst (λ k. slice_get (definitions s) k ≡ Some m) (plus i) g)))
  where
    plus : (i : ℕ) → i ≡ 0 + i
    plus i = omega arith

groups_append : (k : ℕ) (xs ys : List GroundDefinition) → function_groups k (xs ++ ys) ≡ function_groups k xs ++ function_groups (k + length xs) ys
groups_append k [] ys = ap (λ n. function_groups n ys) (none k)
  where
    none : (n : ℕ) → n ≡ n + 0
    none n = omega arith
groups_append k (definition.Macro table ∷ xs) ys = groups_append (suc k) xs ys ∙ ap (λ n. function_groups (suc k) xs ++ function_groups n ys) (shift (length xs))
  where
    shift : (n : ℕ) → suc k + n ≡ k + suc n
    shift n = omega arith
groups_append k (definition.Function cases ∷ xs) ys = ap (λ z. record { function = k; cases = length cases } ∷ z) (groups_append (suc k) xs ys ∙ ap (λ n. function_groups (suc k) xs ++ function_groups n ys) (shift (length xs)))
  where
    shift : (n : ℕ) → suc k + n ≡ k + suc n
    shift n = omega arith

-- one definition more
pub groups_more : (ds : List GroundDefinition) (i : ℕ) (d e : GroundDefinition) → i < length ds → d ≡ get_or ds i e → function_groups 0 (take (i + 1) ds) ≡ function_groups 0 (take i ds) ++ function_groups i (d ∷ [])
groups_more ds i d e l h =
    ap (function_groups 0) (take_more ds i e l ∙ ap (λ z. take i ds ++ z ∷ []) (sym h)) ∙ groups_append 0 (take i ds) (d ∷ [])
    ∙ ap (λ n. function_groups 0 (take i ds) ++ function_groups n (d ∷ [])) (zero_plus (length (take i ds)) ∙ length-take-le i ds (omega (arith, l)))
  where
    zero_plus : (n : ℕ) → 0 + n ≡ n
    zero_plus n = omega arith

-- a turn of the loop
pub groups_turn : (ds : List GroundDefinition) (i n : ℕ) (d e : GroundDefinition) (old new : List FunctionGroup) → i < length ds → d ≡ get_or ds i e → old ≡ function_groups 0 (take i ds) → n ≡ i → new ≡ old ++ function_groups n (d ∷ [])
    → new ≡ function_groups 0 (take (i + 1) ds)
groups_turn ds i n d e old new l h o m p = p ∙ (λ j. o j ++ function_groups (m j) (d ∷ [])) ∙ sym (groups_more ds i d e l h)
