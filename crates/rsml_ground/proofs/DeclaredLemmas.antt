-- Macro and function instances are those of declarations, and the number of a state has its path.
use Rattle.std.proofs.Common.{◌≡◌, ℕ, zero, suc, List, [], ◌∷◌, map, Option, Some, unwrap_or, slice_get, refl, ap, ◌∙◌, subst}
use Rattle.std.specs.List.{AllZip}
use Rattle.std.proofs.lemmas.Option.{same_Some, slice_get-map}
use Rattle.rsml_syntax.specs.declared.syntax.Spec.{Spec}
use Rattle.rsml_syntax.specs.declared.syntax.Decl.{Decl}
use Rattle.rsml_syntax.specs.declared.syntax.Decl.TheVariants as decl
use Rattle.rsml_syntax.specs.declared.syntax.Amount.{Amount}
use Rattle.rsml_syntax.specs.declared.syntax.Case.{Case}
use Rattle.rsml_syntax.specs.rules.Globals.{indices}
use Rattle.rsml_meaning.specs.Words.{Path, Each, IsOne, at, numbered}
use Rattle.rsml_meaning.specs.Instances.{globals_of, states}
use Rattle.rsml_meaning.specs.Interfaces.{Definition, new_function, macro_table, function_cases, definitions_of, definitions}
use Rattle.state_arrays.specs.Places.{path_at}
use Rattle.state_tree.specs.Numbers.{path_of}
use Rattle.state_tree.proofs.Lists.{each_flat_map}

-- Lists.

pub each_at : {A : Type 0} (P : A → Type 0) (xs : List A) → Each P xs → (k : ℕ) (x : A) → slice_get xs k ≡ Some x → P x
each_at P [] e k x h = absurd (let no : ⊥ = cc in no)
each_at P (y ∷ xs) e zero x h = subst P (same_Some y x h) e.0
each_at P (y ∷ xs) e (suc k) x h = each_at P xs e.1 k x h

each_map : {A B : Type 0} (P : B → Type 0) (f : A → B) (xs : List A) → ((x : A) → P (f x)) → Each P (map f xs)
each_map P f [] h = tt
each_map P f (x ∷ xs) h = (h x, each_map P f xs h)

each_map_twice : {A B C : Type 0} (P : C → Type 0) (f : B → C) (k : A → B) (xs : List A) → ((x : A) → P (f (k x))) → Each P (map f (map k xs))
each_map_twice P f k [] h = tt
each_map_twice P f k (x ∷ xs) h = (h x, each_map_twice P f k xs h)

-- beside an item of the first list stands one of the second
pub beside_first : {A B : Type 0} (R : A → B → Type 0) (xs : List A) (ys : List B) → AllZip R xs ys → (k : ℕ) (x : A) → slice_get xs k ≡ Some x → (y : B) × (slice_get ys k ≡ Some y) × R x y
beside_first R [] ys e k x h = absurd (let no : ⊥ = cc in no)
beside_first R (a ∷ xs) [] e k x h = elim e [ ]
beside_first R (a ∷ xs) (b ∷ ys) e zero x h = (b, refl, subst (λ z. R z b) (same_Some a x h) e.0)
beside_first R (a ∷ xs) (b ∷ ys) e (suc k) x h = beside_first R xs ys e.1 k x h

-- What is declared.

-- the instance is of a declaration of the specification
abbrev pub IsDeclared : Spec → Definition → Type 0
IsDeclared s (macro_table i rows) = (size : Option Amount) × IsOne (decl.Macro i.name size rows) s.decls
IsDeclared s (function_cases f) = (size : Option Amount) × (cases : List Case) × IsOne (decl.Function f.function.name size cases) s.decls × (f.cases ≡ numbered cases)

each_declared : (s : Spec) → Each (IsDeclared s) (definitions s)
each_declared s = each_flat_map (IsDeclared s) (definitions_of (globals_of s)) s.decls of_decl
  where
    of_decl : (d : Decl) → IsOne d s.decls → Each (IsDeclared s) (definitions_of (globals_of s) d)
    of_decl (decl.Macro name size rows) m = each_map (IsDeclared s) (λ i. macro_table (at name i) rows) (indices (globals_of s) size) (λ i. (size, m))
    of_decl (decl.Function name size cases) m =
        each_map_twice (IsDeclared s) function_cases (new_function name cases) (indices (globals_of s) size) (λ i. (size, cases, m, refl))
    of_decl (decl.Event name size) m = tt
    of_decl (decl.Enumeration name values) m = tt
    of_decl (decl.Range name low high) m = tt
    of_decl (decl.Constant name value) m = tt
    of_decl (decl.Input name size kind initial) m = tt
    of_decl (decl.Receive name size inputs raised) m = tt
    of_decl (decl.Send name size fields cases) m = tt

pub declared_at : (s : Spec) (k : ℕ) (d : Definition) → slice_get (definitions s) k ≡ Some d → IsDeclared s d
declared_at s k d h = each_at (IsDeclared s) (definitions s) (each_declared s) k d h

-- the path of a state's number
pub path_is : (s : Spec) (node : ℕ) (p : Path) → path_at (states s) node ≡ Some p → path_of s node ≡ p
path_is s node p h = ap (λ (o : Option Path). unwrap_or o []) (slice_get-map (λ x. x.path) (states s) node ∙ h)
