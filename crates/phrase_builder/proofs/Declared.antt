-- The instances of macros and functions that declarations make.
use Rattle.std.proofs.Common.{◌≡◌, ℕ, zero, suc, ◌≤◌, List, [], ◌∷◌, ◌++◌, map, take, drop, Option, Some, sym, ap, ◌∙◌, slice_get}
use Rattle.rsml_syntax.specs.declared.syntax.Spec.{Spec}
use Rattle.rsml_syntax.specs.declared.syntax.Decl.{Decl}
use Rattle.rsml_syntax.specs.declared.syntax.Decl.TheVariants as decl
use Rattle.rsml_syntax.specs.declared.syntax.Amount.{Amount}
use Rattle.rsml_syntax.specs.declared.syntax.Case.{Case}
use Rattle.rsml_syntax.specs.limits.Checked.{IsChecked}
use Rattle.rsml_syntax.specs.text.Names.{Name}
use Rattle.rsml_syntax.specs.rules.Globals.{Globals, many, size_of, indices}
use Rattle.rsml_meaning.specs.Instances.{globals_of}
use Rattle.rsml_meaning.specs.Interfaces.{function_cases, new_function, definitions_of}
use Rattle.state_arrays.proofs.Distinct.{sized_here}
use Rattle.phrase_builder.specs.declared.sources.Content.{Content}
use Rattle.phrase_builder.specs.Sources.{instance_of}
use Rattle.phrase_builder.proofs.Lists.{map_map, map_same, none_some, some_same}

-- each size is at most 64
pub sizes_few : (s : Spec) → IsChecked s → (k : ℕ) (d : Decl) → slice_get s.decls k ≡ Some d → many (globals_of s) (size_of d) ≤ 64
sizes_few s c k d h = (sized_here s c.keeps.rules (take k s.decls) d (drop (suc k) s.decls) (split s.decls k d h)).few
  where
    split : (xs : List Decl) (k : ℕ) (x : Decl) → slice_get xs k ≡ Some x → xs ≡ take k xs ++ (x ∷ drop (suc k) xs)
    split [] k x h = absurd (none_some h)
    split (y ∷ xs) zero x h = ap (λ z. z ∷ xs) (some_same h)
    split (y ∷ xs) (suc k) x h = ap (λ zs. y ∷ zs) (split xs k x h)

-- what a function's declaration makes
pub functions_made : (g : Globals) (d : Decl) (name : Name) (size o : Option Amount) (cases : List Case) (c : Content) → d ≡ decl.Function name size cases → o ≡ size → ((i : ℕ) → instance_of name c i ≡ function_cases (new_function name cases i)) → map (instance_of name c) (indices g o) ≡ definitions_of g d
functions_made g d name size o cases c e z is =
    map_same (instance_of name c) (λ i. function_cases (new_function name cases i)) is (indices g o)
    ∙ sym (map_map function_cases (new_function name cases) (indices g o))
    ∙ ap (λ x. map function_cases (map (new_function name cases) (indices g x))) z
    ∙ ap (definitions_of g) (sym e)
