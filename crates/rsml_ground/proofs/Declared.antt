-- Declarations: what each has in a specification without a breach, and which of them makes a definition.
use Rattle.std.proofs.Common.{◌≡◌, ℕ, length, Option, Some, None, sym, ap, ◌∙◌}
use Rattle.std.specs.Option.{option_map_or}
use Rattle.rsml_syntax.specs.declared.syntax.Spec.{Spec}
use Rattle.rsml_syntax.specs.declared.syntax.Decl.{Decl}
use Rattle.rsml_syntax.specs.declared.syntax.Decl.TheVariants as decl
use Rattle.rsml_syntax.specs.text.Names.{Name}
use Rattle.rsml_syntax.specs.rules.Globals.{Known, name_of, size_of, meaning, indices}
use Rattle.rsml_syntax.specs.rules.Declarations.{scope_at}
use Rattle.rsml_syntax.specs.rules.Rules.{name_tables, broken_rule}
use Rattle.rsml_syntax.proofs.Clean.{IsPlaced, each_placed, names_in}
use Rattle.rsml_meaning.specs.Words.{IsOne, at}
use Rattle.rsml_meaning.specs.Instances.{globals_of}
use Rattle.rsml_meaning.specs.Interfaces.{Definition, macro_table, function_cases, new_function, functions_of, definitions_of}
use Rattle.state_arrays.specs.Places.{defined}
use Rattle.rsml_meaning.proofs.Lists.{each_one, one_of_map}
use Rattle.rsml_meaning.proofs.rules.Declared.{size_clean, own_meaning}
use Rattle.rsml_ground.proofs.Reading.{IsFew, size_few}

module _ (s : Spec) (h : broken_rule s ≡ None) where
  pub placed : (d : Decl) → IsOne d s.decls → IsPlaced s d
  placed d m = each_one (IsPlaced s) s.decls d (each_placed s h) m

  -- a size is a number from 1 to 64
  pub decl_few : (d : Decl) → IsOne d s.decls → IsFew (globals_of s) (size_of d)
  decl_few d m =
      let p = placed d m in
      size_few s (scope_at (name_tables s) (length (names_in p.before)) (size_of d)) (name_of d) (size_of d) (size_clean (name_tables s) (length (names_in p.before)) d p.clean)

  -- a declaration of a name is what the name means
  pub is_meant : (d : Decl) → IsOne d s.decls → (name : Name) (k : Known) → name_of d ≡ name → meaning (globals_of s) name ≡ Some k → d ≡ k.decl
  is_meant d m name k e is = ap (λ (o : Option Known). option_map_or (λ (k : Known). k.decl) o d) (sym (own_meaning s d (placed d m)) ∙ ap (meaning (globals_of s)) e ∙ is)

-- Definitions.

-- a definition has the name of its declaration
pub made_named : (s : Spec) (d : Decl) (y : Definition) → IsOne y (definitions_of (globals_of s) d) → name_of d ≡ (defined y).name
made_named s (decl.Macro n size rows) y m = let r = one_of_map (λ (i : ℕ). macro_table (at n i) rows) (indices (globals_of s) size) y m in sym (ap (λ z. (defined z).name) r.2)
made_named s (decl.Function n size cases) y m =
    let f = one_of_map function_cases (functions_of (globals_of s) (decl.Function n size cases)) y m in
    let r = one_of_map (new_function n cases) (indices (globals_of s) size) f.0 f.1 in
    sym (ap (λ z. (defined z).name) f.2 ∙ ap (λ z. z.function.name) r.2)
made_named s (decl.Enumeration n names) y m = absurd m
made_named s (decl.Range n low high) y m = absurd m
made_named s (decl.Constant n value) y m = absurd m
made_named s (decl.Input n size kind initial) y m = absurd m
made_named s (decl.Event n size) y m = absurd m
made_named s (decl.Receive n size inputs raised) y m = absurd m
made_named s (decl.Send n size fields cases) y m = absurd m
