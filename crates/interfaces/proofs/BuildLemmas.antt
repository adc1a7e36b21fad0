-- What is there of the receives of a specification.
use Rattle.std.proofs.Common.{◌≡◌, ◌≤◌, List, map, flat_map, sym, ap, ◌∙◌, subst}
use Rattle.rsml_syntax.specs.declared.syntax.Spec.{Spec}
use Rattle.rsml_syntax.specs.declared.syntax.Decl.{Decl}
use Rattle.rsml_syntax.specs.limits.Checked.{IsChecked}
use Rattle.rsml_syntax.specs.rules.Globals.{Globals, globals, many, size_of}
use Rattle.rsml_meaning.specs.Words.{Instance, Each}
use Rattle.rsml_meaning.specs.Instances.{globals_of}
use Rattle.rsml_meaning.specs.Interfaces.{receives_of, receives}
use Rattle.rsml_meaning.proofs.Lists.{each_ones}
use Rattle.rsml_ground.specs.Grounded.{IsShort}
use Rattle.rsml_ground.specs.Scoped.{ReceiveIsScoped}
use Rattle.state_arrays.proofs.Distinct.{sized_here}
use Rattle.rsml_ground.proofs.Declared.{placed}
use Rattle.rsml_ground.proofs.Receives.{receives_scoped}
use Rattle.rsml_ground.proofs.Values.{few_values}
use Rattle.interfaces.specs.declared.field.Field.{Field}
use Rattle.interfaces.specs.declared.receive.Receive.{Receive}
use Rattle.interfaces.specs.Kept.{AreKept, AreInterfaces}

module _ (s t n : Spec) (ds : List Decl) (g : Globals) (same_spec : s ≡ t) (same_decls : ds ≡ s.decls) (same_globals : g ≡ globals ds) (same_names : n ≡ t) where
  made_is : flat_map (receives_of g) ds ≡ receives t
  made_is = ap (λ (x : Globals). flat_map (receives_of x) ds) (same_globals ∙ ap globals same_decls) ∙ ap (flat_map (receives_of (globals_of s))) same_decls ∙ ap receives same_spec

  globals_are : g ≡ globals_of t
  globals_are = same_globals ∙ ap globals same_decls ∙ ap globals_of same_spec

  decls_are : ds ≡ t.decls
  decls_are = same_decls ∙ ap (λ (x : Spec). x.decls) same_spec

  pub all_few : IsChecked t → Each (λ d. many g (size_of d) ≤ 64) ds
  all_few c =
      subst (λ es. Each (λ d. many g (size_of d) ≤ 64) es) (sym decls_are)
      (subst (λ x. Each (λ d. many x (size_of d) ≤ 64) t.decls) (sym globals_are) (each_ones (λ (d : Decl). many (globals_of t) (size_of d) ≤ 64) t.decls (λ d m. let p = placed t c.keeps.rules d m in let small = sized_here t c.keeps.rules p.before d p.after p.is in small.few)))

  pub all_scoped : IsChecked t → IsShort t → Each (ReceiveIsScoped n) (flat_map (receives_of g) ds)
  all_scoped c short = subst (λ xs. Each (ReceiveIsScoped n) xs) (sym made_is) (subst (λ x. Each (ReceiveIsScoped x) (receives t)) (sym same_names) (receives_scoped t c (few_values t short)))

  pub are_interfaces : (names : List Instance) (fields : List Field) (kept : List Receive) → IsChecked t → IsShort t → names ≡ map (λ x. x.receive) (receives t) → AreKept n fields kept (flat_map (receives_of g) ds) → AreInterfaces s names fields kept
  are_interfaces names fields kept c short h k =
      subst (λ x. AreInterfaces x names fields kept) (sym same_spec)
      (record { checked = c; short = short; names_are = h; are_kept = subst (λ x. AreKept x fields kept (receives t)) same_names (subst (λ xs. AreKept n fields kept xs) made_is k) })
