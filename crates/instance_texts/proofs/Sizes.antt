-- The sizes of a checked specification, as its parts are named on the way.
use Rattle.std.proofs.Common.{◌≡◌, ℕ, ◌≤◌, List, Some, sym, ap, ◌∙◌, subst, slice_get}
use Rattle.rsml_syntax.specs.declared.syntax.Spec.{Spec}
use Rattle.rsml_syntax.specs.declared.syntax.Decl.{Decl}
use Rattle.rsml_syntax.specs.limits.Checked.{IsChecked}
use Rattle.rsml_syntax.specs.rules.Globals.{Globals, globals, many, size_of}
use Rattle.phrase_builder.proofs.Declared.{sizes_few}

-- each size is at most 64
pub few_by : (t s : Spec) (ds es : List Decl) (g : Globals) → s ≡ t → IsChecked t → ds ≡ s.decls → g ≡ globals ds → es ≡ s.decls
    → (k : ℕ) (d : Decl) → slice_get es k ≡ Some d → many g (size_of d) ≤ 64
few_by t s ds es g same c here known there k d h =
    let P : Globals → Type 0 = λ x. many x (size_of d) ≤ 64 in
    let all : g ≡ globals t.decls = known ∙ ap (λ (xs : List Decl). globals xs) (here ∙ ap (λ (x : Spec). x.decls) same) in
    subst P (sym all) (sizes_few t c k d (ap (λ (xs : List Decl). slice_get xs k) (sym (there ∙ ap (λ (x : Spec). x.decls) same)) ∙ h))
