-- What a view says of activity.
use Rattle.std.proofs.Common.{◌≡◌, Bool, true, List, [], ◌∷◌, fold, refl, sym, ap, ◌∙◌, subst}
use Rattle.rsml_syntax.specs.declared.syntax.Spec.{Spec}
use Rattle.rsml_syntax.specs.declared.syntax.Decl.{Decl}
use Rattle.rsml_syntax.specs.declared.syntax.Decl.TheVariants as decl
use Rattle.rsml_syntax.specs.declared.world.World.{World}
use Rattle.rsml_meaning.specs.Words.{Path}
use Rattle.rsml_meaning.specs.Active.{active}
use Rattle.rsml_meaning.specs.Truth.{View, bare, learn, view}

learn_keeps : (d : Decl) (v : View) → (learn v d).is_active ≡ v.is_active
learn_keeps (decl.Macro x size rows) v = refl
learn_keeps (decl.Function x size cases) v = refl
learn_keeps _ v = refl

learned : (ds : List Decl) (v : View) → (fold learn v ds).is_active ≡ v.is_active
learned [] v = refl
learned (d ∷ ds) v = learned ds (learn v d) ∙ learn_keeps d v

pub view_active : (s : Spec) (w : World) (path : Path) → (view s w).is_active path ≡ active s w path
view_active s w path = ap (λ (f : Path → Bool). f path) (learned s.decls (bare s w))
