-- Each state instance is the component that its body makes of its path, or none where that makes none.
use Rattle.std.proofs.Common.{◌≡◌, ℕ, Some, refl, slice_get, flat_map, [], ◌∷◌}
use Rattle.rsml_syntax.specs.declared.syntax.Spec.{Spec}
use Rattle.rsml_syntax.specs.declared.syntax.Body.{Body, Basic, One', All', Row_of-StateDecl, end_of-StateDecl, more_of-StateDecl}
use Rattle.rsml_syntax.specs.rules.Globals.{Globals, indices}
use Rattle.rsml_syntax.proofs.Clean.{each_append}
use Rattle.rsml_meaning.specs.Words.{Each, Path, at, child_path}
use Rattle.rsml_meaning.specs.Instances.{State, globals_of, component_of, inside, row_inside, states}
use Rattle.state_tree.proofs.Goods.{each_one}
use Rattle.state_tree.proofs.Lists.{one_at, each_flat_map}
use Rattle.state_tree.proofs.Spread.{made_by}

abbrev IsOfBody : State → Type 0
IsOfBody x = x.component ≡ component_of x.body x.path

mutual
  inside_of_body : (g : Globals) (body : Body) (path : Path) → Each IsOfBody (inside g body path)
  inside_of_body g Basic path = tt
  inside_of_body g (One' first shape row bs ts) path = row_of_body g _ row path
  inside_of_body g (All' shape row) path = row_of_body g _ row path

  row_of_body : (g : Globals) (n : _) (row : Row_of-StateDecl n) (path : Path) → Each IsOfBody (row_inside g row path)
  row_of_body g n end_of-StateDecl path = tt
  row_of_body g n (more_of-StateDecl name size body others) path =
      let f = made_by g name body path in
      each_append IsOfBody (flat_map f (indices g size)) (row_inside g others path)
      (each_flat_map IsOfBody f (indices g size) (λ i m. (refl, inside_of_body g body (child_path path (at name i)))))
      (row_of_body g _ others path)

-- the component of the state of a number is that of its body
pub body_component : (s : Spec) (node : ℕ) (x : State) → slice_get (states s) node ≡ Some x → x.component ≡ component_of x.body x.path
body_component s node x h =
    each_one IsOfBody (states s) x (refl, inside_of_body (globals_of s) s.body (at s.top 0 ∷ [])) (one_at (states s) node x h)
