-- What a body makes, by the plain list of its children.
use Rattle.std.proofs.Common.{◌≡◌, List, ◌∷◌, ◌++◌, map, flat_map, Some, refl, ap, ◌∙◌}
use Rattle.rsml_syntax.specs.declared.syntax.StateDecl.{StateDecl}
use Rattle.rsml_syntax.specs.declared.syntax.Body.{Body, One, One', All, All', Row_of-StateDecl, end_of-StateDecl, more_of-StateDecl, items-the_row-StateDecl, items_hidden-the_row-StateDecl-0}
use Rattle.rsml_syntax.specs.rules.Globals.{Globals, indices}
use Rattle.rsml_meaning.specs.Words.{Path, at, child_path}
use Rattle.rsml_meaning.specs.Instances.{new_component, new_state, row_names, inside, row_inside, child_states}
use Rattle.rsml_meaning.specs.Laws.{StatesAreOfChildren}
use mathlib.Core.Former.{Count}

states_of_row : (g : Globals) (path : Path) (n : _) (row : Row_of-StateDecl n) → row_inside g row path ≡ flat_map (child_states g path) (items-the_row-StateDecl n row)
states_of_row g path n end_of-StateDecl = refl
states_of_row g path n (more_of-StateDecl a z b others) =
    ap (λ r. flat_map (λ i. new_state b (child_path path (at a i)) ∷ inside g b (child_path path (at a i))) (indices g z) ++ r) (states_of_row g path _ others)

names_of_row : (n : _) (row : Row_of-StateDecl n) → row_names row ≡ map (λ (c : StateDecl). c.name) (items-the_row-StateDecl n row)
names_of_row n end_of-StateDecl = refl
names_of_row n (more_of-StateDecl a z b others) = ap (λ r. a ∷ r) (names_of_row _ others)

-- the row of children that a body has
abbrev row_of : Body → (n : Count) × Row_of-StateDecl n
row_of (One' f _ row bs ts) = (_, row)
row_of (All' _ row) = (_, row)
row_of _ = (_, end_of-StateDecl)

pub states_are_of_children : StatesAreOfChildren
states_are_of_children g path f cs bs ts =
    let one = row_of (One f cs bs ts) in
    let all = row_of (All cs) in
    record {
      inside_one = states_of_row g path one.0 one.1 ∙ ap (λ (xs : List StateDecl). flat_map (child_states g path) xs) (items_hidden-the_row-StateDecl-0 cs);
      inside_all = states_of_row g path all.0 all.1 ∙ ap (λ (xs : List StateDecl). flat_map (child_states g path) xs) (items_hidden-the_row-StateDecl-0 cs);
      is_component = ap (λ names. Some (new_component path f names bs ts)) (names_of_row one.0 one.1 ∙ ap (λ (xs : List StateDecl). map (λ (c : StateDecl). c.name) xs) (items_hidden-the_row-StateDecl-0 cs));
      is_none = refl;
    }
