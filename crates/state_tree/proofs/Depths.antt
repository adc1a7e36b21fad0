-- A body by the list of its children: how deep its states nest, and which are inside it.
use Rattle.std.proofs.Common.{◌≡◌, ℕ, zero, suc, ◌<◌, ◌≤◌, max, List, [], ◌∷◌, ◌++◌, length, get_or, flat_map, refl, ap, sym, arith}
use Rattle.rsml_syntax.specs.declared.syntax.StateDecl.{StateDecl}
use Rattle.rsml_syntax.specs.declared.syntax.Body.{Body, Basic, One', All', Row_of-StateDecl, end_of-StateDecl, more_of-StateDecl, items-the_row-StateDecl}
use Rattle.rsml_syntax.specs.grammar.Parts.{children_of}
use Rattle.rsml_syntax.specs.grammar.WellFormed.{depth_of, children_depth}
use Rattle.rsml_syntax.specs.rules.Globals.{Globals, indices}
use Rattle.rsml_meaning.specs.Words.{Path, at, child_path}
use Rattle.rsml_meaning.specs.Instances.{new_state, inside, row_inside, child_states}

abbrev pub deepest : List StateDecl → ℕ
deepest [] = 0
deepest (c ∷ cs) = max (depth_of c.body) (deepest cs)

row_is : (n : _) (row : Row_of-StateDecl n) → children_depth row ≡ deepest (items-the_row-StateDecl n row)
row_is n end_of-StateDecl = refl
row_is n (more_of-StateDecl a z b others) = ap (λ d. max (depth_of b) d) (row_is _ others)

-- the children nest one step less deep than the body
pub depth_of_children : (b : Body) → suc (deepest (children_of b)) ≡ depth_of b
depth_of_children Basic = refl
depth_of_children (One' _ _ row _ _) = ap suc (sym (row_is _ row))
depth_of_children (All' _ row) = ap suc (sym (row_is _ row))

pub depth_of_item : (cs : List StateDecl) (i : ℕ) (c : StateDecl) → i < length cs → c ≡ get_or cs i c → depth_of c.body ≤ deepest cs
depth_of_item [] i c h e = absurd (omega (arith, h))
depth_of_item (d ∷ cs) zero c h e = let k : depth_of c.body ≡ depth_of d.body = ap (λ (x : StateDecl). depth_of x.body) e in omega (arith, k)
depth_of_item (d ∷ cs) (suc i) c h e = let k = depth_of_item cs i c (omega (arith, h)) e in omega (arith, k)

row_makes : (g : Globals) (path : Path) (n : _) (row : Row_of-StateDecl n) → row_inside g row path ≡ flat_map (child_states g path) (items-the_row-StateDecl n row)
row_makes g path n end_of-StateDecl = refl
row_makes g path n (more_of-StateDecl a z b others) =
    ap (λ r. flat_map (λ i. new_state b (child_path path (at a i)) ∷ inside g b (child_path path (at a i))) (indices g z) ++ r) (row_makes g path _ others)

-- what is inside a body is what its children make
pub inside_is : (g : Globals) (path : Path) (b : Body) → inside g b path ≡ flat_map (child_states g path) (children_of b)
inside_is g path Basic = refl
inside_is g path (One' _ _ row _ _) = row_makes g path _ row
inside_is g path (All' _ row) = row_makes g path _ row
