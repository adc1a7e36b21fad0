-- What is inside a state, by the list of its children.
use Rattle.std.proofs.Common.{◌≡◌, List, [], ◌∷◌, ◌++◌, Bool, true, false, Option, refl, ap, ◌∙◌}
use mathlib.Core.Former.{Count}
use Rattle.rsml_syntax.specs.declared.syntax.Amount.{Amount}
use Rattle.rsml_syntax.specs.declared.syntax.StateDecl.{StateDecl}
use Rattle.rsml_syntax.specs.declared.syntax.Bus.{Bus}
use Rattle.rsml_syntax.specs.declared.syntax.Transition.{Transition}
use Rattle.rsml_syntax.specs.declared.syntax.Body.{Body, One, One', All, All', Row_of-StateDecl, end_of-StateDecl, more_of-StateDecl, items-the_row-StateDecl, items_hidden-the_row-StateDecl-0}
use Rattle.rsml_syntax.specs.text.Names.{Name, is_in}
use Rattle.rsml_syntax.specs.grammar.Parts.{Part, Opens, Closes, placed, nearer, inside, row_parts, child_parts}

row_is_list : (in_one : Bool) (array : Option Amount) (earlier : List Name) (n : _) (row : Row_of-StateDecl n) → row_parts in_one array earlier row ≡ child_parts in_one array earlier (items-the_row-StateDecl n row)
row_is_list in_one array earlier n end_of-StateDecl = refl
row_is_list in_one array earlier n (more_of-StateDecl a z b others) =
    ap (λ (ps : List Part). Opens (placed a (is_in a earlier) z array in_one b) ∷ (inside (nearer z array) b ++ (Closes (placed a (is_in a earlier) z array in_one b) ∷ ps)))
    (row_is_list in_one array (earlier ++ (a ∷ [])) _ others)

abbrev row_of : Body → (n : Count) × Row_of-StateDecl n
row_of (One' f _ row bs ts) = (_, row)
row_of (All' _ row) = (_, row)
row_of _ = (_, end_of-StateDecl)

pub inside_all : (array : Option Amount) (cs : List StateDecl) → inside array (All cs) ≡ child_parts false array [] cs
inside_all array cs =
    let row = row_of (All cs) in
    row_is_list false array [] row.0 row.1 ∙ ap (λ (ds : List StateDecl). child_parts false array [] ds) (items_hidden-the_row-StateDecl-0 cs)

pub inside_one : (array : Option Amount) (n : Name) (cs : List StateDecl) (bs : List Bus) (ts : List Transition) → inside array (One n cs bs ts) ≡ child_parts true array [] cs
inside_one array n cs bs ts =
    let row = row_of (One n cs bs ts) in
    row_is_list true array [] row.0 row.1 ∙ ap (λ (ds : List StateDecl). child_parts true array [] ds) (items_hidden-the_row-StateDecl-0 cs)
