-- The sums inside a state, by the list of its children.
use Rattle.std.proofs.Common.{◌≡◌, List, [], ◌∷◌, ◌++◌, Bool, true, false, Option, None, flat_map, append_assoc, refl, sym, ap, ◌∙◌}
use Rattle.std.proofs.lemmas.Grind.{flat_map-append}
use Rattle.rsml_syntax.specs.declared.syntax.Amount.{Amount}
use Rattle.rsml_syntax.specs.declared.syntax.StateDecl.{StateDecl}
use Rattle.rsml_syntax.specs.declared.syntax.Bus.{Bus}
use Rattle.rsml_syntax.specs.declared.syntax.Transition.{Transition}
use Rattle.rsml_syntax.specs.declared.syntax.Sum.{Sum}
use Rattle.rsml_syntax.specs.declared.syntax.Body.{Body, Basic, One, One', All, All', Row_of-StateDecl, end_of-StateDecl, more_of-StateDecl}
use Rattle.rsml_syntax.specs.text.Names.{Name, is_in}
use Rattle.rsml_syntax.specs.grammar.Parts.{Part, Closes, placed, nearer, inside, row_parts, child_parts, transitions_of}
use Rattle.rsml_syntax.specs.limits.Previous.{sums_of_part}
use Rattle.rsml_names.specs.PreviousNames.{sums_inside, sums_of_state, sums_of_transitions}
use Rattle.rsml_names.proofs.PreviousChildren.{inside_all, inside_one}

mutual
  -- the sums inside a state are the same in any array
  sums_in_any : (a : Option Amount) (b : Body) → flat_map sums_of_part (inside a b) ≡ sums_inside b
  sums_in_any a Basic = refl
  sums_in_any a (One' _ _ children _ _) = row_in_any true a None [] children
  sums_in_any a (All' _ children) = row_in_any false a None [] children

  row_in_any : (in_one : Bool) (a a' : Option Amount) (earlier : List Name) {k : _} (row : Row_of-StateDecl k) →
      flat_map sums_of_part (row_parts in_one a earlier row) ≡ flat_map sums_of_part (row_parts in_one a' earlier row)
  row_in_any in_one a a' earlier end_of-StateDecl = refl
  row_in_any in_one a a' earlier (more_of-StateDecl name size body others) =
      flat_map-append sums_of_part (inside (nearer size a) body) (Closes (placed name (is_in name earlier) size a in_one body) ∷ row_parts in_one a (earlier ++ (name ∷ [])) others)
      ∙ ap (λ (xs : List Sum). xs ++ (sums_of_transitions (transitions_of body) ++ flat_map sums_of_part (row_parts in_one a (earlier ++ (name ∷ [])) others))) (sums_in_any (nearer size a) body ∙ sym (sums_in_any (nearer size a') body))
      ∙ ap (λ (xs : List Sum). flat_map sums_of_part (inside (nearer size a') body) ++ (sums_of_transitions (transitions_of body) ++ xs)) (row_in_any in_one a a' (earlier ++ (name ∷ [])) others)
      ∙ sym (flat_map-append sums_of_part (inside (nearer size a') body) (Closes (placed name (is_in name earlier) size a' in_one body) ∷ row_parts in_one a' (earlier ++ (name ∷ [])) others))

sums_by_child : (in_one : Bool) (array : Option Amount) (earlier : List Name) (cs : List StateDecl) →
    flat_map sums_of_part (child_parts in_one array earlier cs) ≡ flat_map (λ (c : StateDecl). sums_of_state c.body) cs
sums_by_child in_one array earlier [] = refl
sums_by_child in_one array earlier (c ∷ cs) =
    let s = placed c.name (is_in c.name earlier) c.size array in_one c.body in
    let rest = child_parts in_one array (earlier ++ (c.name ∷ [])) cs in
    let own_sums : List Sum = sums_of_transitions (transitions_of c.body) in
    flat_map-append sums_of_part (inside (nearer c.size array) c.body) (Closes s ∷ rest)
    ∙ ap (λ (xs : List Sum). xs ++ (own_sums ++ flat_map sums_of_part rest)) (sums_in_any (nearer c.size array) c.body)
    ∙ ap (λ (xs : List Sum). sums_inside c.body ++ (own_sums ++ xs)) (sums_by_child in_one array (earlier ++ (c.name ∷ [])) cs)
    ∙ sym (append_assoc (sums_inside c.body) own_sums (flat_map (λ (c : StateDecl). sums_of_state c.body) cs))

pub sums_of_all : (cs : List StateDecl) → sums_inside (All cs) ≡ flat_map (λ (c : StateDecl). sums_of_state c.body) cs
sums_of_all cs = ap (λ (ps : List Part). flat_map sums_of_part ps) (inside_all None cs) ∙ sums_by_child false None [] cs

pub sums_of_one : (n : Name) (cs : List StateDecl) (bs : List Bus) (ts : List Transition) → sums_inside (One n cs bs ts) ≡ flat_map (λ (c : StateDecl). sums_of_state c.body) cs
sums_of_one n cs bs ts = ap (λ (ps : List Part). flat_map sums_of_part ps) (inside_one None n cs bs ts) ∙ sums_by_child true None [] cs
