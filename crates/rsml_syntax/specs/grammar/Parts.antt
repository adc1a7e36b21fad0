-- The parts of a specification in the order of its tokens: each declaration, and each state twice, where it opens and
-- where it closes.
use Rattle.std.specs.Prelude.{ℕ, ◌+◌, Bool, true, false, List, [], ◌∷◌, ◌++◌, length, Option, Some, None}
use Rattle.rsml_syntax.specs.declared.syntax.Amount.{Amount}
use Rattle.rsml_syntax.specs.declared.syntax.Decl.{Decl}
use Rattle.rsml_syntax.specs.declared.syntax.Bus.{Bus}
use Rattle.rsml_syntax.specs.declared.syntax.Transition.{Transition}
use Rattle.rsml_syntax.specs.declared.syntax.Spec.{Spec}
use Rattle.rsml_syntax.specs.declared.syntax.StateDecl.{StateDecl}
use Rattle.rsml_syntax.specs.declared.syntax.Body.{Body, Basic, One', All', Row_of-StateDecl, end_of-StateDecl, more_of-StateDecl, items-the_row-StateDecl}
use Rattle.rsml_syntax.specs.text.Names.{Name, is_in}
use Rattle.rsml_syntax.specs.rules.Globals.{names_of}

-- what a body is made of

-- the children of a state
abbrev pub children_of : Body → List StateDecl
children_of Basic = []
children_of (One' _ _ children _ _) = items-the_row-StateDecl _ children
children_of (All' _ children) = items-the_row-StateDecl _ children

-- its buses
abbrev pub buses_of : Body → List Bus
buses_of (One' _ _ _ buses _) = buses
buses_of _ = []

-- its transitions
abbrev pub transitions_of : Body → List Transition
transitions_of (One' _ _ _ _ transitions) = transitions
transitions_of _ = []

-- the name of its default child, if it is a `one` state
abbrev pub default_of : Body → Option Name
default_of (One' first _ _ _ _) = Some first
default_of _ = None

-- it has no children, buses and transitions: its body is `;`
abbrev pub is_basic : Body → Bool
is_basic Basic = true
is_basic _ = false

-- A state, and what it stands in.
pub record State : Type 0 where
  pub name : Name
  pub repeated : Bool  -- an earlier child of its parent has the name
  pub size : Option Amount  -- its own, where it is an array
  pub array : Option Amount  -- the size of the innermost array around it
  pub in_one : Bool  -- its parent is a `one` state
  pub body : Body

-- A declaration, or a state where it opens or closes.
pub data Part : Type 0 where
  Declared : ℕ → Decl → Part  -- with the place of its name among the global names
  Opens : State → Part
  Closes : State → Part

-- declarations, the name of the first of which has this place
abbrev pub declared : ℕ → List Decl → List Part
declared place [] = []
declared place (d ∷ ds) = Declared place d ∷ declared (place + length (names_of d)) ds

-- of an array and the one around it, the inner one
abbrev pub nearer : Option Amount → Option Amount → Option Amount
nearer None around = around
nearer (Some own) around = Some own

-- the state of this name and body that stands so
abbrev pub placed : Name → Bool → Option Amount → Option Amount → Bool → Body → State
placed name repeated size array in_one body = record { name = name; repeated = repeated; size = size; array = array; in_one = in_one; body = body }

abbrev mutual
  -- the parts inside a body, with the innermost array around it
  pub inside : Option Amount → Body → List Part
  inside array Basic = []
  inside array (One' _ _ children _ _) = row_parts true array [] children
  inside array (All' _ children) = row_parts false array [] children

  -- the parts of children, after children with the earlier names
  pub row_parts : Bool → Option Amount → List Name → {k : _} → Row_of-StateDecl k → List Part
  row_parts in_one array earlier end_of-StateDecl = []
  row_parts in_one array earlier (more_of-StateDecl name size body others) =
      let child = placed name (is_in name earlier) size array in_one body in
      Opens child ∷ (inside (nearer size array) body ++ (Closes child ∷ row_parts in_one array (earlier ++ (name ∷ [])) others))

-- the same of a list of children
abbrev pub child_parts : Bool → Option Amount → List Name → List StateDecl → List Part
child_parts in_one array earlier [] = []
child_parts in_one array earlier (c ∷ cs) =
    let child = placed c.name (is_in c.name earlier) c.size array in_one c.body in
    Opens child ∷ (inside (nearer c.size array) c.body ++ (Closes child ∷ child_parts in_one array (earlier ++ (c.name ∷ [])) cs))

-- the top state: it stands in nothing
abbrev pub top_of : Spec → State
top_of s = placed s.top false None None false s.body

-- all parts: the declarations, then the top state with all that is inside it
abbrev pub parts : Spec → List Part
parts s = declared 0 s.decls ++ (Opens (top_of s) ∷ (inside None s.body ++ (Closes (top_of s) ∷ [])))
