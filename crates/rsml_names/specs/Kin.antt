-- The children of all states, each with the number of its own children, so that a child is found by its name at once.
use Rattle.std.specs.Prelude.{◌≡◌, ℕ, ⊤, List, [], ◌∷◌, ◌++◌, map, Option, Some, None, slice_get}
use Rattle.std.specs.Option.{option_map, option_and_then}
use Rattle.rsml_syntax.specs.declared.syntax.StateDecl.{StateDecl}
use Rattle.rsml_syntax.specs.text.Names.{Name, place_of}
use Rattle.rsml_syntax.specs.grammar.Parts.{children_of}

-- The children of one state, their names, and for each the number of the family of its own children.
pub record Family : Type 0 where
  pub children : List StateDecl
  pub names : List Name
  pub below : List ℕ

-- the family of this number has these children
abbrev pub Holds : List Family → ℕ → List StateDecl → Type 0
Holds fs number children = option_map (λ f. f.children) (slice_get fs number) ≡ Some children

-- the numbers are those of the children's own families, in order
abbrev pub AreBelow : List Family → List StateDecl → List ℕ → Type 0
AreBelow fs [] [] = ⊤
AreBelow fs (c ∷ cs) (number ∷ numbers) = Holds fs number (children_of c.body) × AreBelow fs cs numbers
AreBelow fs _ _ = ⊥

-- a family among others: its names are those of its children, and each child has its own family
pub record Fits (fs : List Family) (f : Family) : Type 0 where
  pub names : f.names ≡ map (λ c. c.name) f.children
  pub below : AreBelow fs f.children f.below

-- each family fits
abbrev pub AreFamilies : List Family → Type 0
AreFamilies fs = (number : ℕ) (f : Family) → slice_get fs number ≡ Some f → Fits fs f

-- A child, and the number of the family of its own children.
pub record Child : Type 0 where
  pub state : StateDecl
  pub family : ℕ

-- the child at a place of a family
abbrev pub child_at : Family → ℕ → Option Child
child_at f place = option_and_then (λ c. option_map (λ n. record { state = c; family = n }) (slice_get f.below place)) (slice_get f.children place)

-- the child at the first place of this name
abbrev pub child_of : Family → Name → Option Child
child_of f name = option_and_then (child_at f) (place_of name f.names)

-- what was found is this child, if there is one, with its own family
abbrev pub IsChild : List Family → Option StateDecl → Option Child → Type 0
IsChild fs None None = ⊤
IsChild fs (Some c) (Some found) = (found.state ≡ c) × Holds fs found.family (children_of c.body)
IsChild fs _ _ = ⊥

-- the family of this number, where there is a number, has these children
abbrev pub HoldsSome : List Family → Option ℕ → List StateDecl → Type 0
HoldsSome fs None children = ⊥
HoldsSome fs (Some number) children = Holds fs number children

-- families stand behind the earlier ones
abbrev pub Grown : List Family → List Family → Type 0
Grown fs grown = (more : List Family) × (grown ≡ fs ++ more)
