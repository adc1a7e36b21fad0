-- What is compared: sums, or the values of the cases of a function, with right sides.
use Rattle.std.specs.Prelude.{ℕ, Bool, ◌&&◌, ◌==◌, List, [], ◌∷◌, ◌++◌, map, flat_map, if◌then◌else◌}
use Rattle.rsml_syntax.specs.declared.syntax.Relation.{Relation}
use Rattle.rsml_syntax.specs.text.Names.{Name, same}
use Rattle.rsml_syntax.specs.rules.Globals.{Globals}
use Rattle.rsml_syntax.specs.limits.Comparisons.{GroundSum, Comparison, comparison_of}
use Rattle.rsml_limits.specs.comparisons.Asks.{case_sums}

-- The right side of a comparison, with the relation to it.
pub record Right : Type 0 where
  pub relation : Relation
  pub terms : GroundSum

-- the comparisons of each of these sums with each right side
abbrev pub compared : List GroundSum → List Right → List Comparison
compared sums rights = flat_map (λ r. map (λ left. comparison_of left r.relation r.terms) sums) rights

-- A function in the instance of an index.
pub record Function : Type 0 where
  pub name : Name
  pub at : ℕ

abbrev pub same_function : Function → Function → Bool
same_function a b = same a.name b.name && a.at == b.at

-- a function with its right sides
abbrev pub Group : Type 0
Group = Function × List Right

-- the comparisons of functions with their right sides
abbrev pub group_comparisons : Globals → List Group → List Comparison
group_comparisons g groups = flat_map (λ e. compared (case_sums g e.0.name e.0.at) e.1) groups

-- functions with their right sides, after one more
abbrev pub with_right : List Group → Function → Right → List Group
with_right [] function right = (function, right ∷ []) ∷ []
with_right (e ∷ es) function right = if same_function function e.0 then (e.0, e.1 ++ right ∷ []) ∷ es else e ∷ with_right es function right
