-- What rows ask: a sum, or a function in the instance of an index, compared with a sum.
use Rattle.std.specs.Prelude.{ℕ, List, [], ◌∷◌, map, None}
use Rattle.rsml_syntax.specs.declared.syntax.Relation.{Relation}
use Rattle.rsml_syntax.specs.text.Names.{Name}
use Rattle.rsml_syntax.specs.rules.Globals.{Globals}
use Rattle.rsml_syntax.specs.rules.Kinds.{function_cases}
use Rattle.rsml_syntax.specs.limits.Comparisons.{GroundSum, ground_sum, Comparison, comparison_of}

pub data Left : Type 0 where
  OfSum : GroundSum → Left
  OfFunction : Name → ℕ → Left

pub record Ask : Type 0 where
  pub left : Left
  pub relation : Relation
  pub right : GroundSum

-- the values of the cases of a function, in its own instance
abbrev pub case_sums : Globals → Name → ℕ → List GroundSum
case_sums g function at = map (λ c. ground_sum g (record { this = at; variable = None }) c.value) (function_cases g function)

-- the sums that are compared: a function is read as the values of its cases
abbrev pub left_sums : Globals → Left → List GroundSum
left_sums g (OfSum left) = left ∷ []
left_sums g (OfFunction function at) = case_sums g function at

-- the comparisons that an ask stands for
abbrev pub ask_comparisons : Globals → Ask → List Comparison
ask_comparisons g a = map (λ left. comparison_of left a.relation a.right) (left_sums g a.left)
