-- What a relation says of two numbers.
use Rattle.std.specs.Prelude.{ℤ, Bool, not, int_lt, int_le}
use Rattle.std.specs.Ordering.{int_eq}
use Rattle.rsml_syntax.specs.declared.syntax.Relation.{Relation}
use Rattle.rsml_syntax.specs.declared.syntax.Relation.TheVariants as relations

-- the relation holds between the two numbers
abbrev pub compare : Relation → ℤ → ℤ → Bool
compare relations.Equal x y = int_eq x y
compare relations.NotEqual x y = not (int_eq x y)
compare relations.Less x y = int_lt x y
compare relations.LessEqual x y = int_le x y
compare relations.Greater x y = int_lt y x
compare relations.GreaterEqual x y = int_le y x
