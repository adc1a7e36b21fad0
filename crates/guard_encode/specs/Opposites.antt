-- Comparisons of which one holds exactly where the other does not. No public clause speaks of them.
use Rattle.std.specs.Prelude.{◌≡◌, ℤ, not}
use Rattle.rsml_syntax.specs.declared.syntax.Relation.{Relation}
use Rattle.rsml_syntax.specs.rules.Relations.{compare}

-- the other holds exactly where the one does not
abbrev pub AreOpposite : Relation → Relation → Type 0
AreOpposite one other = (x y : ℤ) → compare other x y ≡ not (compare one x y)
