-- Bounds of cells as comparisons.
use Rattle.std.specs.Prelude.{ℕ, ℤ, false, [], ◌∷◌}
use Rattle.rsml_syntax.specs.declared.syntax.Relation.TheVariants as relations
use Rattle.rsml_ground.specs.declared.sums.GroundOperand.{GroundOperand}
use Rattle.rsml_ground.specs.declared.sums.GroundOperand.TheVariants as operands
use Rattle.rsml_ground.specs.declared.sums.GroundSum.{GroundSum}
use Rattle.rsml_ground.specs.declared.phrases.GroundPhrase.{GroundPhrase}
use Rattle.rsml_ground.specs.declared.phrases.GroundPhrase.TheVariants as phrases

-- the sum of one operand
abbrev pub sum_of : GroundOperand → GroundSum
sum_of operand = record { terms = record { minus = false; operand = operand } ∷ [] }

-- the comparison by which a cell has at most a number
abbrev pub at_most : ℕ → ℤ → GroundPhrase
at_most cell number = phrases.Compare (sum_of (operands.Cell cell)) relations.LessEqual (sum_of (operands.Number number))
