-- Sums of cells as sums of levels, above what they come to where each cell has its least number. No public clause speaks of these.
use Rattle.std.specs.Prelude.{Bool, not, if◌then◌else◌, List, [], slice_get, ℤ, pos, neg_ℤ, ◌+ℤ◌, fold, flat_map}
use Rattle.std.specs.Option.{option_map_or}
use Rattle.rsml_syntax.specs.declared.syntax.Spec.{Spec}
use Rattle.rsml_meaning.specs.Cells.{cells}
use Rattle.rsml_ground.specs.declared.sums.GroundOperand.{GroundOperand}
use Rattle.rsml_ground.specs.declared.sums.GroundOperand.TheVariants as operands
use Rattle.rsml_ground.specs.declared.sums.GroundTerm.{GroundTerm}
use Rattle.rsml_ground.specs.declared.sums.GroundSum.{GroundSum}
use Rattle.spelled_numbers.specs.declared.weighted.Weighted.{Weighted}
use Rattle.spelled_numbers.specs.Bits.{bits_of}
use Rattle.world_levels.specs.Spelling.{WorldLevels, cell_part}

-- a number, or the least number of the cell
abbrev pub operand_base : Spec → GroundOperand → ℤ
operand_base s (operands.Number n) = n
operand_base s (operands.Cell cell) = option_map_or (λ c. c.numbers.low) (slice_get (cells s) cell) (pos 0)

-- that of a term, with its sign
abbrev pub term_base : Spec → GroundTerm → ℤ
term_base s t = if t.minus then neg_ℤ (operand_base s t.operand) else operand_base s t.operand

-- the number of a sum where each cell has its least number
abbrev pub sum_base : Spec → GroundSum → ℤ
sum_base s x = fold (λ a t. a +ℤ term_base s t) (pos 0) x.terms

-- the levels of an operand, with this sign
abbrev pub operand_levels : WorldLevels → Bool → GroundOperand → List Weighted
operand_levels l minus (operands.Number n) = []
operand_levels l minus (operands.Cell cell) = bits_of (cell_part l.spec cell) minus l.slots 0

-- the levels of a term that is added, or taken off where `minus`
abbrev pub term_levels : WorldLevels → Bool → GroundTerm → List Weighted
term_levels l minus t = operand_levels l (if minus then not t.minus else t.minus) t.operand

-- the levels of a sum that is added, or taken off where `minus`
abbrev pub sum_levels : WorldLevels → Bool → GroundSum → List Weighted
sum_levels l minus x = flat_map (term_levels l minus) x.terms
