-- Sums of small numbers.
use Rattle.std.specs.Prelude.{◌≡◌, ◌≤◌, ℤ, length}
use Rattle.rsml_meaning.specs.Words.{Each}
use Rattle.rsml_ground.specs.declared.sums.GroundOperand.TheVariants as operands
use Rattle.rsml_ground.specs.declared.sums.GroundTerm.{GroundTerm}
use Rattle.rsml_ground.specs.declared.sums.GroundSum.{GroundSum}
use Rattle.rsml_ground.specs.Rests.{IsSmall}

-- the operand is a small number, and no cell
abbrev pub IsNumber : GroundTerm → Type 0
IsNumber t = (n : ℤ) × (t.operand ≡ operands.Number n) × IsSmall n

-- at most eight small numbers, and no cells
pub record AreNumbers (x : GroundSum) : Type 0 where
  pub few : length x.terms ≤ 8
  pub numbers : Each IsNumber x.terms
