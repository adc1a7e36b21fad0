-- What decides of a sum which of its comparisons are tight.
use Rattle.std.specs.Prelude.{Bool, true, false, not, List, filter, if◌then◌else◌, is_some}
use Rattle.rsml_syntax.specs.limits.Comparisons.{GroundSum}
use Rattle.rsml_syntax.specs.limits.Thresholds.{single_cell, constant_number}
use Rattle.rsml_limits.specs.declared.keys.class.Class.{Class}
use Rattle.rsml_limits.specs.declared.keys.class.Class.TheVariants as classes

-- a sum is constant, a cell, or neither
abbrev pub class_of : GroundSum → Class
class_of sum = if is_some (constant_number sum) then classes.Constant else (if is_some (single_cell sum) then classes.InputCell else classes.Other)

-- whether a comparison of sums of these classes is tight
abbrev pub tight : Class → Class → Bool
tight classes.Constant classes.Constant = true
tight classes.Constant classes.InputCell = true
tight classes.InputCell classes.Constant = true
tight _ _ = false

-- the sums whose comparison with one of this class is not tight
abbrev pub linear : Class → List GroundSum → List GroundSum
linear class sums = filter (λ sum. not (tight (class_of sum) class)) sums
