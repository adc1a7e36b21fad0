-- What the values of this crate stand for.
use Rattle.std.specs.Prelude.{map}
use Rattle.std.specs.Global.{Vec}
use Rattle.rsml_limits.specs.comparisons.Shown.{shown_sum}
use Rattle.rsml_limits.specs.declared.thresholds.function.Function as function
use Rattle.rsml_limits.specs.declared.thresholds.right.Right as right
use Rattle.rsml_limits.specs.thresholds.Compared as spec

abbrev pub shown_function : function.Function → spec.Function
shown_function f = record { name = f.name.now; at = f.at }

abbrev pub shown_right : right.Right → spec.Right
shown_right r = record { relation = r.relation; terms = shown_sum r.terms.now }

-- a function with its right sides
abbrev pub shown_group : function.Function × Vec right.Right → spec.Group
shown_group e = (shown_function e.0, map shown_right e.1.items)
