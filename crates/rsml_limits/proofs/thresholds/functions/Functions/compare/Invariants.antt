use Rattle.std.proofs.Common.{◌++◌, map}
use Rattle.std.specs.Prelude.{flat_map}
use Rattle.rsml_limits.specs.thresholds.Compared.{group_comparisons}
use Rattle.rsml_limits.specs.thresholds.Pairs.{pairs, SamePairs}
use Rattle.rsml_limits.specs.thresholds.Shown.{shown_group}
use Rattle.rsml_limits.proofs.thresholds.functions.Functions.compare.Given as goal

abbrev pub invariant-loop-function : goal.invariant-loop-function
invariant-loop-function l =
    SamePairs (l.table ++ flat_map pairs (group_comparisons l.globals (map shown_group l.function-iterator)))
    (l.fn.table ++ flat_map pairs (group_comparisons l.globals l.self))
