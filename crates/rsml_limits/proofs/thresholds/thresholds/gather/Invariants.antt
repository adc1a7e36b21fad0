use Rattle.std.proofs.Common.{◌++◌, map, take}
use Rattle.std.specs.Prelude.{flat_map}
use Rattle.rsml_syntax.specs.rules.Globals.{Globals}
use Rattle.rsml_limits.specs.comparisons.Asks.{ask_comparisons}
use Rattle.rsml_limits.specs.comparisons.Shown.{shown_ask}
use Rattle.rsml_limits.specs.thresholds.Compared.{group_comparisons}
use Rattle.rsml_limits.specs.thresholds.Pairs.{pairs, SamePairs}
use Rattle.rsml_limits.proofs.thresholds.thresholds.gather.Given as goal

abbrev pub invariant-loop-ask : goal.invariant-loop-ask
invariant-loop-ask l = (g : Globals) →
    SamePairs (l.table ++ flat_map pairs (group_comparisons g l.functions))
    ((l.fn.table ++ flat_map pairs (group_comparisons g l.fn.functions)) ++ flat_map pairs (flat_map (ask_comparisons g) (map shown_ask (take l.ask-index l.asks))))
