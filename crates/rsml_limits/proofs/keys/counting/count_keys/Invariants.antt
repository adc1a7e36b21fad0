use Rattle.std.proofs.Common.{◌≡◌, map, take}
use Rattle.std.specs.List.{IsDistinct}
use Rattle.rsml_limits.specs.comparisons.Shown.{shown_ask}
use Rattle.rsml_limits.specs.keys.Numbered.{same_ordered}
use Rattle.rsml_limits.proofs.KeyCountLemmas.{AreBlocks}
use Rattle.rsml_limits.proofs.keys.counting.count_keys.Given as goal

abbrev pub invariant-loop-ask : goal.invariant-loop-ask
invariant-loop-ask l = record {
  names : l.blocks.globals ≡ l.globals;
  differ : IsDistinct same_ordered l.blocks.numbered.sums;
  are : AreBlocks l.globals l.blocks.numbered (map shown_ask (take l.ask-index l.asks)) l.columns.items l.rows.items;
}
