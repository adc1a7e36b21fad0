use Rattle.std.proofs.Common.{◌+◌, List, ap, ◌∙◌}
use Rattle.pair_counts.specs.declared.blocks.Block.{Block}
use Rattle.rsml_limits.specs.comparisons.Shown.{shown_cell}
use Rattle.rsml_limits.specs.thresholds.Tabled.{table_pairs}
use Rattle.std.proofs.Common.{map}
use Rattle.rsml_limits.proofs.TableLemmas.{block_put}
use Rattle.rsml_limits.proofs.thresholds.blocks.put_block.Goals as goal

pub returns-clause-pairs : goal.returns-clause-pairs
returns-clause-pairs c = λ lists.
    ap (λ (ls : List Block). table_pairs (map shown_cell c.place_of.new.cells.keys) lists ls) c.in_ok-push.ensures.items
    ∙ block_put c.args.cells.now.keys c.place_of.new.cells.keys c.in_ok-fixed.ensures.kept (c.args.list + 1) lists c.args.blocks.now.items
    (record { fixed = c.in_ok-fixed.fixed; list = c.args.list }) (shown_cell c.args.cell) c.requires c.in_ok-fixed.ensures.cell
