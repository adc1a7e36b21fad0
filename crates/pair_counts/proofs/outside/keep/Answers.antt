use Rattle.std.proofs.Common.{◌∙◌}
use Rattle.indexmap.proofs.CallerLemmas.{insert_entry-new}
use Rattle.pair_counts.specs.Outside.{same_range}
use Rattle.pair_counts.proofs.outside.keep.Goals as goal

pub returns-clause-ok : goal.returns-clause-ok
returns-clause-ok c =
    c.in_ok-insert.ensures.entries
    ∙ insert_entry-new same_range c.args.known.now c.args.range c.args.others c.requires
