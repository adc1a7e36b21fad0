use Rattle.std.proofs.Common.{sym, ap, ◌∙◌}
use Rattle.rsml_base.specs.Counting.{shown}
use Rattle.pair_counts.proofs.EntryLemmas.{many_entries, ok_with}
use Rattle.pair_counts.proofs.entries.count_blocks.Goals as goal

pub returns : goal.returns
returns c =
    let groups = c.in_ok-groups.groups in
    ok_with c.count_groups.result _ _ _ c.count_groups.ensures.differ c.count_groups.ensures.count
    (λ differ count h. h ∙ ap shown (sym (many_entries c.args.ranges.now c.args.sets.now.lists c.args.blocks.now groups differ c.in_ok-groups.ensures)))
