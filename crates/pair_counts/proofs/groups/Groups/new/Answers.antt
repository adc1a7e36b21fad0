use Rattle.std.proofs.Common.{ℕ, ◌==◌, ◌++◌, [], ◌∷◌, if◌then◌else◌, get_or, List, sym, ap, ◌∙◌}
use Rattle.pair_counts.specs.declared.blocks.Block.{Block}
use Rattle.pair_counts.proofs.GroupLemmas.{places_turn}
use Rattle.pair_counts.proofs.groups.Groups.new.Goals as goal

pub loop-block-preserved : goal.loop-block-preserved
loop-block-preserved c = λ q.
    let i = c.loop-block.block-index in
    let none : Block = record { fixed = 0; list = 0 } in
    let block = get_or c.args.blocks.now i none in
    c.in_ok-put.ensures q
    ∙ ap (λ (ps : List ℕ). ps ++ (if q == block.fixed then block.list ∷ [] else [])) (c.loop-block.invariant q)
    ∙ sym (places_turn c.args.blocks.now i none c.loop-block-test.true q)
