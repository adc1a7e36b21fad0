use Rattle.std.proofs.Common.{ℕ, nat_eq, List, ap, ◌∙◌}
use Rattle.std.proofs.lemmas.Result.{IfOk-weaker}
use Rattle.pair_counts.specs.declared.blocks.Block.{Block}
use Rattle.pair_counts.specs.Grouped.{places_of}
use Rattle.pair_counts.specs.Sets.{is_among}
use Rattle.pair_counts.proofs.InverseLemmas.{swapped_among}
use Rattle.pair_counts.proofs.inverse.named_by.Goals as goal

pub returns : goal.returns
returns c = IfOk-weaker c.lists_of.result _ _
    (λ lists h place number l.
    ap (λ (ns : List ℕ). is_among nat_eq ns number)
    (h place l ∙ c.in_ok-groups.ensures place ∙ ap (λ (ls : List Block). places_of ls place) (c.as_slice.ensures.value ∙ c.in_ok-swapped.ensures))
    ∙ swapped_among c.args.blocks.now place number)
    c.lists_of.ensures
