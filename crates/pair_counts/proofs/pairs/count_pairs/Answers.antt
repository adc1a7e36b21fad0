use Rattle.std.proofs.Common.{◌≡◌, ◌+◌, ℕ, not, filter, flat_map, List, map, length, ap, ◌∙◌}
use Rattle.rsml_base.specs.Counting.{distinct, shown}
use Rattle.pair_counts.specs.Blocks.{column, row, same_pair, is_in_rows}
use Rattle.pair_counts.specs.Sets.{Sets}
use Rattle.pair_counts.proofs.PairLemmas.{pairs_counted}
use Rattle.pair_counts.proofs.SetLemmas.{items}
use Rattle.pair_counts.proofs.Sums.{shown_plus}
use Rattle.pair_counts.proofs.pairs.count_pairs.Goals as goal

pub returns : goal.returns
returns c =
    let lists : List (List ℕ) = map items c.args.lists.now in
    let columns = c.args.columns.now in
    let rows = c.args.rows.now in
    let of_rows : List (List ℕ) → ℕ = λ ls. length (distinct same_pair (flat_map (row ls) rows)) in
    let of_columns : List (List ℕ) → ℕ = λ ls. length (distinct same_pair (filter (λ p. not (is_in_rows ls rows p)) (flat_map (column ls) columns))) in
    let own : c.in_ok-sets.sets.lists ≡ lists = ap (λ (s : Sets ℕ). s.lists) c.in_ok-sets.ensures in
    c.saturating_add.ensures
    ∙ (λ i. shown (c.in_ok-of_rows.ensures i + c.in_ok-of_columns.ensures i))
    ∙ shown_plus (of_rows c.in_ok-sets.sets.lists) (of_columns c.in_ok-sets.sets.lists)
    ∙ (λ i. shown (of_rows (own i) + of_columns (own i)))
    ∙ ap shown (pairs_counted lists columns rows)
