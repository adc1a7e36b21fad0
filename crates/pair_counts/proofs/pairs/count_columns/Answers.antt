use Rattle.std.proofs.Common.{◌≡◌, ℕ, nat_eq, List, map, length, sym, ap, ◌∙◌, arith}
use Rattle.std.proofs.lemmas.List.{length-map}
use Rattle.rsml_base.specs.Counting.{shown}
use Rattle.pair_counts.specs.Blocks.{list_at}
use Rattle.pair_counts.specs.Sets.{Sets, is_among}
use Rattle.pair_counts.proofs.EntryLemmas.{ok_with}
use Rattle.pair_counts.proofs.PairLemmas.{columns_counted}
use Rattle.pair_counts.proofs.SetLemmas.{items}
use Rattle.pair_counts.proofs.pairs.count_columns.Goals as goal

pub returns : goal.returns
returns c =
    let lists = c.args.sets.now.lists in
    let named = c.in_ok-named_by.named_by.lists in
    let lists_with = c.in_ok-lists_with.lists_with in
    let named_are : named ≡ map items c.in_ok-numbers.numbers.items =
    ap (λ (s : Sets ℕ). s.lists) c.in_ok-named_by.ensures ∙ ap (map items) c.as_slice.ensures.value in
    let many : length lists ≡ length c.lists.result.now = omega (arith, length-map c.lists.result.now items, ap length c.lists.ensures) in
    ok_with c.count_column_groups-2.result _ _ _ c.count_column_groups-2.ensures.differ c.count_column_groups-2.ensures.count
    (λ differ count h.
    h
    ∙ ap shown
    (sym
    (columns_counted lists c.args.rows.now named lists_with
    (λ place n l. ap (λ (ls : List (List ℕ)). is_among nat_eq (list_at ls place) n) named_are ∙ c.in_ok-numbers.ensures place n (omega (arith, many)))
    (λ n place. c.in_ok-lists_with.ensures n place ∙ ap (λ (ls : List (List ℕ)). is_among nat_eq (list_at ls place) n) c.lists-2.ensures)
    c.args.columns.now c.in_ok-new.field-0 differ c.in_ok-new.ensures)))
