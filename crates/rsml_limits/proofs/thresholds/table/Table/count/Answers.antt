use Rattle.std.proofs.Common.{◌≡◌, List, map, length, filter, ap, sym, subst, ◌∙◌, ℤ}
use Rattle.std.specs.Prelude.{flat_map}
use Rattle.std.specs.Global.{Vec}
use Rattle.std.proofs.lemmas.Result.{IfOk-weaker}
use Rattle.std.proofs.lemmas.List.{length-map}
use Rattle.pair_counts.specs.Blocks.{entries, same_entry}
use Rattle.rsml_syntax.specs.limits.Limits.{distinct, shown}
use Rattle.rsml_syntax.specs.limits.Thresholds.{Threshold, same_threshold}
use Rattle.rsml_limits.specs.declared.comparisons.input_cell.InputCell.{InputCell}
use Rattle.rsml_limits.specs.thresholds.Pairs.{has_inner}
use Rattle.rsml_limits.specs.thresholds.Tabled.{input_ends, AreWithin}
use Rattle.rsml_limits.proofs.ThresholdCountLemmas.{count_table}
use Rattle.rsml_limits.proofs.thresholds.table.Table.count.Goals as goal

pub returns : goal.returns
returns c =
    let t = c.self.inside in
    let g = c.args.globals.now in
    let lists = map (λ (l : Vec ℤ). l.items) t.lists.items in
    let within = subst (λ n. AreWithin (length t.cells.keys) n t.blocks.items) (sym (length-map t.lists.items (λ (l : Vec ℤ). l.items))) c.self.invariant in
    let tied = c.in_ok-ranges.ensures ∙ ap (map (λ (d : InputCell). input_ends g d.input.now)) c.as_slice.ensures.keys in
    let many = λ (ts : List Threshold). length (distinct same_threshold (filter (has_inner g) ts)) in
    IfOk-weaker c.count_entries.result
    (λ n.
    n
    ≡ shown (length (distinct same_entry (flat_map (entries c.as_slice-3.result.now (map (λ (l : Vec ℤ). l.items) c.as_slice-2.result.now)) c.as_slice-4.result.now))))
    (λ n. n ≡ shown (many c.args.self.now))
    (λ n e.
    e
    ∙ ap shown
    ((λ i.
    length
    (distinct same_entry (flat_map (entries (c.as_slice-3.ensures.value i) (map (λ (l : Vec ℤ). l.items) (c.as_slice-2.ensures.value i))) (c.as_slice-4.ensures.value i))))
    ∙ count_table g c.in_ok-ranges.ranges.items t.cells.keys lists t.blocks.items c.as_slice.ensures.unique tied within
    ∙ ap many c.self.view_is))
    c.count_entries.ensures
