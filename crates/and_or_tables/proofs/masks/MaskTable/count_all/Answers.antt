use Rattle.std.proofs.Common.{◌+◌, ◌<◌, length, get_or, ap, ◌∙◌, arith}
use Rattle.and_or_tables.proofs.Masked.{columns-seen, count-seen}
use Rattle.and_or_tables.proofs.masks.MaskTable.count_all.Goals as goal

pub count_all_holds-requires-clause-counts : goal.count_all_holds-requires-clause-counts
count_all_holds-requires-clause-counts c = c.requires.counts ∙ columns-seen c.self.inside c.self.invariant c.args.self.now c.self.view_is c.as_slice.result.now c.as_slice.ensures.value

pub returns : goal.returns
returns c k within =
    let wide = columns-seen c.self.inside c.self.invariant c.args.self.now c.self.view_is c.as_slice.result.now c.as_slice.ensures.value in
    let less : k < length c.as_slice.result.now = omega arith in
    c.count_all_holds.ensures k less
    ∙ ap (λ n. get_or c.args.counts.now k 0 + n) (count-seen c.self.inside c.self.invariant c.args.self.now c.self.view_is c.as_slice.result.now c.as_slice-2.result.now c.as_slice.ensures.value c.as_slice-2.ensures.value c.args.bits.now k less)
