use Rattle.std.proofs.Common.{◌+◌, ◌<◌, cond, length, get_or, ap, ◌∙◌, arith}
use Rattle.and_or_tables.proofs.Masked.{columns-seen, holds-seen}
use Rattle.and_or_tables.proofs.masks.MaskTable.count_columns.Goals as goal

pub count_holds-requires-clause-counts : goal.count_holds-requires-clause-counts
count_holds-requires-clause-counts c = c.requires.counts ∙ columns-seen c.self.inside c.self.invariant c.args.self.now c.self.view_is c.as_slice.result.now c.as_slice.ensures.value

pub returns : goal.returns
returns c k within =
    let wide = columns-seen c.self.inside c.self.invariant c.args.self.now c.self.view_is c.as_slice.result.now c.as_slice.ensures.value in
    let less : k < length c.as_slice.result.now = omega arith in
    c.count_holds.ensures k less
    ∙ ap (λ hit. get_or c.args.counts.now k 0 + cond hit 1 0) (holds-seen c.self.inside c.self.invariant c.args.self.now c.self.view_is c.as_slice.result.now c.as_slice-2.result.now c.as_slice.ensures.value c.as_slice-2.ensures.value c.args.bits k less)
