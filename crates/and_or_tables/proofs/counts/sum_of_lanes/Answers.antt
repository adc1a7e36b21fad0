use Rattle.std.proofs.Common.{zero-add, ◌∙◌, arith, w64}
use Rattle.std.proofs.lemmas.Simd.{sum_fits, fold-sum}
use Rattle.and_or_tables.proofs.counts.sum_of_lanes.Goals as goal

pub overflow_add-result : goal.overflow_add-result
overflow_add-result c = sum_fits w64 0 c.args.sums (omega arith)

pub returns : goal.returns
returns c = fold-sum 0 c.args.sums ∙ zero-add _
