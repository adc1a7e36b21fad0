use Rattle.std.proofs.Common.{ℕ, Bool, eqb, length, ap, ◌∙◌}
use Rattle.std.specs.Simd.Lanes.{sum_l}
use Rattle.std.specs.Int.Bits.{bit_and}
use Rattle.and_or_tables.proofs.CountsLemmas.{hits_fit, hits_sums, hits_lanes, hits_counted}
use Rattle.and_or_tables.proofs.counts.more_hits.Goals as goal

pub overflow_add-result : goal.overflow_add-result
overflow_add-result c = hits_fit 4 c.args.care c.args.want c.args.words c.args.sums c.requires.words c.requires.room

pub returns-clause-lanes : goal.returns-clause-lanes
returns-clause-lanes c =
    let hits : ℕ → Bool = λ word. eqb (bit_and word c.args.care) c.args.want in
    ap length (hits_sums 4 c.args.care c.args.want c.args.words c.args.sums c.requires.words) ∙ hits_lanes 4 hits c.args.words c.args.sums c.requires.words c.requires.sums

pub returns-clause-counted : goal.returns-clause-counted
returns-clause-counted c =
    let hits : ℕ → Bool = λ word. eqb (bit_and word c.args.care) c.args.want in
    ap sum_l (hits_sums 4 c.args.care c.args.want c.args.words c.args.sums c.requires.words) ∙ hits_counted 4 hits c.args.words c.args.sums c.requires.words c.requires.sums
