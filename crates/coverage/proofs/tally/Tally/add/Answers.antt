use Rattle.std.proofs.Common.{◌≡◌, ℕ, ◌+◌, List, length, ap, ◌∙◌, subst, arith}
use Rattle.std.proofs.lemmas.List.{with_items_is}
use Rattle.coverage.specs.Coverage.{Covered}
use Rattle.coverage.specs.Counters.{cells_kept, one_more}
use Rattle.coverage.proofs.TallyLemmas.{counted, made}
use Rattle.coverage.proofs.tally.Tally.add.Goals as goal

pub returns-in-Some : goal.returns-in-Some
returns-in-Some c =
    let v = c.self.inside.columns in
    let new = c.count_columns.new.counts in
    let seen = ap (λ (ns : List ℕ). length ns) c.as_mut_slice.ensures.value in
    let ok = v.ok.0 in
    let long : length new ≡ v.len = omega (arith, c.count_columns.auto.counts, seen, ok) in
    ap (made (c.self.inside.count + 1)) (with_items_is v new long)
    ∙ subst (λ (w : Covered). made (c.self.inside.count + 1) new ≡ one_more c.args.bits (cells_kept c.args.table.now) w) c.self.view_is
    (counted c.args.bits c.self.inside.count (cells_kept c.args.table.now) _ v.items c.as_mut_slice.result.now new
    (ap cells_kept c.in-Some.is) c.as_mut_slice.ensures.value c.count_columns.auto.counts c.count_columns.ensures)
