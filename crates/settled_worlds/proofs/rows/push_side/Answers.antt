use Rattle.std.proofs.Common.{◌≡◌, ◌+ℤ◌, ◌≤ℤ◌, sym, subst, arith, w64, to_z, of_z}
use Rattle.std.proofs.lemmas.Int.{ints}
use Rattle.rsml_ground.specs.Truths.{sum_number}
use Rattle.phrase_diagrams.specs.Signs.{IsWithin}
use Rattle.keyed_levels.specs.Keyed.{world_at}
use Rattle.settled_worlds.proofs.RowLemmas.{if_some, rows_more}
use Rattle.settled_worlds.proofs.rows.push_side.Goals as goal

pub returns-in_ok-push-2 : goal.returns-in_ok-push-2
returns-in_ok-push-2 c = λ k are there has.
    let m = c.in-Some.margin in
    let small : IsWithin 1 m = if_some c.args.margin m (IsWithin 1) c.in-Some.is c.requires.small in
    let same : to_z w64 (of_z w64 m) ≡ m = omega (arith, ints, small.least, small.most) in
    rows_more k c.args.rows.now (record { rows = c.push.new.self; literals = c.push-in-Some.new.self }) c.args.literal c.in_ok-row_of.field-0 are there
    c.in_ok-push.ensures.items c.in_ok-push-2.ensures.items
    (λ values so. c.in_ok-row_of.ensures (world_at k values).cells
    (subst (λ z. sum_number (world_at k values).cells c.args.first.now ≤ℤ (sum_number (world_at k values).cells c.args.second.now +ℤ z)) (sym same)
    (if_some c.args.margin m (λ m. sum_number (world_at k values).cells c.args.first.now ≤ℤ (sum_number (world_at k values).cells c.args.second.now +ℤ m)) c.in-Some.is (has values so))))
