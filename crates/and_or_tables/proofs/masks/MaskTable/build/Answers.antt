use Rattle.std.proofs.Common.{◌≡◌, length, ap, ◌∙◌, arith}
use Rattle.and_or_tables.specs.declared.masks.MaskTable.TheInside.{Inside}
use Rattle.and_or_tables.proofs.Masked.{IsMasked-made, spelled-made}
use Rattle.and_or_tables.proofs.masks.MaskTable.build.Goals as goal

pub invariant_of-result : goal.invariant_of-result
invariant_of-result c =
    let m : Inside = record { rows = length c.as_slice-rows.result.now; care = c.loop-place.care; want = c.loop-place.want } in
    let wide : c.loop-place.place ≡ c.column_count-columns.result = omega arith in
    IsMasked-made c.args.table.now m c.loop-place.place c.requires (ap length c.as_slice-rows.ensures) (wide ∙ c.column_count-columns.ensures) c.loop-place.invariant.cared c.loop-place.invariant.wanted

pub returns : goal.returns
returns c =
    let m : Inside = record { rows = length c.as_slice-rows.result.now; care = c.loop-place.care; want = c.loop-place.want } in
    let wide : c.loop-place.place ≡ c.column_count-columns.result = omega arith in
    spelled-made c.args.table.now m c.loop-place.place c.requires (ap length c.as_slice-rows.ensures) (wide ∙ c.column_count-columns.ensures) c.loop-place.invariant.cared c.loop-place.invariant.wanted
