use Rattle.std.proofs.Common.{◌∙◌}
use Rattle.and_or_tables.proofs.Masked.{any-seen}
use Rattle.and_or_tables.proofs.masks.MaskTable.any_column.Goals as goal

pub returns : goal.returns
returns c =
    c.any_holds.ensures
    ∙ any-seen c.self.inside c.self.invariant c.args.self.now c.self.view_is c.as_slice.result.now c.as_slice-2.result.now c.as_slice.ensures.value c.as_slice-2.ensures.value c.args.bits
