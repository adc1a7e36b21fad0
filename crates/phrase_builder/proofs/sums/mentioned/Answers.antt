use Rattle.std.proofs.Common.{sym, ◌∙◌}
use Rattle.phrase_builder.proofs.Operands.{mention_cell}
use Rattle.phrase_builder.proofs.sums.mentioned.Goals as goal

pub cell-requires-clause-there : goal.cell-requires-clause-there
cell-requires-clause-there c = mention_cell c.args.lookup.now c.args.here.now c.args.mention.now c.requires (sym c.is_input.ensures ∙ c.if-is_input.true)
