use Rattle.std.proofs.Common.{subst}
use Rattle.rsml_ground.specs.Scoped.{OperandIsScoped}
use Rattle.phrase_builder.proofs.Operands.{previous_cell}
use Rattle.phrase_builder.proofs.sums.operand.Goals as goal

pub previous-requires-clause-there : goal.previous-requires-clause-there
previous-requires-clause-there c = previous_cell c.args.lookup.now c.args.here.now c.in-Previous.mention (subst (OperandIsScoped c.args.lookup.now c.args.here.now) c.in-Previous.is c.requires)
