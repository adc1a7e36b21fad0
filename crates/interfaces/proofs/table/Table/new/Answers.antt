use Rattle.rsml_ground.specs.Scoped.{ReceiveIsScoped}
use Rattle.rsml_meaning.specs.Interfaces.{receives_of}
use Rattle.interfaces.proofs.TurnLemmas.{each_part}
use Rattle.interfaces.proofs.table.Table.new.Goals as goal

pub add_declared-requires-clause-scoped : goal.add_declared-requires-clause-scoped
add_declared-requires-clause-scoped c = each_part (ReceiveIsScoped c.args.names.now) (receives_of c.args.globals.now) _ _ _ c.requires.scoped c.loop-decl-test.true c.decl-item.is
