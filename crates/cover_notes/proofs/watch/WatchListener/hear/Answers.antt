use Rattle.simulator.proofs.TurnLemmas.{is_there, are_numbers}
use Rattle.cover_notes.proofs.watch.WatchListener.hear.Goals as goal

pub latch-present-requires-clause-there : goal.latch-present-requires-clause-there
latch-present-requires-clause-there c =
    is_there c.self.inside.machine.now.base.spec c.self.inside.forms c.args.line.now c.in-Ok.received c.read_line.new.values c.self.invariant.forms_are c.in-Ok.ensures.ok

pub latch-present-requires-clause-holds : goal.latch-present-requires-clause-holds
latch-present-requires-clause-holds c =
    are_numbers c.self.inside.machine.now.base.spec c.self.inside.forms c.args.line.now c.in-Ok.received c.read_line.new.values c.self.invariant.forms_are c.in-Ok.ensures.ok
