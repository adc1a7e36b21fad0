use Rattle.std.proofs.Common.{◌≡◌, length}
use Rattle.bdd_core.specs.Steps.{GainsOnly, blank}
use Rattle.bdd_core.proofs.computed.Computed.spread.Given as goal

abbrev pub invariant-loop-slot : goal.invariant-loop-slot
invariant-loop-slot l = GainsOnly l.fn.self.slots.items l.self.slots.items blank × (length l.self.slots.items ≡ length l.fn.self.slots.items)
