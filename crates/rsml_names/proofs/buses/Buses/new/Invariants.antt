use Rattle.std.proofs.Common.{◌≡◌, map, take}
use Rattle.rsml_syntax.specs.declared.syntax.Bus.{Bus}
use Rattle.rsml_names.proofs.buses.Buses.new.Given as goal

abbrev pub invariant-loop-bus : goal.invariant-loop-bus
invariant-loop-bus l = l.names ≡ map (λ (b : Bus). b.name) (take l.bus-index l.buses)
