use Rattle.std.proofs.Common.{◌≡◌, ◌++◌, drop, take, map}
use Rattle.rsml_syntax.specs.declared.syntax.Bus.{Bus}
use Rattle.rsml_rules.specs.breaches.Noting.{noted}
use Rattle.rsml_syntax.specs.rules.States as states
use Rattle.rsml_rules.proofs.breaches.states.each_bus.Given as goal

abbrev pub invariant-loop-bus : goal.invariant-loop-bus
invariant-loop-bus l =
    (l.names ≡ map (λ (b : Bus). b.name) (take l.bus-index l.buses))
    × (noted l.worst (states.buses l.children (l.children ++ l.names) (drop l.bus-index l.buses)) ≡ noted l.fn.worst (states.buses l.children l.children l.buses))
