use Rattle.std.proofs.Common.{◌≡◌, take, flat_map}
use Rattle.event_graph.specs.Clashes.{if_any}
use Rattle.event_graph.proofs.clashes.all_clashes.Given as goal

abbrev pub invariant-loop-first : goal.invariant-loop-first
invariant-loop-first l = l.clashes.items ≡ flat_map if_any (take l.first-index l.firsts)
