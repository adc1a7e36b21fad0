use Rattle.std.proofs.Common.{◌≡◌, flat_map, length, take}
use Rattle.rsml_meaning.specs.Instances.{events_of}
use Rattle.elaborate.proofs.count.counted.Given as goal

abbrev pub invariant-loop-decl : goal.invariant-loop-decl
invariant-loop-decl l = l.count ≡ length (flat_map (events_of l.globals) (take l.decl-index l.decls))
