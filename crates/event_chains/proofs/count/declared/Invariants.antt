use Rattle.std.proofs.Common.{◌≡◌, ◌+◌, flat_map, drop, length}
use Rattle.rsml_meaning.specs.Instances.{events_of}
use Rattle.event_chains.proofs.count.declared.Given as goal

abbrev pub invariant-loop-decl : goal.invariant-loop-decl
invariant-loop-decl l = l.count + length (flat_map (events_of l.globals) (drop l.decl-index l.decls)) ≡ length (flat_map (events_of l.globals) l.decls)
