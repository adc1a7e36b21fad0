use Rattle.std.proofs.Common.{◌≡◌, take, flat_map}
use Rattle.state_arrays.specs.Kinds.{made}
use Rattle.state_arrays.proofs.declared.instances_of.Given as goal

abbrev pub invariant-loop-decl : goal.invariant-loop-decl
invariant-loop-decl l = l.instances ≡ flat_map (made l.kind l.globals) (take l.decl-index l.decls)
