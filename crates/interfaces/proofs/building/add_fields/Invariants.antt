use Rattle.std.proofs.Common.{◌≡◌, ◌++◌, map, take}
use Rattle.rsml_meaning.specs.Truth.{within, instance}
use Rattle.interfaces.specs.Kept.{places, written}
use Rattle.interfaces.proofs.building.add_fields.Given as goal

abbrev pub invariant-loop-input : goal.invariant-loop-input
invariant-loop-input l = map written l.fields.items ≡ map written l.fn.fields.items ++ map (places l.names) (map (instance l.globals (within l.this)) (take l.input-index l.inputs))
