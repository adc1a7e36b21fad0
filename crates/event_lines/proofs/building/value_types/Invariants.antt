use Rattle.std.proofs.Common.{◌≡◌, map, take}
use Rattle.event_lines.specs.helpers.Declared.{type_of}
use Rattle.event_lines.proofs.building.value_types.Given as goal

abbrev pub invariant-loop-decl : goal.invariant-loop-decl
invariant-loop-decl l = l.types.items ≡ map type_of (take l.decl-index l.decls)
