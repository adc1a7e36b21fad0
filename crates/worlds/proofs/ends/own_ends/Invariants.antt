use Rattle.std.proofs.Common.{◌≡◌, map, flat_map, take}
use Rattle.worlds.specs.Ends.{declared_ends, written}
use Rattle.worlds.proofs.ends.own_ends.Given as goal

abbrev pub invariant-loop-decl : goal.invariant-loop-decl
invariant-loop-decl l = map written l.cells.items ≡ flat_map (declared_ends l.globals) (take l.decl-index l.decls)
