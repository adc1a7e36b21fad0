use Rattle.std.proofs.Common.{flat_map, take}
use Rattle.rsml_meaning.specs.Interfaces.{receives_of}
use Rattle.interfaces.specs.Kept.{AreKept}
use Rattle.interfaces.proofs.table.Table.new.Given as goal

abbrev pub invariant-loop-decl : goal.invariant-loop-decl
invariant-loop-decl l = AreKept l.names l.table.fields.items l.table.receives.items (flat_map (receives_of l.globals) (take l.decl-index l.decls))
