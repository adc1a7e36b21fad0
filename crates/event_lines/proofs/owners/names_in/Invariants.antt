use Rattle.std.proofs.Common.{◌≡◌, flat_map, take}
use Rattle.rsml_syntax.specs.rules.Globals.{names_of}
use Rattle.event_lines.proofs.owners.names_in.Given as goal

abbrev pub invariant-loop-decl : goal.invariant-loop-decl
invariant-loop-decl l = l.names ≡ flat_map names_of (take l.decl-index l.decls)
