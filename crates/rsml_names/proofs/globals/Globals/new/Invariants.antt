use Rattle.std.proofs.Common.{◌≡◌, take}
use Rattle.rsml_syntax.specs.rules.Globals as spec
use Rattle.rsml_names.proofs.globals.Globals.new.Given as goal

abbrev pub invariant-loop-decl : goal.invariant-loop-decl
invariant-loop-decl l = l.globals ≡ spec.globals (take l.decl-index l.decls)
