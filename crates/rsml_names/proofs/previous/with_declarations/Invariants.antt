use Rattle.std.proofs.Common.{◌≡◌, take, flat_map}
use Rattle.rsml_names.specs.PreviousNames.{gathered}
use Rattle.rsml_names.specs.PreviousNames.{sums_of_declaration}
use Rattle.rsml_names.proofs.previous.with_declarations.Given as goal

abbrev pub invariant-loop-decl : goal.invariant-loop-decl
invariant-loop-decl l = l.names ≡ gathered l.fn.names (flat_map (sums_of_declaration) (take l.decl-index l.decls))
