use Rattle.std.proofs.Common.{◌≡◌, ◌++◌, drop}
use Rattle.rsml_syntax.specs.rules.Globals.{names_of}
use Rattle.event_lines.proofs.owners.add_names.Given as goal

abbrev pub invariant-loop-value : goal.invariant-loop-value
invariant-loop-value l = l.names ++ drop l.value-index l.value-items ≡ l.fn.names ++ names_of l.decl
