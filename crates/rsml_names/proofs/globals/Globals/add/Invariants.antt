use Rattle.std.proofs.Common.{◌≡◌, ◌++◌, drop}
use Rattle.rsml_syntax.specs.rules.Globals as spec
use Rattle.rsml_names.proofs.globals.Globals.add.Given as goal

abbrev pub invariant-loop-number : goal.invariant-loop-number
invariant-loop-number l = record {
  named : l.self-inside.names ++ drop l.number l.value-items ≡ l.fn.self.names ++ spec.names_of l.decl;
  told : l.self-inside.known.items ++ spec.known_values l.decl l.number (drop l.number l.value-items) ≡ l.fn.self.known ++ spec.known_by l.decl;
}
