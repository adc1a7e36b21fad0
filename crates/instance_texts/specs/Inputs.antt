-- The inputs of receives, by their names.
use Rattle.std.specs.Prelude.{List, [], map}
use Rattle.rsml_syntax.specs.declared.syntax.Decl.{Decl}
use Rattle.rsml_syntax.specs.declared.syntax.Decl.TheVariants as decl
use Rattle.rsml_syntax.specs.text.Names.{Name}
use Rattle.rsml_meaning.specs.Interfaces.{ReceiveInstance}

-- the names of the inputs that a receive is declared with
abbrev pub input_names : Decl → List Name
input_names (decl.Receive _ _ inputs _) = map (λ m. m.name) inputs
input_names _ = []

-- the names of the inputs that a receive instance writes
abbrev pub names_of_inputs : ReceiveInstance → List Name
names_of_inputs r = map (λ i. i.name) r.inputs
