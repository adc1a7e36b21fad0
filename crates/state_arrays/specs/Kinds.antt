-- The instances of one kind that a declaration makes.
use Rattle.std.specs.Prelude.{List}
use Rattle.rsml_syntax.specs.declared.syntax.Decl.{Decl}
use Rattle.rsml_syntax.specs.rules.Globals.{Globals}
use Rattle.rsml_meaning.specs.Words.{Instance}
use Rattle.rsml_meaning.specs.Instances.{events_of}
use Rattle.rsml_meaning.specs.Interfaces.{sends_of}
use Rattle.state_arrays.specs.Made.{inputs_of, previous_of, definitions_made, receives_made}
use Rattle.state_arrays.specs.declared.kind.Kind.{Kind}
use Rattle.state_arrays.specs.declared.kind.Kind.TheVariants as kinds

-- those of this kind
abbrev pub made : Kind → Globals → Decl → List Instance
made kinds.Event = events_of
made kinds.Input = inputs_of
made (kinds.Previous names) = previous_of names.now
made kinds.Definition = definitions_made
made kinds.Receive = receives_made
made kinds.Send = sends_of
