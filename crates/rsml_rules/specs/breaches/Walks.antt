-- The parts of a state with all that is in it.
use Rattle.std.specs.Prelude.{List, [], ◌∷◌, ◌++◌}
use Rattle.rsml_syntax.specs.grammar.Parts.{Part, State, Opens, Closes, nearer, inside}

abbrev pub state_parts : State → List Part
state_parts s = Opens s ∷ (inside (nearer s.size s.array) s.body ++ (Closes s ∷ []))
