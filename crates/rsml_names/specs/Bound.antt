-- The variables of quantifiers, each with the place of the declaration that it stands in.
use Rattle.std.specs.Prelude.{ℕ, ◌+◌, List, [], ◌∷◌, ◌++◌, map, flat_map, Some, None}
use Rattle.rsml_syntax.specs.declared.syntax.Guard.{Guard}
use Rattle.rsml_syntax.specs.declared.syntax.Phrase.{Phrase}
use Rattle.rsml_syntax.specs.declared.syntax.Row.{Row}
use Rattle.rsml_syntax.specs.text.Names.{Name}
use Rattle.rsml_syntax.specs.rules.Scopes.{Variable, variable_at}
use Rattle.rsml_syntax.specs.rules.Globals.{Known}
use Rattle.rsml_syntax.specs.grammar.Written.{rows_of, variable_of, variables_in}

-- variables by their names and their places
abbrev pub joined : List Name → List ℕ → List Variable
joined (name ∷ names) (place ∷ places) = variable_at place name ∷ joined names places
joined _ _ = []

-- the variable of a phrase's quantifier
abbrev pub of_phrase : ℕ → Phrase → List Variable
of_phrase place phrase = map (variable_at place) (variable_of phrase)

-- the variables of rows, in order
abbrev pub of_rows : ℕ → List Row → List Variable
of_rows place rows = flat_map (λ row. of_phrase place row.phrase) rows

-- the variables of a guard, in order
abbrev pub of_guard : ℕ → Guard → List Variable
of_guard place guard = of_rows place (rows_of guard)

-- the variables of a declaration at its own name; none at a value that it declares
abbrev pub variables_at : ℕ → Known → List Variable
variables_at place k = elim k.value [ None ↦ map (variable_at place) (variables_in k.decl) | Some _ ↦ [] ]

-- the variables of the declarations of global names, the first of which has this place
abbrev pub variables_from : ℕ → List Known → List Variable
variables_from place [] = []
variables_from place (k ∷ ks) = variables_at place k ++ variables_from (place + 1) ks
