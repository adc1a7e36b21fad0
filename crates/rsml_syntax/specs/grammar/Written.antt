-- What is written in guards, answers and declarations: rows, sums and quantifiers' variables.
use Rattle.std.specs.Prelude.{List, [], ◌∷◌, map, flat_map}
use Rattle.rsml_syntax.specs.declared.syntax.Sum.{Sum}
use Rattle.rsml_syntax.specs.declared.syntax.Simple.{Simple}
use Rattle.rsml_syntax.specs.declared.syntax.Simple.TheVariants as simples
use Rattle.rsml_syntax.specs.declared.syntax.Phrase.{Phrase}
use Rattle.rsml_syntax.specs.declared.syntax.Phrase.TheVariants as phrases
use Rattle.rsml_syntax.specs.declared.syntax.Row.{Row}
use Rattle.rsml_syntax.specs.declared.syntax.Guard.{Guard}
use Rattle.rsml_syntax.specs.declared.syntax.Guard.TheVariants as guards
use Rattle.rsml_syntax.specs.declared.syntax.Value.{Value}
use Rattle.rsml_syntax.specs.declared.syntax.Value.TheVariants as values
use Rattle.rsml_syntax.specs.declared.syntax.Answer.{Answer}
use Rattle.rsml_syntax.specs.declared.syntax.Answer.TheVariants as answers
use Rattle.rsml_syntax.specs.declared.syntax.Decl.{Decl}
use Rattle.rsml_syntax.specs.declared.syntax.Decl.TheVariants as decl
use Rattle.rsml_syntax.specs.text.Names.{Name}

-- the rows of a guard's table
abbrev pub rows_of : Guard → List Row
rows_of guards.Always = []
rows_of (guards.Table rows) = rows

-- what a phrase says, its quantifier taken off
abbrev pub simple_of : Phrase → Simple
simple_of (phrases.Plain body) = body
simple_of (phrases.Any _ _ body) = body
simple_of (phrases.Every _ _ body) = body

-- the variable of a phrase's quantifier
abbrev pub variable_of : Phrase → List Name
variable_of (phrases.Plain _) = []
variable_of (phrases.Any variable _ _) = variable ∷ []
variable_of (phrases.Every variable _ _) = variable ∷ []

-- the sums that are compared
abbrev pub sums_in : Simple → List Sum
sums_in (simples.In _) = []
sums_in (simples.Macro _) = []
sums_in (simples.Compare left _ right) = left ∷ right ∷ []
sums_in (simples.Function _ _ right) = right ∷ []

-- the sums of a row
abbrev pub sums_of_row : Row → List Sum
sums_of_row row = sums_in (simple_of row.phrase)

-- the sums of a guard
abbrev pub sums_of_guard : Guard → List Sum
sums_of_guard g = flat_map sums_of_row (rows_of g)

-- the values that a send case gives
abbrev pub values_in : Answer → List Value
values_in answers.Quiet = []
values_in (answers.Values vs) = vs

-- the sum that a value is, where it is one
abbrev pub sum_of_value : Value → List Sum
sum_of_value (values.Sum sum) = sum ∷ []
sum_of_value (values.Function _) = []

-- the guards of a declaration, in order: a macro has its table
abbrev pub guards_of : Decl → List Guard
guards_of (decl.Macro _ _ rows) = guards.Table rows ∷ []
guards_of (decl.Function _ _ cases) = map (λ c. c.guard) cases
guards_of (decl.Send _ _ _ cases) = map (λ c. c.guard) cases
guards_of _ = []

-- the sums of a declaration that stand in no guard, in order: the values of its cases
abbrev pub sums_of : Decl → List Sum
sums_of (decl.Function _ _ cases) = map (λ c. c.value) cases
sums_of (decl.Send _ _ _ cases) = flat_map (λ c. flat_map sum_of_value (values_in c.answer)) cases
sums_of _ = []

-- all rows of a declaration, in order
abbrev pub rows_in : Decl → List Row
rows_in d = flat_map rows_of (guards_of d)

-- the variables of all quantifiers in a declaration, in order
abbrev pub variables_in : Decl → List Name
variables_in d = flat_map (λ row. variable_of row.phrase) (rows_in d)
