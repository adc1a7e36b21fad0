-- The names that stand after `previous`, in order.
use Rattle.std.specs.Prelude.{List, [], ◌∷◌, ◌++◌, flat_map, None}
use Rattle.rsml_syntax.specs.declared.syntax.Operand.{Operand}
use Rattle.rsml_syntax.specs.declared.syntax.Operand.TheVariants as operands
use Rattle.rsml_syntax.specs.declared.syntax.Sum.{Sum}
use Rattle.rsml_syntax.specs.declared.syntax.Case.{Case}
use Rattle.rsml_syntax.specs.declared.syntax.SendCase.{SendCase}
use Rattle.rsml_syntax.specs.declared.syntax.Answer.{Answer}
use Rattle.rsml_syntax.specs.declared.syntax.Transition.{Transition}
use Rattle.rsml_syntax.specs.declared.syntax.Decl.{Decl}
use Rattle.rsml_syntax.specs.declared.syntax.Body.{Body}
use Rattle.rsml_syntax.specs.declared.syntax.Spec.{Spec}
use Rattle.rsml_syntax.specs.text.Names.{Name}
use Rattle.rsml_syntax.specs.grammar.Written.{sums_of_guard, sum_of_value, values_in}
use Rattle.rsml_syntax.specs.limits.Previous.{sums_of_part, written_sums}
use Rattle.rsml_syntax.specs.grammar.Parts.{Declared, inside, transitions_of}

-- the name after `previous` in an operand
abbrev pub previous_name : Operand → List Name
previous_name (operands.Previous m) = m.name ∷ []
previous_name _ = []

-- those of a sum
abbrev pub previous_in : Sum → List Name
previous_in sum = flat_map (λ t. previous_name t.operand) sum.terms

-- these names, and then those of sums
unfoldable pub gathered : List Name → List Sum → List Name
gathered names sums = names ++ flat_map previous_in sums

-- those of a specification
abbrev pub previous_names : Spec → List Name
previous_names s = gathered [] (written_sums s)

-- the sums of a declaration
abbrev pub sums_of_declaration : Decl → List Sum
sums_of_declaration d = sums_of_part (Declared 0 d)

-- the sums in the guards of a function's cases
abbrev pub case_guards : List Case → List Sum
case_guards cases = flat_map (λ c. sums_of_guard c.guard) cases

-- the values of its cases
abbrev pub case_values : List Case → List Sum
case_values cases = flat_map (λ c. c.value ∷ []) cases

-- the sums in the guards of the cases of an output interface
abbrev pub send_guards : List SendCase → List Sum
send_guards cases = flat_map (λ c. sums_of_guard c.guard) cases

-- the sums of what a case sends
abbrev pub sums_of_answer : Answer → List Sum
sums_of_answer answer = flat_map sum_of_value (values_in answer)

-- the sums of what its cases send
abbrev pub send_answers : List SendCase → List Sum
send_answers cases = flat_map (λ c. sums_of_answer c.answer) cases

-- the sums of transitions
abbrev pub sums_of_transitions : List Transition → List Sum
sums_of_transitions ts = flat_map (λ t. sums_of_guard t.guard) ts

-- the sums inside a state
abbrev pub sums_inside : Body → List Sum
sums_inside body = flat_map sums_of_part (inside None body)

-- the sums of a state
abbrev pub sums_of_state : Body → List Sum
sums_of_state body = sums_inside body ++ sums_of_transitions (transitions_of body)
