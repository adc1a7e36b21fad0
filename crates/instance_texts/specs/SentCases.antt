-- The fields of a case of a send, and the names of what it answers in each.
use Rattle.std.specs.Prelude.{◌≡◌, ℕ, List, [], map, Option, slice_get}
use Rattle.std.specs.Option.{option_and_then}
use Rattle.rsml_syntax.specs.declared.syntax.Spec.{Spec}
use Rattle.rsml_syntax.specs.declared.syntax.Decl.{Decl}
use Rattle.rsml_syntax.specs.declared.syntax.Decl.TheVariants as decl
use Rattle.rsml_syntax.specs.declared.syntax.SendCase.{SendCase}
use Rattle.rsml_syntax.specs.declared.syntax.Answer.{Answer}
use Rattle.rsml_syntax.specs.declared.syntax.Value.{Value}
use Rattle.rsml_syntax.specs.grammar.Written.{values_in}
use Rattle.rsml_syntax.specs.text.Names.{Name}
use Rattle.rsml_syntax.specs.rules.Globals.{Globals}
use Rattle.rsml_meaning.specs.Instances.{globals_of}
use Rattle.rsml_meaning.specs.Interfaces.{SendCaseInstance, send_cases}
use Rattle.rsml_meaning.specs.Trace.{names_of_kind, value_kind}

pub record Answered : Type 0 where
  pub fields : List Name
  pub names : List (List Name)

-- the names of the values that a value is one of; none for numbers
abbrev pub names_of_value : Globals → Value → List Name
names_of_value g value = names_of_kind g (value_kind g value)

-- those of each value of an answer
abbrev pub names_in : Globals → Answer → List (List Name)
names_in g answer = map (names_of_value g) (values_in answer)

-- those of a case as it is declared
abbrev pub answered_by : Globals → List Name → SendCase → Answered
answered_by g fields c = record { fields = fields; names = names_in g c.answer }

-- those of the cases that a send is declared with
abbrev pub cases_in : Globals → Decl → List Answered
cases_in g (decl.Send _ _ fields cases) = map (answered_by g fields) cases
cases_in _ _ = []

-- those of a case of a send instance
abbrev pub answer_of : Globals → SendCaseInstance → Answered
answer_of g c = record { fields = c.fields; names = names_in g c.answer }

-- the value at a place of the case of this number, where there is one
abbrev pub sent_value : Spec → ℕ → ℕ → Option Value
sent_value s case place = option_and_then (λ c. slice_get (values_in c.answer) place) (slice_get (send_cases s) case)

-- the field at a place of the case of this number, where there is one
abbrev pub sent_field : Spec → ℕ → ℕ → Option Name
sent_field s case place = option_and_then (λ c. slice_get c.fields place) (slice_get (send_cases s) case)

-- what each case answers
abbrev pub AreSent : Spec → List Answered → Type 0
AreSent s cases = cases ≡ map (answer_of (globals_of s)) (send_cases s)
