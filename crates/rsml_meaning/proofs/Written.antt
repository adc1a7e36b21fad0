-- Words for writing a specification as a value.
use Rattle.std.specs.Prelude.{ℕ, true, false, List, [], ◌∷◌, map, Option, Some, None, codes}
use Prim.Native.String.{String}
use Rattle.rsml_syntax.specs.declared.syntax.Amount.{Amount}
use Rattle.rsml_syntax.specs.declared.syntax.Amount.TheVariants as amounts
use Rattle.rsml_syntax.specs.declared.syntax.Answer.{Answer}
use Rattle.rsml_syntax.specs.declared.syntax.Answer.TheVariants as answers
use Rattle.rsml_syntax.specs.declared.syntax.Body.{Body}
use Rattle.rsml_syntax.specs.declared.syntax.Bus.{Bus}
use Rattle.rsml_syntax.specs.declared.syntax.Case.{Case}
use Rattle.rsml_syntax.specs.declared.syntax.Cell.{Cell}
use Rattle.rsml_syntax.specs.declared.syntax.Decl.{Decl}
use Rattle.rsml_syntax.specs.declared.syntax.Decl.TheVariants as decls
use Rattle.rsml_syntax.specs.declared.syntax.Guard.{Guard}
use Rattle.rsml_syntax.specs.declared.syntax.Guard.TheVariants as guards
use Rattle.rsml_syntax.specs.declared.syntax.Index.{Index}
use Rattle.rsml_syntax.specs.declared.syntax.Index.TheVariants as indices
use Rattle.rsml_syntax.specs.declared.syntax.Initial.{Initial}
use Rattle.rsml_syntax.specs.declared.syntax.Initial.TheVariants as initials
use Rattle.rsml_syntax.specs.declared.syntax.Mention.{Mention}
use Rattle.rsml_syntax.specs.declared.syntax.Operand.{Operand}
use Rattle.rsml_syntax.specs.declared.syntax.Operand.TheVariants as operands
use Rattle.rsml_syntax.specs.declared.syntax.Phrase.{Phrase}
use Rattle.rsml_syntax.specs.declared.syntax.Phrase.TheVariants as phrases
use Rattle.rsml_syntax.specs.declared.syntax.Relation.{Relation}
use Rattle.rsml_syntax.specs.declared.syntax.Row.{Row}
use Rattle.rsml_syntax.specs.declared.syntax.SendCase.{SendCase}
use Rattle.rsml_syntax.specs.declared.syntax.Signed.{Signed}
use Rattle.rsml_syntax.specs.declared.syntax.Simple.{Simple}
use Rattle.rsml_syntax.specs.declared.syntax.Simple.TheVariants as simples
use Rattle.rsml_syntax.specs.declared.syntax.Spec.{Spec}
use Rattle.rsml_syntax.specs.declared.syntax.Sum.{Sum}
use Rattle.rsml_syntax.specs.declared.syntax.Term.{Term}
use Rattle.rsml_syntax.specs.declared.syntax.Transition.{Transition}
use Rattle.rsml_syntax.specs.declared.syntax.Value.{Value}
use Rattle.rsml_syntax.specs.declared.syntax.Value.TheVariants as values
use Rattle.rsml_syntax.specs.text.Names.{Name}
pub use Rattle.rsml_syntax.specs.declared.syntax.Cell.TheVariants.{T, F, Dot}
pub use Rattle.rsml_syntax.specs.declared.syntax.Relation.TheVariants.{Equal, NotEqual, Less, LessEqual, Greater, GreaterEqual}

abbrev pub name : String → Name
name text = codes text

abbrev pub specification : String → List Decl → String → Body → Spec
specification text ds top body = record { name = name text; decls = ds; top = name top; body = body }

-- Names, sizes and numbers.

abbrev pub number : ℕ → Amount
number n = amounts.Number n

abbrev pub named : String → Amount
named text = amounts.Name (name text)

abbrev pub plus : ℕ → Signed
plus n = record { minus = false; digits = n }

abbrev pub minus : ℕ → Signed
minus n = record { minus = true; digits = n }

abbrev mention : String → Option Index → Mention
mention text index = record { name = name text; index = index }

abbrev pub plain : String → Mention
plain text = mention text None

abbrev pub at_this : String → Mention
at_this text = mention text (Some indices.This)

abbrev pub at_number : String → ℕ → Mention
at_number text n = mention text (Some (indices.Number n))

abbrev pub at_name : String → String → Mention
at_name text index = mention text (Some (indices.Name (name index)))

-- Sums.

abbrev pub digits : ℕ → Operand
digits n = operands.Number n

abbrev pub of : Mention → Operand
of m = operands.Mention m

abbrev pub previous : Mention → Operand
previous m = operands.Previous m

abbrev pub add : Operand → Term
add operand = record { minus = false; operand = operand }

abbrev pub less : Operand → Term
less operand = record { minus = true; operand = operand }

abbrev pub total : List Term → Sum
total terms = record { terms = terms }

abbrev pub just : Operand → Sum
just operand = total (add operand ∷ [])

-- Phrases, tables and guards.

abbrev pub in_state : List Mention → Simple
in_state path = simples.In path

abbrev pub is_macro : Mention → Simple
is_macro m = simples.Macro m

abbrev pub is_function : Mention → Relation → Sum → Simple
is_function function relation right = simples.Function function relation right

abbrev pub compares : Sum → Relation → Sum → Simple
compares left relation right = simples.Compare left relation right

abbrev pub phrase : Simple → Phrase
phrase body = phrases.Plain body

abbrev pub some_of : String → Amount → Simple → Phrase
some_of variable bound body = phrases.Any (name variable) bound body

abbrev pub every_of : String → Amount → Simple → Phrase
every_of variable bound body = phrases.Every (name variable) bound body

abbrev pub row : Phrase → List Cell → Row
row written cells = record { phrase = written; cells = cells }

abbrev pub always : Guard
always = guards.Always

abbrev pub when : List Row → Guard
when rows = guards.Table rows

-- Declarations.

abbrev pub enumeration : String → List String → Decl
enumeration text values = decls.Enumeration (name text) (map name values)

abbrev pub range : String → Signed → Signed → Decl
range text low high = decls.Range (name text) low high

abbrev pub constant : String → Signed → Decl
constant text value = decls.Constant (name text) value

abbrev pub from_number : Signed → Initial
from_number n = initials.Number n

abbrev pub from_name : String → Initial
from_name text = initials.Name (name text)

abbrev pub input : String → Option Amount → String → Initial → Decl
input text size kind initial = decls.Input (name text) size (name kind) initial

abbrev pub event : String → Option Amount → Decl
event text size = decls.Event (name text) size

abbrev pub macro : String → Option Amount → List Row → Decl
macro text size rows = decls.Macro (name text) size rows

abbrev pub case : Sum → Guard → Case
case value guard = record { value = value; guard = guard }

abbrev pub function : String → Option Amount → List Case → Decl
function text size cases = decls.Function (name text) size cases

abbrev pub receive : String → Option Amount → List Mention → Mention → Decl
receive text size inputs raised = decls.Receive (name text) size inputs raised

abbrev pub value : Sum → Value
value sum = values.Sum sum

abbrev pub value_of : Mention → Value
value_of function = values.Function function

abbrev pub quiet : Answer
quiet = answers.Quiet

abbrev pub sends : List Value → Answer
sends vs = answers.Values vs

abbrev pub send_case : Mention → Guard → Answer → SendCase
send_case trigger guard answer = record { trigger = trigger; guard = guard; answer = answer }

abbrev pub send : String → Option Amount → List String → List SendCase → Decl
send text size fields cases = decls.Send (name text) size (map name fields) cases

-- Buses and transitions.

abbrev pub bus : String → List String → Bus
bus text members = record { name = name text; members = map name members }

abbrev pub move : String → List String → Mention → Guard → List Mention → Transition
move source target trigger guard raises = record { source = name source; target = Some (map name target); trigger = trigger; guard = guard; raises = raises }

abbrev pub stay : String → Mention → Guard → List Mention → Transition
stay source trigger guard raises = record { source = name source; target = None; trigger = trigger; guard = guard; raises = raises }
