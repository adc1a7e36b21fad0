-- Words to write a specification with, as its text says it.
use Rattle.std.specs.Prelude.{ℕ, false, List, [], ◌∷◌, Some, None, codes}
use Prim.Native.String.{String}
use mathlib.Core.Former.{none_left, list_count, this as child_former}
use Rattle.rsml_syntax.specs.declared.syntax.Amount.{Amount}
use Rattle.rsml_syntax.specs.declared.syntax.Amount.TheVariants as amounts
use Rattle.rsml_syntax.specs.declared.syntax.Body.{Body, One', All', Row_of-StateDecl, end_of-StateDecl, more_of-StateDecl}
use Rattle.rsml_syntax.specs.declared.syntax.Cell.{Cell}
use Rattle.rsml_syntax.specs.declared.syntax.Decl.{Decl}
use Rattle.rsml_syntax.specs.declared.syntax.Decl.TheVariants as decl
use Rattle.rsml_syntax.specs.declared.syntax.Guard.{Guard}
use Rattle.rsml_syntax.specs.declared.syntax.Guard.TheVariants as guards
use Rattle.rsml_syntax.specs.declared.syntax.Index.TheVariants as indices
use Rattle.rsml_syntax.specs.declared.syntax.Initial.TheVariants as initials
use Rattle.rsml_syntax.specs.declared.syntax.Mention.{Mention}
use Rattle.rsml_syntax.specs.declared.syntax.Operand.{Operand}
use Rattle.rsml_syntax.specs.declared.syntax.Operand.TheVariants as operands
use Rattle.rsml_syntax.specs.declared.syntax.Phrase.{Phrase}
use Rattle.rsml_syntax.specs.declared.syntax.Phrase.TheVariants as phrases
use Rattle.rsml_syntax.specs.declared.syntax.Relation.TheVariants as relations
use Rattle.rsml_syntax.specs.declared.syntax.Row.{Row}
use Rattle.rsml_syntax.specs.declared.syntax.Signed.{Signed}
use Rattle.rsml_syntax.specs.declared.syntax.Simple.{Simple}
use Rattle.rsml_syntax.specs.declared.syntax.Simple.TheVariants as simples
use Rattle.rsml_syntax.specs.declared.syntax.StateDecl.{StateDecl}
use Rattle.rsml_syntax.specs.declared.syntax.Sum.{Sum}
use Rattle.rsml_syntax.specs.declared.syntax.Transition.{Transition}

-- Sizes and mentions.

-- `[n]`, or after `of`
abbrev pub of : ℕ → Amount
of n = amounts.Number n

-- a number without a sign
abbrev pub plus : ℕ → Signed
plus n = record { minus = false; digits = n }

-- a name
abbrev pub plain : String → Mention
plain name = record { name = codes name; index = None }

-- a name at the variable of a quantifier
abbrev pub at : String → String → Mention
at name variable = record { name = codes name; index = Some (indices.Name (codes variable)) }

-- a name at the index of what it stands in
abbrev pub at_this : String → Mention
at_this name = record { name = codes name; index = Some indices.This }

-- Phrases, rows and tables.

-- one operand
abbrev pub just : Operand → Sum
just o = record { terms = record { minus = false; operand = o } ∷ [] }

-- an input is so much, or more
abbrev pub is_at_least : Mention → ℕ → Simple
is_at_least input n = simples.Compare (just (operands.Mention input)) relations.GreaterEqual (just (operands.Number n))

-- a state is active
abbrev pub in_state : List Mention → Simple
in_state path = simples.In path

-- a macro is true
abbrev pub macro_is_true : String → Simple
macro_is_true name = simples.Macro (plain name)

-- a phrase without a quantifier
abbrev pub phrase : Simple → Phrase
phrase says = phrases.Plain says

-- a phrase that is to hold for every value of a variable
abbrev pub every : String → ℕ → Simple → Phrase
every variable n says = phrases.Every (codes variable) (of n) says

-- a phrase that is to hold for some value of a variable
abbrev pub some : String → ℕ → Simple → Phrase
some variable n says = phrases.Any (codes variable) (of n) says

-- a phrase and its cells
abbrev pub row : Phrase → List Cell → Row
row says cells = record { phrase = says; cells = cells }

-- a table of rows
abbrev pub table : List Row → Guard
table rows = guards.Table rows

-- Declarations.

abbrev pub range : String → ℕ → ℕ → Decl
range name low high = decl.Range (codes name) (plus low) (plus high)

abbrev pub input : String → ℕ → String → ℕ → Decl
input name size type_name initial = decl.Input (codes name) (Some (of size)) (codes type_name) (initials.Number (plus initial))

abbrev pub event : String → Decl
event name = decl.Event (codes name) None

abbrev pub macro : String → List Row → Decl
macro name rows = decl.Macro (codes name) None rows

abbrev pub receive : String → ℕ → List Mention → String → Decl
receive name size inputs raised = decl.Receive (codes name) (Some (of size)) inputs (plain raised)

-- States and transitions.

abbrev pub state : String → Body → StateDecl
state name body = record { name = codes name; size = None; body = body }

abbrev pub array : String → ℕ → Body → StateDecl
array name size body = record { name = codes name; size = Some (of size); body = body }

-- how many children there are, and the row that they are
abbrev pub shape : List StateDecl → List (Unit {0})
shape [] = []
shape (c ∷ cs) = tt ∷ shape cs

abbrev pub row_of : (cs : List StateDecl) → Row_of-StateDecl (list_count child_former (shape cs) none_left)
row_of [] = end_of-StateDecl
row_of (c ∷ cs) = more_of-StateDecl c.name c.size c.body (row_of cs)

-- a state all of whose children are active
abbrev pub all : List StateDecl → Body
all children = All' (shape children) (row_of children)

-- a state of which one child is active, without buses
abbrev pub one : String → List StateDecl → List Transition → Body
one default children transitions = One' (codes default) (shape children) (row_of children) [] transitions

-- a move from a child to another
abbrev pub move : String → String → String → Guard → Transition
move source target trigger guard =
    record { source = codes source; target = Some (codes target ∷ []); trigger = plain trigger; guard = guard; raises = [] }

-- a transition that changes no child
abbrev pub stay : String → String → Guard → Transition
stay source trigger guard = record { source = codes source; target = None; trigger = plain trigger; guard = guard; raises = [] }
