-- Words to write specifications with: each example's text stands above it, in its own notation.
use Rattle.std.specs.Prelude.{ℕ, zero, suc, true, false, List, [], ◌∷◌, ◌++◌, map, replicate, Option, Some, None, if◌then◌else◌, ◌==◌, codes}
use Prim.Native.String.{String}
use Rattle.rsml_syntax.specs.declared.syntax.Amount.{Amount}
use Rattle.rsml_syntax.specs.declared.syntax.Amount.TheVariants as amounts
use Rattle.rsml_syntax.specs.declared.syntax.Index.TheVariants as indices
use Rattle.rsml_syntax.specs.declared.syntax.Signed.{Signed}
use Rattle.rsml_syntax.specs.declared.syntax.Initial.{Initial}
use Rattle.rsml_syntax.specs.declared.syntax.Initial.TheVariants as initials
use Rattle.rsml_syntax.specs.declared.syntax.Mention.{Mention}
use Rattle.rsml_syntax.specs.declared.syntax.Operand.{Operand}
use Rattle.rsml_syntax.specs.declared.syntax.Operand.TheVariants as operands
use Rattle.rsml_syntax.specs.declared.syntax.Term.{Term}
use Rattle.rsml_syntax.specs.declared.syntax.Sum.{Sum}
use Rattle.rsml_syntax.specs.declared.syntax.Relation.{Relation}
use Rattle.rsml_syntax.specs.declared.syntax.Simple.{Simple}
use Rattle.rsml_syntax.specs.declared.syntax.Simple.TheVariants as simples
use Rattle.rsml_syntax.specs.declared.syntax.Phrase.TheVariants as phrases
use Rattle.rsml_syntax.specs.declared.syntax.Cell.{Cell}
use Rattle.rsml_syntax.specs.declared.syntax.Cell.TheVariants as cells
use Rattle.rsml_syntax.specs.declared.syntax.Row.{Row}
use Rattle.rsml_syntax.specs.declared.syntax.Guard.{Guard}
use Rattle.rsml_syntax.specs.declared.syntax.Guard.TheVariants as guards
use Rattle.rsml_syntax.specs.declared.syntax.Value.{Value}
use Rattle.rsml_syntax.specs.declared.syntax.Value.TheVariants as values
use Rattle.rsml_syntax.specs.declared.syntax.Answer.{Answer}
use Rattle.rsml_syntax.specs.declared.syntax.Answer.TheVariants as answers
use Rattle.rsml_syntax.specs.declared.syntax.Case.{Case}
use Rattle.rsml_syntax.specs.declared.syntax.SendCase.{SendCase}
use Rattle.rsml_syntax.specs.declared.syntax.Decl.{Decl}
use Rattle.rsml_syntax.specs.declared.syntax.Decl.TheVariants as decl
use Rattle.rsml_syntax.specs.declared.syntax.Bus.{Bus}
use Rattle.rsml_syntax.specs.declared.syntax.Transition.{Transition}
use Rattle.rsml_syntax.specs.declared.syntax.Body.{Body, One', All', Row_of-StateDecl, end_of-StateDecl, more_of-StateDecl}
use Rattle.rsml_syntax.specs.declared.syntax.Spec.{Spec}
use Rattle.rsml_syntax.specs.text.Names.{Name}
use Rattle.rsml_syntax.specs.rules.Breaches.{Breach}
use mathlib.Core.Former.{none_left, list_count, this as child_former}

-- SIZES, MENTIONS, SUMS

abbrev pub up_to : ℕ → Amount
up_to n = amounts.Number n

abbrev pub up_to_constant : String → Amount
up_to_constant x = amounts.Name (codes x)

abbrev pub plus : ℕ → Signed
plus n = record { minus = false; digits = n }

abbrev pub minus : ℕ → Signed
minus n = record { minus = true; digits = n }

abbrev pub plain : String → Mention
plain x = record { name = codes x; index = None }

abbrev pub at : String → ℕ → Mention
at x n = record { name = codes x; index = Some (indices.Number n) }

abbrev pub by : String → String → Mention
by x i = record { name = codes x; index = Some (indices.Name (codes i)) }

abbrev pub this : String → Mention
this x = record { name = codes x; index = Some indices.This }

abbrev pub number : ℕ → Operand
number n = operands.Number n

abbrev pub name : Mention → Operand
name m = operands.Mention m

abbrev pub previous : Mention → Operand
previous m = operands.Previous m

abbrev pub more : Operand → Term
more o = record { minus = false; operand = o }

abbrev pub less : Operand → Term
less o = record { minus = true; operand = o }

abbrev pub sum : List Term → Sum
sum ts = record { terms = ts }

abbrev pub single : Operand → Sum
single o = sum (more o ∷ [])

abbrev pub the : String → Sum
the x = single (name (plain x))

abbrev pub num : ℕ → Sum
num n = single (number n)

-- 1 + 1 + .. + 1, with n terms
abbrev pub ones : ℕ → Sum
ones n = sum (replicate n (more (number 1)))

-- TABLES

abbrev pub in_state : List Mention → Simple
in_state path = simples.In path

abbrev pub holds : Mention → Simple
holds m = simples.Macro m

abbrev pub compare : Sum → Relation → Sum → Simple
compare left relation right = simples.Compare left relation right

abbrev pub function_is : Mention → Relation → Sum → Simple
function_is f relation right = simples.Function f relation right

-- the cells that are written so
abbrev pub cells_of : List ℕ → List Cell
cells_of [] = []
cells_of (c ∷ cs) = (if c == 84 then cells.T else if c == 70 then cells.F else cells.Dot) ∷ cells_of cs

abbrev pub row : Simple → String → Row
row s cs = record { phrase = phrases.Plain s; cells = cells_of (codes cs) }

abbrev pub some : String → Amount → Simple → String → Row
some x bound s cs = record { phrase = phrases.Any (codes x) bound s; cells = cells_of (codes cs) }

abbrev pub every : String → Amount → Simple → String → Row
every x bound s cs = record { phrase = phrases.Every (codes x) bound s; cells = cells_of (codes cs) }

abbrev pub always : Guard
always = guards.Always

abbrev pub table : List Row → Guard
table rows = guards.Table rows

-- DECLARATIONS

abbrev pub names : List String → List Name
names xs = map codes xs

abbrev pub enumeration : String → List String → Decl
enumeration x values = decl.Enumeration (codes x) (names values)

abbrev pub range : String → Signed → Signed → Decl
range x low high = decl.Range (codes x) low high

abbrev pub constant : String → Signed → Decl
constant x n = decl.Constant (codes x) n

abbrev pub from : Signed → Initial
from n = initials.Number n

abbrev pub from_name : String → Initial
from_name x = initials.Name (codes x)

abbrev pub input : String → Option Amount → String → Initial → Decl
input x size kind initial = decl.Input (codes x) size (codes kind) initial

abbrev pub event : String → Option Amount → Decl
event x size = decl.Event (codes x) size

abbrev pub macro : String → Option Amount → List Row → Decl
macro x size rows = decl.Macro (codes x) size rows

abbrev pub case : Sum → Guard → Case
case value guard = record { value = value; guard = guard }

abbrev pub function : String → Option Amount → List Case → Decl
function x size cases = decl.Function (codes x) size cases

abbrev pub receive : String → Option Amount → List Mention → Mention → Decl
receive x size inputs raised = decl.Receive (codes x) size inputs raised

abbrev pub sent : Sum → Value
sent s = values.Sum s

abbrev pub given : Mention → Value
given f = values.Function f

abbrev pub quiet : Answer
quiet = answers.Quiet

abbrev pub answer : List Value → Answer
answer vs = answers.Values vs

abbrev pub on : Mention → Guard → Answer → SendCase
on trigger guard a = record { trigger = trigger; guard = guard; answer = a }

abbrev pub send : String → Option Amount → List String → List SendCase → Decl
send x size fields cases = decl.Send (codes x) size (names fields) cases

-- `range R 0 .. 9; input X : R = 0;`
abbrev pub unarrayed : List Decl → List Decl
unarrayed decls = range "R" (plus 0) (plus 9) ∷ input "X" None "R" (from (plus 0)) ∷ decls

-- `range R 0 .. 9; input X [2] : R = 0;`
abbrev pub arrayed : List Decl → List Decl
arrayed decls = range "R" (plus 0) (plus 9) ∷ input "X" (Some (up_to 2)) "R" (from (plus 0)) ∷ decls

-- `enumeration Switch { Down, Up } input Lever : Switch = Down;`
abbrev pub switched : List Decl → List Decl
switched decls = enumeration "Switch" ("Down" ∷ "Up" ∷ []) ∷ input "Lever" None "Switch" (from_name "Down") ∷ decls

-- STATES

pub record Child : Type 0 where
  pub name : Name
  pub size : Option Amount
  pub body : Body

abbrev pub state : String → Body → Child
state x body = record { name = codes x; size = None; body = body }

abbrev pub array : String → Amount → Body → Child
array x size body = record { name = codes x; size = Some size; body = body }

abbrev pub shape : List Child → List (Unit {0})
shape [] = []
shape (c ∷ cs) = tt ∷ shape cs

abbrev pub row_of : (cs : List Child) → Row_of-StateDecl (list_count child_former (shape cs) none_left)
row_of [] = end_of-StateDecl
row_of (c ∷ cs) = more_of-StateDecl c.name c.size c.body (row_of cs)

abbrev pub all : List Child → Body
all children = All' (shape children) (row_of children)

abbrev pub one : String → List Child → List Bus → List Transition → Body
one first children buses transitions = One' (codes first) (shape children) (row_of children) buses transitions

abbrev pub bus : String → List String → Bus
bus x members = record { name = codes x; members = names members }

abbrev pub move : String → List String → Mention → Guard → List Mention → Transition
move source target trigger guard raises = record { source = codes source; target = Some (names target); trigger = trigger; guard = guard; raises = raises }

abbrev pub stay : String → Mention → Guard → List Mention → Transition
stay source trigger guard raises = record { source = codes source; target = None; trigger = trigger; guard = guard; raises = raises }

-- SPECIFICATIONS

abbrev pub specification : String → List Decl → String → Body → Spec
specification x decls top body = record { name = codes x; decls = decls; top = codes top; body = body }

-- `specification A; .. state A ..`
abbrev pub spec : List Decl → Body → Spec
spec decls body = specification "A" decls "A" body

-- the rule that is shown, and its name
abbrev pub shown : ℕ → String → Option Breach
shown rule x = Some (record { rule = rule; shown = codes x })

-- 1 to n
abbrev pub numbers : ℕ → List ℕ
numbers zero = []
numbers (suc n) = numbers n ++ (suc n ∷ [])
