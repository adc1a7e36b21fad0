-- The kinds of sums, and which of them may be compared (S7).
use Rattle.std.specs.Prelude.{Bool, true, false, ◌&&◌, ◌||◌, List, [], ◌∷◌, Option, Some, None, if◌then◌else◌, is_some}
use Rattle.std.specs.List.{list_all}
use Rattle.std.specs.Option.{option_map_or, option_and_then}
use Rattle.rsml_syntax.specs.declared.syntax.Relation.{Relation}
use Rattle.rsml_syntax.specs.declared.syntax.Relation.TheVariants as relations
use Rattle.rsml_syntax.specs.declared.syntax.Operand.{Operand}
use Rattle.rsml_syntax.specs.declared.syntax.Operand.TheVariants as operands
use Rattle.rsml_syntax.specs.declared.syntax.Term.{Term}
use Rattle.rsml_syntax.specs.declared.syntax.Sum.{Sum}
use Rattle.rsml_syntax.specs.declared.syntax.Simple.{Simple}
use Rattle.rsml_syntax.specs.declared.syntax.Simple.TheVariants as simples
use Rattle.rsml_syntax.specs.declared.syntax.Case.{Case}
use Rattle.rsml_syntax.specs.declared.syntax.Decl.TheVariants as decl
use Rattle.rsml_syntax.specs.text.Names.{Name, same}
use Rattle.rsml_syntax.specs.rules.Globals.{Known, Globals, meaning}

-- numbers, or the values of an enumeration
pub data Kind : Type 0 where
  Numbers : Kind
  Values : Name → Kind

-- two kinds are one
abbrev pub same_kind : Kind → Kind → Bool
same_kind Numbers Numbers = true
same_kind (Values a) (Values b) = same a b
same_kind _ _ = false

-- the kind is that of numbers
abbrev pub is_numbers : Option Kind → Bool
is_numbers (Some Numbers) = true
is_numbers _ = false

-- the kind of an input of this type
abbrev pub type_kind : Known → Option Kind
type_kind k = elim k.decl [ decl.Range _ _ _ ↦ Some Numbers | decl.Enumeration name _ ↦ Some (Values name) | _ ↦ None ]

-- the kind of a constant, of an enumeration and each of its values, of an input
abbrev pub kind_of : Globals → Known → Option Kind
kind_of g k = elim k.decl [ decl.Constant _ _ ↦ Some Numbers | decl.Enumeration name _ ↦ Some (Values name) | decl.Input _ _ kind _ ↦ option_and_then type_kind (meaning g kind) | _ ↦ None ]

-- the kind of a name
abbrev pub name_kind : Globals → Name → Option Kind
name_kind g name = option_and_then (kind_of g) (meaning g name)

-- the kind of an operand: `previous X` has that of X
abbrev pub operand_kind : Globals → Operand → Option Kind
operand_kind g (operands.Number _) = Some Numbers
operand_kind g (operands.Mention m) = name_kind g m.name
operand_kind g (operands.Previous m) = name_kind g m.name

-- the kind of one operand without a minus
abbrev pub single_kind : Globals → List Term → Option Kind
single_kind g (t ∷ []) = if t.minus then None else operand_kind g t.operand
single_kind g _ = None

-- numbers where all operands are, else that of its one operand, else none
abbrev pub sum_kind : Globals → Sum → Option Kind
sum_kind g sum = if list_all (λ t. is_numbers (operand_kind g t.operand)) sum.terms then Some Numbers else single_kind g sum.terms

-- a sum has a kind
abbrev pub has_kind : Globals → Sum → Bool
has_kind g sum = is_some (sum_kind g sum)

-- there are two kinds, and they are the same
abbrev pub are_alike : Option Kind → Option Kind → Bool
are_alike (Some a) (Some b) = same_kind a b
are_alike _ _ = false

-- `=` or `!=`
abbrev pub is_equation : Relation → Bool
is_equation relations.Equal = true
is_equation relations.NotEqual = true
is_equation _ = false

-- two kinds may be compared so: values of an enumeration are not ordered
abbrev pub may_compare : Option Kind → Relation → Option Kind → Bool
may_compare a relation b = are_alike a b && (is_numbers a || is_equation relation)

-- the cases of a function
abbrev pub cases_of : Known → List Case
cases_of k = elim k.decl [ decl.Function _ _ cases ↦ cases | _ ↦ [] ]

-- the cases of the function of this name
abbrev pub function_cases : Globals → Name → List Case
function_cases g name = option_map_or cases_of (meaning g name) []

-- a function is compared by the kind of its first case; where it has none, the other side must have a kind
abbrev pub function_may_compare : Globals → List Case → Relation → Option Kind → Bool
function_may_compare g [] relation kind = is_some kind
function_may_compare g (c ∷ cs) relation kind = may_compare (sum_kind g c.value) relation kind

-- S7: the kinds in a phrase are right
abbrev pub kinds_match : Globals → Simple → Bool
kinds_match g (simples.In _) = true
kinds_match g (simples.Macro _) = true
kinds_match g (simples.Compare left relation right) = may_compare (sum_kind g left) relation (sum_kind g right)
kinds_match g (simples.Function f relation right) = function_may_compare g (function_cases g f.name) relation (sum_kind g right)

-- the cases of a function are of one kind
abbrev pub cases_alike : Globals → List Case → Bool
cases_alike g [] = true
cases_alike g (c ∷ cs) = list_all (λ d. are_alike (sum_kind g c.value) (sum_kind g d.value)) cs
