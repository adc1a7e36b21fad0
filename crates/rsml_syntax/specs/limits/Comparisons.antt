-- Ground comparisons: those of all tables, read once for each instance and each value of a quantifier's variable.
use Rattle.std.specs.Prelude.{ℕ, Bool, true, false, not, ◌&&◌, ◌==◌, List, [], ◌∷◌, map, flat_map, Option, Some, None, if◌then◌else◌, ℤ, pos, unsigned_abs}
use Rattle.std.specs.Option.{option_map_or}
use Rattle.std.specs.Ordering.{int_eq}
use Rattle.rsml_syntax.specs.declared.syntax.Index.{Index}
use Rattle.rsml_syntax.specs.declared.syntax.Index.TheVariants as index
use Rattle.rsml_syntax.specs.declared.syntax.Mention.{Mention}
use Rattle.rsml_syntax.specs.declared.syntax.Relation.{Relation}
use Rattle.rsml_syntax.specs.declared.syntax.Operand.{Operand}
use Rattle.rsml_syntax.specs.declared.syntax.Operand.TheVariants as operands
use Rattle.rsml_syntax.specs.declared.syntax.Sum.{Sum}
use Rattle.rsml_syntax.specs.declared.syntax.Simple.{Simple}
use Rattle.rsml_syntax.specs.declared.syntax.Simple.TheVariants as simples
use Rattle.rsml_syntax.specs.declared.syntax.Phrase.{Phrase}
use Rattle.rsml_syntax.specs.declared.syntax.Phrase.TheVariants as phrases
use Rattle.rsml_syntax.specs.declared.syntax.Row.{Row}
use Rattle.rsml_syntax.specs.text.Names.{Name, same}
use Rattle.rsml_syntax.specs.rules.Globals.{Globals, size_of, meaning, constant, number_of, many, indices, up_to}
use Rattle.rsml_syntax.specs.grammar.Written.{rows_of, rows_in}
use Rattle.rsml_syntax.specs.grammar.Parts.{Part, Declared, Opens, Closes, nearer, transitions_of}
use Rattle.rsml_syntax.specs.rules.Uses.{is_input}
use Rattle.rsml_syntax.specs.rules.Kinds.{function_cases}

-- What the indices stand for in one reading of a row.
pub record Indices : Type 0 where
  pub this : ℕ
  pub variable : Option (Name × ℕ)

-- the value of the variable of this name
abbrev pub variable_value : Indices → Name → Option ℕ
variable_value r name = option_map_or (λ v. if same v.0 name then Some v.1 else None) r.variable None

-- The number of an index, 0 where there is none. Where a rule is broken: an unknown name counts as 0, a negative constant as
-- its absolute value.
abbrev pub index_number : Globals → Indices → Option Index → ℕ
index_number g r None = 0
index_number g r (Some (index.Number n)) = n
index_number g r (Some (index.Name name)) = option_map_or (λ n. n) (variable_value r name) (option_map_or unsigned_abs (constant g name) 0)
index_number g r (Some index.This) = r.this

-- GROUND SUMS

-- A cell: the number of an input at an index, or its previous number.
pub record InputCell : Type 0 where
  pub previous : Bool
  pub input : Name
  pub at : ℕ

-- What an operand is in one reading: a number, or a cell.
pub data Ground : Type 0 where
  OfNumber : ℤ → Ground
  OfCell : InputCell → Ground

-- the terms of a sum, each with whether it has a minus
abbrev pub GroundSum : Type 0
GroundSum = List (Bool × Ground)

-- the cell that a mention of an input is
abbrev pub cell_of : Globals → Indices → Bool → Mention → Ground
cell_of g r previous m = OfCell (record { previous = previous; input = m.name; at = index_number g r m.index })

-- an input is its cell, a constant and a value of an enumeration are their numbers
abbrev pub ground : Globals → Indices → Operand → Ground
ground g r (operands.Number n) = OfNumber (pos n)
ground g r (operands.Mention m) = option_map_or (λ k. if is_input k then cell_of g r false m else OfNumber (number_of k)) (meaning g m.name) (OfNumber (pos 0))
ground g r (operands.Previous m) = cell_of g r true m

-- the terms of a sum with what they are in this reading
abbrev pub ground_sum : Globals → Indices → Sum → GroundSum
ground_sum g r sum = map (λ t. (t.minus, ground g r t.operand)) sum.terms

-- both true, or both false
abbrev pub same_truth : Bool → Bool → Bool
same_truth a b = if a then b else not b

-- one cell
abbrev pub same_cell : InputCell → InputCell → Bool
same_cell a b = same_truth a.previous b.previous && (a.at == b.at && same a.input b.input)

-- one number, or one cell
abbrev pub same_ground : Ground → Ground → Bool
same_ground (OfNumber a) (OfNumber b) = int_eq a b
same_ground (OfCell a) (OfCell b) = same_cell a b
same_ground _ _ = false

-- one sign, and one operand
abbrev pub same_term : Bool × Ground → Bool × Ground → Bool
same_term a b = same_truth a.0 b.0 && same_ground a.1 b.1

-- GROUND COMPARISONS

-- Two ground sums and the relation between them.
pub record Comparison : Type 0 where
  pub left : GroundSum
  pub relation : Relation
  pub right : GroundSum

-- the comparison of these
abbrev pub comparison_of : GroundSum → Relation → GroundSum → Comparison
comparison_of left relation right = record { left = left; relation = relation; right = right }

-- a function is read as the values of its cases, in its own instance
abbrev pub comparisons_in : Globals → Indices → Simple → List Comparison
comparisons_in g r (simples.In _) = []
comparisons_in g r (simples.Macro _) = []
comparisons_in g r (simples.Compare left relation right) = comparison_of (ground_sum g r left) relation (ground_sum g r right) ∷ []
comparisons_in g r (simples.Function f relation right) =
    map
    (λ c. comparison_of (ground_sum g (record { this = index_number g r f.index; variable = None }) c.value) relation (ground_sum g r right))
    (function_cases g f.name)

-- a quantified phrase is read for each value of its variable
abbrev pub phrase_comparisons : Globals → ℕ → Phrase → List Comparison
phrase_comparisons g this (phrases.Plain body) = comparisons_in g (record { this = this; variable = None }) body
phrase_comparisons g this (phrases.Any x bound body) = flat_map (λ n. comparisons_in g (record { this = this; variable = Some (x, n) }) body) (up_to (many g (Some bound)))
phrase_comparisons g this (phrases.Every x bound body) = flat_map (λ n. comparisons_in g (record { this = this; variable = Some (x, n) }) body) (up_to (many g (Some bound)))

-- the comparisons of rows in the instance of this index
abbrev pub rows_comparisons : Globals → List Row → ℕ → List Comparison
rows_comparisons g rows this = flat_map (λ row. phrase_comparisons g this row.phrase) rows

-- the comparisons of a part, once for each of its instances
abbrev pub comparisons : Globals → Part → List Comparison
comparisons g (Declared _ d) = flat_map (rows_comparisons g (rows_in d)) (indices g (size_of d))
comparisons g (Opens _) = []
comparisons g (Closes s) = flat_map (rows_comparisons g (flat_map (λ t. rows_of t.guard) (transitions_of s.body))) (indices g (nearer s.size s.array))
