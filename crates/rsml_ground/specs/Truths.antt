-- What sums, guards, definitions and phrases over numbers say in a world.
use Rattle.std.specs.Prelude.{ℕ, Bool, true, false, List, [], ◌∷◌, ◌++◌, Option, Some, if◌then◌else◌, ℤ, pos, neg_ℤ, ◌+ℤ◌, fold, flat_map, slice_get, slice_index_or}
use Rattle.std.specs.List.{list_any, list_all}
use Rattle.rsml_syntax.specs.declared.syntax.Spec.{Spec}
use Rattle.rsml_syntax.specs.declared.world.World.{World}
use Rattle.rsml_syntax.specs.rules.Relations.{compare}
use Rattle.rsml_meaning.specs.Active.{active}
use Rattle.state_tree.specs.Numbers.{path_of}
use Rattle.and_or_tables.specs.Ground.{known, ground_table}
use Rattle.rsml_ground.specs.declared.sums.GroundOperand.{GroundOperand}
use Rattle.rsml_ground.specs.declared.sums.GroundOperand.TheVariants as operands
use Rattle.rsml_ground.specs.declared.sums.GroundTerm.{GroundTerm}
use Rattle.rsml_ground.specs.declared.sums.GroundSum.{GroundSum}
use Rattle.rsml_ground.specs.declared.definitions.GroundGuard.{GroundGuard}
use Rattle.rsml_ground.specs.declared.definitions.GroundGuard.TheVariants as guards
use Rattle.rsml_ground.specs.declared.definitions.GroundCase.{GroundCase}
use Rattle.rsml_ground.specs.declared.definitions.Definition.{Definition}
use Rattle.rsml_ground.specs.declared.definitions.Definition.TheVariants as definition
use Rattle.rsml_ground.specs.declared.phrases.GroundPhrase.{GroundPhrase}
use Rattle.rsml_ground.specs.declared.phrases.GroundPhrase.TheVariants as phrases

-- A specification with its phrases, each of which has its place as its number, and its macro and function instances over
-- those numbers.
pub record Grounded : Type 0 where
  pub spec : Spec
  pub phrases : List GroundPhrase
  pub definitions : List Definition

-- Sums, of the numbers that the cells hold.

-- a number, or what the cell holds
abbrev pub operand_number : List ℤ → GroundOperand → ℤ
operand_number cells (operands.Number n) = n
operand_number cells (operands.Cell cell) = slice_index_or cells cell (pos 0)

-- the number of a term, with its sign
abbrev pub term_number : List ℤ → GroundTerm → ℤ
term_number cells t = if t.minus then neg_ℤ (operand_number cells t.operand) else operand_number cells t.operand

-- the sum of the signed terms
abbrev pub sum_number : List ℤ → GroundSum → ℤ
sum_number cells x = fold (λ a t. a +ℤ term_number cells t) (pos 0) x.terms

-- Guards and definitions, of the truths of the phrases.

-- the truth of a guard
abbrev pub guard_truth : List Bool → GroundGuard → Bool
guard_truth truths guards.Always = true
guard_truth truths (guards.Table table) = ground_table truths table

-- the values of the cases with a true guard
abbrev pub case_values : List ℤ → List Bool → List GroundCase → List ℤ
case_values cells truths cases = flat_map (λ c. if guard_truth truths c.guard then sum_number cells c.value ∷ [] else []) cases

-- the truth of a macro's table; a function has none
abbrev pub macro_truth : List Bool → Option Definition → Bool
macro_truth truths (Some (definition.Macro table)) = ground_table truths table
macro_truth truths _ = false

-- the values of a function's cases with a true guard; a macro has none
abbrev pub function_values : List ℤ → List Bool → Option Definition → List ℤ
function_values cells truths (Some (definition.Function cases)) = case_values cells truths cases
function_values cells truths _ = []

-- the first of these values, 0 where there is none
abbrev pub first_value : List ℤ → ℤ
first_value [] = pos 0
first_value (n ∷ ns) = n

-- Phrases.

-- the state of this number is active
abbrev pub is_active : Spec → World → ℕ → Bool
is_active s w node = active s w (path_of s node)

-- the truth of a phrase in a world, by the truths of other phrases
abbrev pub phrase_truth : Grounded → World → List Bool → GroundPhrase → Bool
phrase_truth g w truths (phrases.In node) = is_active g.spec w node
phrase_truth g w truths (phrases.Macro number) = macro_truth truths (slice_get g.definitions number)
phrase_truth g w truths (phrases.Any numbers) = list_any (known truths) numbers
phrase_truth g w truths (phrases.Every numbers) = list_all (known truths) numbers
phrase_truth g w truths (phrases.Compare left relation right) = compare relation (sum_number w.cells left) (sum_number w.cells right)
phrase_truth g w truths (phrases.Function number relation constant) =
    list_any (λ x. compare relation x constant) (function_values w.cells truths (slice_get g.definitions number))

-- the truths of the first phrases with that of the next one, by those before it
abbrev pub with_next : Grounded → World → List Bool → GroundPhrase → List Bool
with_next g w truths phrase = truths ++ (phrase_truth g w truths phrase ∷ [])

-- the truths of the phrases in a world, each by those before it
abbrev pub truths_in : Grounded → World → List Bool
truths_in g w = fold (with_next g w) [] g.phrases

-- the value of a function in a world: that of the first case with a true guard, 0 where no guard is true
abbrev pub value_in : Grounded → World → ℕ → ℤ
value_in g w number = first_value (function_values w.cells (truths_in g w) (slice_get g.definitions number))
