-- Keys with truths, rows of inequalities that the numbers of cells meet where comparisons have these truths, and steps of a search
-- for the constant true. No public clause speaks of these.
use Rattle.std.specs.Prelude.{◌≡◌, ℕ, ◌<◌, Bool, true, false, if◌then◌else◌, List, [], ◌∷◌, All, Contains, length, flat_map, Option, Some, IfSome, slice_get, ◌≤◌, slice_index_or, ℤ, pos, neg_ℤ, ◌+ℤ◌, ◌≤ℤ◌}
use mathlib.Core.Bool.{beq}
use Rattle.linear_conflicts.specs.declared.term.Term.{Term}
use Rattle.linear_conflicts.specs.declared.row.Row.{Row}
use Rattle.linear_conflicts.specs.declared.range.Range.{Range}
use Rattle.linear_conflicts.specs.Rows.{AreWithin, Meets}
use Rattle.rsml_meaning.specs.Words.{Each}
use Rattle.rsml_syntax.specs.declared.syntax.Relation.{Relation}
use Rattle.rsml_syntax.specs.rules.Relations.{compare}
use Rattle.rsml_ground.specs.declared.sums.GroundOperand.{GroundOperand}
use Rattle.rsml_ground.specs.declared.sums.GroundOperand.TheVariants as operands
use Rattle.rsml_ground.specs.declared.sums.GroundTerm.{GroundTerm}
use Rattle.rsml_ground.specs.declared.sums.GroundSum.{GroundSum}
use Rattle.rsml_ground.specs.Rests.{IsSmall}
use Rattle.rsml_ground.specs.Truths.{operand_number, sum_number}
use Rattle.bdd_core.specs.Diagram.{Diagram, IsRef, meaning}
use Rattle.keyed_levels.specs.Keyed.{KeyedWorlds, key_at, keys_of, world_at}
use Rattle.settled_worlds.specs.declared.literal.Literal.{Literal}
use Rattle.settled_worlds.specs.declared.paths.Step.{Step}
use Rattle.settled_worlds.specs.declared.rows.Rows.{Rows}

-- Steps.

-- what stands past the last step
abbrev pub no_step : Step
no_step = record { function = 0; from = 0; level = 0; value = false }

-- the step at a place
abbrev pub step_at : List Step → ℕ → Step
step_at steps place = slice_index_or steps place no_step

-- each step but the first comes from one before it
abbrev pub LeadBack : List Step → Type 0
LeadBack steps = (i : ℕ) → 0 < i → i < length steps → (step_at steps i).from < i

-- and each is a function of the arena
pub record AreSteps (d : Diagram) (steps : List Step) : Type 0 where
  pub refs : (i : ℕ) → i < length steps → IsRef d (step_at steps i).function
  pub back : LeadBack steps

-- Literals.

-- the key is there
abbrev pub IsThere : KeyedWorlds → Literal → Type 0
IsThere k literal = literal.place < length k.keyed

-- what stands past the last literal
abbrev pub no_literal : Literal
no_literal = record { place = 0; truth = false }

-- the literal at a place
abbrev pub literal_at : List Literal → ℕ → Literal
literal_at literals place = slice_index_or literals place no_literal

-- the comparison has this truth in the world that the values spell
abbrev pub IsSo : KeyedWorlds → (ℕ → Bool) → Literal → Type 0
IsSo k values literal = (keys_of k).function literal.place values ≡ literal.truth

-- the level of the key has this value
abbrev pub HasValue : KeyedWorlds → (ℕ → Bool) → Literal → Type 0
HasValue k values literal = values (key_at k.keyed literal.place).level ≡ literal.truth

-- Rows.

-- the numbers of cells, 0 past the last
abbrev pub numbers_of : List ℤ → ℕ → ℤ
numbers_of cells cell = slice_index_or cells cell (pos 0)

-- those in the world that the values spell
abbrev pub numbers_at : KeyedWorlds → (ℕ → Bool) → ℕ → ℤ
numbers_at k values = numbers_of (world_at k values).cells

-- at most eight terms, whose numbers are small
pub record IsSmallSum (x : GroundSum) : Type 0 where
  pub few : length x.terms ≤ 8
  pub numbers : Each (λ t. IsSmall (operand_number [] t.operand)) x.terms

-- the cell of an operand, times a factor; a number has none
abbrev pub operand_terms : ℤ → GroundOperand → List Term
operand_terms factor (operands.Number n) = []
operand_terms factor (operands.Cell cell) = record { variable = cell; factor = factor } ∷ []

-- the cell of a term with its sign, or where `minus` with the other sign
abbrev pub term_terms : Bool → GroundTerm → List Term
term_terms minus t = operand_terms (if beq t.minus minus then pos 1 else neg_ℤ (pos 1)) t.operand

-- the cells of a sum
abbrev pub sum_terms : Bool → GroundSum → List Term
sum_terms minus x = flat_map (term_terms minus) x.terms

-- where the relation has this truth, the first number is at most so far above the second
abbrev pub IsMargin : Relation → Bool → ℤ → Type 0
IsMargin relation truth margin = (x y : ℤ) → compare relation x y ≡ truth → x ≤ℤ (y +ℤ margin)

-- the row is met where the first sum is at most so far above the second
abbrev pub IsRowOf : GroundSum → GroundSum → ℤ → Row → Type 0
IsRowOf first second margin row =
    (cells : List ℤ) → sum_number cells first ≤ℤ (sum_number cells second +ℤ margin) → Meets (numbers_of cells) row

-- each row is met where its literal is so
pub record AreRows (k : KeyedWorlds) (r : Rows) : Type 0 where
  pub many : length r.literals.items ≡ length r.rows.items
  pub there : All (IsThere k) r.literals.items
  pub met : (i : ℕ) (row : Row) → slice_get r.rows.items i ≡ Some row → (values : ℕ → Bool) → IsSo k values (literal_at r.literals.items i)
      → Meets (numbers_at k values) row

-- where the literal is so, the first sum is at most so far above the second, if there is a margin
abbrev pub HasMargin : KeyedWorlds → Literal → GroundSum → Option ℤ → GroundSum → Type 0
HasMargin k literal first margin second = (values : ℕ → Bool) → IsSo k values literal
    → IfSome margin (λ m. sum_number (world_at k values).cells first ≤ℤ (sum_number (world_at k values).cells second +ℤ m))

-- then the rows with one more are such rows
abbrev pub Adds : Literal → GroundSum → Option ℤ → GroundSum → Rows → Rows → Type 0
Adds literal first margin second old new =
    (k : KeyedWorlds) → AreRows k old → IsThere k literal → HasMargin k literal first margin second → AreRows k new

-- Ranges.

-- the number of the cell is within the range in each world
abbrev pub IsRangeOf : KeyedWorlds → ℕ → Range → Type 0
IsRangeOf k cell range = (values : ℕ → Bool) → (range.low ≤ℤ numbers_at k values cell) × (numbers_at k values cell ≤ℤ range.high)

-- so is that of each cell
abbrev pub HoldWorlds : KeyedWorlds → List Range → Type 0
HoldWorlds k ranges = (values : ℕ → Bool) → AreWithin ranges (numbers_at k values)

-- Values taken off.

-- r is false only where the level of the key has this value
pub record IsUnlike (k : KeyedWorlds) (literal : Literal) (d : Diagram) (r : ℕ) : Type 0 where
  pub is_ref : IsRef d r
  pub unless : (values : ℕ → Bool) → meaning d r values ≡ false → HasValue k values literal

-- the literals at these places have their values
abbrev pub HaveValues : KeyedWorlds → List Literal → List ℕ → (ℕ → Bool) → Type 0
HaveValues k literals places values = (place : ℕ) → Contains places place → HasValue k values (literal_at literals place)

-- r is what f is, but where the literals at these places have their values
pub record IsWithout (k : KeyedWorlds) (literals : List Literal) (places : List ℕ) (old new : Diagram) (f r : ℕ) : Type 0 where
  pub is_ref : IsRef new r
  pub same : (values : ℕ → Bool) → (HaveValues k literals places values → ⊥) → meaning new r values ≡ meaning old f values
