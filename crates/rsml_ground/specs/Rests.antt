-- On what each phrase rests: on phrases before it alone, also through the tables of the macros and functions that it names.
-- And the sizes of tables and sums.
use Rattle.std.specs.Prelude.{◌≡◌, ℕ, ◌<◌, ◌≤◌, ◌&&◌, List, Some, length, slice_get, ℤ, pos, neg_ℤ, int_le, IsTrue, ⊤}
use Rattle.and_or_tables.specs.Shape.{IsTable, PhrasesBelow}
use Rattle.and_or_tables.specs.declared.ground.GroundTable.{GroundTable}
use Rattle.rsml_meaning.specs.Words.{Each}
use Rattle.rsml_ground.specs.declared.sums.GroundOperand.{GroundOperand}
use Rattle.rsml_ground.specs.declared.sums.GroundOperand.TheVariants as operands
use Rattle.rsml_ground.specs.declared.sums.GroundSum.{GroundSum}
use Rattle.rsml_ground.specs.declared.definitions.GroundGuard.{GroundGuard}
use Rattle.rsml_ground.specs.declared.definitions.GroundGuard.TheVariants as guards
use Rattle.rsml_ground.specs.declared.definitions.GroundCase.{GroundCase}
use Rattle.rsml_ground.specs.declared.definitions.Definition.{Definition}
use Rattle.rsml_ground.specs.declared.definitions.Definition.TheVariants as definition
use Rattle.rsml_ground.specs.declared.phrases.GroundPhrase.{GroundPhrase}
use Rattle.rsml_ground.specs.declared.phrases.GroundPhrase.TheVariants as phrases

-- Sums.

-- a number that a specification can write
abbrev pub IsSmall : ℤ → Type 0
IsSmall n = IsTrue (int_le (neg_ℤ (pos 1000000000)) n && int_le n (pos 1000000000))

-- a small number, or one of the cells, of which there are so many
abbrev pub OperandFits : ℕ → GroundOperand → Type 0
OperandFits cells (operands.Number n) = IsSmall n
OperandFits cells (operands.Cell cell) = cell < cells

-- At most eight terms, each a small number or one of the cells.
pub record SumFits (cells : ℕ) (x : GroundSum) : Type 0 where
  pub few : length x.terms ≤ 8
  pub operands : Each (λ t. OperandFits cells t.operand) x.terms

-- Tables and guards.

-- 1 to 64 rows with 1 to 32 cells each, all as many, over the first n phrases
pub record TableFits (n : ℕ) (table : GroundTable) : Type 0 where
  pub shape : IsTable table
  pub below : PhrasesBelow n table

-- the guard is always true, or such a table
abbrev pub GuardFits : ℕ → GroundGuard → Type 0
GuardFits n guards.Always = ⊤
GuardFits n (guards.Table table) = TableFits n table

-- Definitions.

-- The value is a sum of these cells, and the guard rests on the first n phrases.
pub record CaseFits (cells n : ℕ) (c : GroundCase) : Type 0 where
  pub value : SumFits cells c.value
  pub guard : GuardFits n c.guard

-- the table, or each case, rests on the first n phrases
abbrev pub DefinitionFits : ℕ → ℕ → Definition → Type 0
DefinitionFits cells n (definition.Macro table) = TableFits n table
DefinitionFits cells n (definition.Function cases) = Each (CaseFits cells n) cases

-- the definition of this number is there, and rests on the first n phrases
abbrev pub IsDefined : List Definition → ℕ → ℕ → ℕ → Type 0
IsDefined definitions cells n number = (d : Definition) × (slice_get definitions number ≡ Some d) × DefinitionFits cells n d

-- Phrases.

-- the phrase rests on the first n phrases alone
abbrev pub RestsOn : List Definition → ℕ → ℕ → GroundPhrase → Type 0
RestsOn definitions cells n (phrases.In node) = ⊤
RestsOn definitions cells n (phrases.Macro number) = IsDefined definitions cells n number
RestsOn definitions cells n (phrases.Any numbers) = Each (λ k. k < n) numbers
RestsOn definitions cells n (phrases.Every numbers) = Each (λ k. k < n) numbers
RestsOn definitions cells n (phrases.Compare left relation right) = SumFits cells left × SumFits cells right
RestsOn definitions cells n (phrases.Function number relation constant) = IsDefined definitions cells n number

-- Each phrase rests on those before it, and each definition on phrases that there are.
pub record Rest (cells : ℕ) (definitions : List Definition) (phrases : List GroundPhrase) : Type 0 where
  pub phrase : (k : ℕ) (p : GroundPhrase) → slice_get phrases k ≡ Some p → RestsOn definitions cells k p
  pub definition : (k : ℕ) (d : Definition) → slice_get definitions k ≡ Some d → DefinitionFits cells (length phrases) d
