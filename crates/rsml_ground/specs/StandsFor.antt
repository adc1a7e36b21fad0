-- When sums, phrases, tables, guards and definitions over numbers stand for those of the text.
use Rattle.std.specs.Prelude.{◌≡◌, ℕ, Bool, true, false, List, map, Some, ℤ, pos, slice_get, ⊤}
use Rattle.std.specs.List.{AllZip}
use Rattle.std.specs.Option.{option_map_or}
use Rattle.rsml_syntax.specs.declared.syntax.Spec.{Spec}
use Rattle.rsml_syntax.specs.declared.syntax.Mention.{Mention}
use Rattle.rsml_syntax.specs.declared.syntax.Operand.{Operand}
use Rattle.rsml_syntax.specs.declared.syntax.Operand.TheVariants as written
use Rattle.rsml_syntax.specs.declared.syntax.Term.{Term}
use Rattle.rsml_syntax.specs.declared.syntax.Sum.{Sum}
use Rattle.rsml_syntax.specs.declared.syntax.Simple.{Simple}
use Rattle.rsml_syntax.specs.declared.syntax.Simple.TheVariants as simples
use Rattle.rsml_syntax.specs.declared.syntax.Phrase.{Phrase}
use Rattle.rsml_syntax.specs.declared.syntax.Phrase.TheVariants as phrase_of
use Rattle.rsml_syntax.specs.declared.syntax.Row.{Row}
use Rattle.rsml_syntax.specs.declared.syntax.Guard.{Guard}
use Rattle.rsml_syntax.specs.declared.syntax.Guard.TheVariants as guard_of
use Rattle.rsml_syntax.specs.declared.syntax.Case.{Case}
use Rattle.rsml_syntax.specs.limits.Comparisons.{Indices}
use Rattle.rsml_syntax.specs.rules.Globals.{meaning, number, indices}
use Rattle.rsml_syntax.specs.rules.Uses.{is_input}
use Rattle.rsml_meaning.specs.Words.{item_of}
use Rattle.rsml_meaning.specs.Instances.{globals_of, states}
use Rattle.rsml_meaning.specs.Truth.{within, quantified, instance}
use Rattle.rsml_meaning.specs.Interfaces.{FunctionInstance, macro_table, function_cases, definitions}
use Rattle.rsml_meaning.specs.Interfaces as meaning_of
use Rattle.state_arrays.specs.Places.{cell_place, previous_place, path_at}
use Rattle.and_or_tables.specs.declared.ground.GroundRow.{GroundRow}
use Rattle.and_or_tables.specs.declared.ground.GroundTable.{GroundTable}
use Rattle.rsml_ground.specs.declared.sums.GroundOperand.{GroundOperand}
use Rattle.rsml_ground.specs.declared.sums.GroundOperand.TheVariants as operands
use Rattle.rsml_ground.specs.declared.sums.GroundTerm.{GroundTerm}
use Rattle.rsml_ground.specs.declared.sums.GroundSum.{GroundSum}
use Rattle.rsml_ground.specs.declared.definitions.GroundGuard.{GroundGuard}
use Rattle.rsml_ground.specs.declared.definitions.GroundGuard.TheVariants as guards
use Rattle.rsml_ground.specs.declared.definitions.GroundCase.{GroundCase}
use Rattle.rsml_ground.specs.declared.definitions.Definition.{Definition}
use Rattle.rsml_ground.specs.declared.definitions.Definition.TheVariants as definition
use Rattle.rsml_ground.specs.declared.phrases.GroundPhrase.{GroundPhrase}
use Rattle.rsml_ground.specs.declared.phrases.GroundPhrase.TheVariants as phrases
use Rattle.rsml_ground.specs.Truths.{sum_number}

-- Sums, read under the indices of an instance and of a quantifier's variable.

-- of a mention: the input's cell where it names an input, else the number of a constant or of an enumeration's value
abbrev pub MentionIs : Spec → Indices → Mention → Bool → GroundOperand → Type 0
MentionIs s r m true (operands.Cell cell) = cell_place s (instance (globals_of s) r m) ≡ Some cell
MentionIs s r m false (operands.Number n) = n ≡ number (globals_of s) m.name
MentionIs s r m _ _ = ⊥

-- of an operand: its number, its cell, or its previous cell
abbrev pub OperandIs : Spec → Indices → Operand → GroundOperand → Type 0
OperandIs s r (written.Number n) (operands.Number z) = z ≡ pos n
OperandIs s r (written.Mention m) x = MentionIs s r m (option_map_or is_input (meaning (globals_of s) m.name) false) x
OperandIs s r (written.Previous m) (operands.Cell cell) = previous_place s (instance (globals_of s) r m) ≡ Some cell
OperandIs s r _ _ = ⊥

-- Of a term: its operand, with its sign.
pub record TermIs (s : Spec) (r : Indices) (t : Term) (x : GroundTerm) : Type 0 where
  pub minus : x.minus ≡ t.minus
  pub operand : OperandIs s r t.operand x.operand

-- of a sum: its terms, in order
abbrev pub SumIs : Spec → Indices → Sum → GroundSum → Type 0
SumIs s r sum x = AllZip (TermIs s r) sum.terms x.terms

-- the number of a constant sum, whatever the cells hold
abbrev pub IsConstant : Spec → Indices → Sum → ℤ → Type 0
IsConstant s r sum n = (x : GroundSum) × SumIs s r sum x × ((cells : List ℤ) → sum_number cells x ≡ n)

-- Phrases without a quantifier.

-- the state of this number has the path
abbrev pub IsNode : Spec → Indices → List Mention → ℕ → Type 0
IsNode s r path node = path_at (states s) node ≡ Some (map (instance (globals_of s) r) path)

-- the definition of this number is the macro instance that is mentioned
abbrev pub IsMacro : Spec → Indices → Mention → ℕ → Type 0
IsMacro s r m k = (rows : List Row) × (slice_get (definitions s) k ≡ Some (macro_table (instance (globals_of s) r m) rows))

-- the definition of this number is the function instance that is mentioned
abbrev pub IsFunction : Spec → Indices → Mention → ℕ → Type 0
IsFunction s r m k = (f : FunctionInstance) × (slice_get (definitions s) k ≡ Some (function_cases f)) × (f.function ≡ instance (globals_of s) r m)

-- the phrase has the form of that of the text, and what it names are the numbers of what the text names
abbrev pub SimpleIs : Spec → Indices → Simple → GroundPhrase → Type 0
SimpleIs s r (simples.In path) (phrases.In node) = IsNode s r path node
SimpleIs s r (simples.Macro m) (phrases.Macro k) = IsMacro s r m k
SimpleIs s r (simples.Compare left relation right) (phrases.Compare x q y) = SumIs s r left x × (q ≡ relation) × SumIs s r right y
SimpleIs s r (simples.Function f relation right) (phrases.Function k q constant) = IsFunction s r f k × (q ≡ relation) × IsConstant s r right constant
SimpleIs s r _ _ = ⊥

-- Phrases with their numbers.

-- the phrase of this number is that of the text
abbrev pub NumberIs : List GroundPhrase → Spec → Indices → Simple → ℕ → Type 0
NumberIs ps s r b k = (p : GroundPhrase) × (slice_get ps k ≡ Some p) × SimpleIs s r b p

-- the phrases of these numbers are those of the text, for each value of the variable
abbrev pub NumbersAre : List GroundPhrase → Spec → (ℕ → Indices) → Simple → List ℕ → List ℕ → Type 0
NumbersAre ps s r b values ks = AllZip (λ i k. NumberIs ps s (r i) b k) values ks

-- the phrase of this number is that of the text; a quantified one has a phrase for each value of its variable
abbrev pub PhraseIs : List GroundPhrase → Spec → Indices → Phrase → ℕ → Type 0
PhraseIs ps s r (phrase_of.Plain b) k = NumberIs ps s r b k
PhraseIs ps s r (phrase_of.Any x bound b) k =
    (ks : List ℕ) × (slice_get ps k ≡ Some (phrases.Any ks)) × NumbersAre ps s (quantified r x) b (indices (globals_of s) (Some bound)) ks
PhraseIs ps s r (phrase_of.Every x bound b) k =
    (ks : List ℕ) × (slice_get ps k ≡ Some (phrases.Every ks)) × NumbersAre ps s (quantified r x) b (indices (globals_of s) (Some bound)) ks

-- Tables, guards and definitions.

-- Of a row: its cells, and the number of its phrase.
pub record RowIs (ps : List GroundPhrase) (s : Spec) (r : Indices) (row : Row) (x : GroundRow) : Type 0 where
  pub cells : x.cells ≡ row.cells
  pub phrase : PhraseIs ps s r row.phrase x.phrase

-- of a table: its rows, in order
abbrev pub TableIs : List GroundPhrase → Spec → Indices → List Row → GroundTable → Type 0
TableIs ps s r rows table = AllZip (RowIs ps s r) rows table.rows

-- of a guard: always true, or its table
abbrev pub GuardIs : List GroundPhrase → Spec → Indices → Guard → GroundGuard → Type 0
GuardIs ps s r guard_of.Always guards.Always = ⊤
GuardIs ps s r (guard_of.Table rows) (guards.Table table) = TableIs ps s r rows table
GuardIs ps s r _ _ = ⊥

-- Of a case: its value and its guard.
pub record CaseIs (ps : List GroundPhrase) (s : Spec) (r : Indices) (c : Case) (x : GroundCase) : Type 0 where
  pub value : SumIs s r c.value x.value
  pub guard : GuardIs ps s r c.guard x.guard

-- of a macro instance: its table; of a function instance: its cases, in order
abbrev pub DefinitionIs : List GroundPhrase → Spec → meaning_of.Definition → Definition → Type 0
DefinitionIs ps s (macro_table i rows) (definition.Macro table) = TableIs ps s (within i.index) rows table
DefinitionIs ps s (function_cases f) (definition.Function cases) = AllZip (λ c x. CaseIs ps s (within f.function.index) (item_of c) x) f.cases cases
DefinitionIs ps s _ _ = ⊥
