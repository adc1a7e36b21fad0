-- What phrases name is there: each state and each cell has a place, each macro and each function a number that is lower than
-- that of what names it. Tables and sums have the sizes of S8 and S16.
use Rattle.std.specs.Prelude.{◌≡◌, ℕ, ◌<◌, ◌≤◌, List, map, Some, length, slice_get, IsTrue, ⊤}
use Rattle.rsml_syntax.specs.declared.syntax.Spec.{Spec}
use Rattle.rsml_syntax.specs.declared.syntax.Amount.{Amount}
use Rattle.rsml_syntax.specs.declared.syntax.Mention.{Mention}
use Rattle.rsml_syntax.specs.declared.syntax.Operand.{Operand}
use Rattle.rsml_syntax.specs.declared.syntax.Operand.TheVariants as written
use Rattle.rsml_syntax.specs.declared.syntax.Sum.{Sum}
use Rattle.rsml_syntax.specs.declared.syntax.Simple.{Simple}
use Rattle.rsml_syntax.specs.declared.syntax.Simple.TheVariants as simples
use Rattle.rsml_syntax.specs.declared.syntax.Phrase.{Phrase}
use Rattle.rsml_syntax.specs.declared.syntax.Phrase.TheVariants as phrases
use Rattle.rsml_syntax.specs.declared.syntax.Row.{Row}
use Rattle.rsml_syntax.specs.declared.syntax.Guard.{Guard}
use Rattle.rsml_syntax.specs.declared.syntax.Guard.TheVariants as guards
use Rattle.rsml_syntax.specs.declared.syntax.Case.{Case}
use Rattle.rsml_syntax.specs.declared.syntax.Value.{Value}
use Rattle.rsml_syntax.specs.declared.syntax.Value.TheVariants as values
use Rattle.rsml_syntax.specs.declared.syntax.Answer.{Answer}
use Rattle.rsml_syntax.specs.declared.syntax.Answer.TheVariants as answers
use Rattle.rsml_syntax.specs.limits.Comparisons.{Indices, index_number}
use Rattle.rsml_syntax.specs.rules.Globals.{indices, many}
use Rattle.rsml_syntax.specs.rules.Owners.{is_table}
use Rattle.rsml_syntax.specs.rules.Uses.{is_constant}
use Rattle.rsml_meaning.specs.Words.{Instance, Each, place_in, item_of}
use Rattle.rsml_meaning.specs.Instances.{globals_of, states, events}
use Rattle.rsml_meaning.specs.Cells.{cells}
use Rattle.rsml_meaning.specs.Truth.{within, quantified, instance}
use Rattle.rsml_meaning.specs.Transitions.{transitions}
use Rattle.rsml_meaning.specs.Interfaces.{Definition, macro_table, function_cases, definitions, ReceiveInstance, receives, SendCaseInstance, send_cases}
use Rattle.state_arrays.specs.Places.{cell_place, path_place, definition_place}
use Rattle.rsml_ground.specs.declared.sums.GroundOperand.{GroundOperand}
use Rattle.rsml_ground.specs.Rests.{OperandFits}
use Rattle.rsml_ground.specs.StandsFor.{OperandIs, IsMacro, IsFunction}

-- Mentions.

-- the index of a mention is one that an array can have, or 0
abbrev pub IndexFits : Spec → Indices → Mention → Type 0
IndexFits s r m = index_number (globals_of s) r m.index ≤ 64

-- Sums.

-- so is that of the mention in an operand
abbrev pub OperandIndexFits : Spec → Indices → Operand → Type 0
OperandIndexFits s r (written.Number n) = ⊤
OperandIndexFits s r (written.Mention m) = IndexFits s r m
OperandIndexFits s r (written.Previous m) = IndexFits s r m

-- What an operand stands for is there: a small number, or a cell.
pub record OperandIsScoped (s : Spec) (r : Indices) (x : Operand) : Type 0 where
  pub operand : GroundOperand
  pub stands : OperandIs s r x operand
  pub fits : OperandFits (length (cells s)) operand
  pub index : OperandIndexFits s r x

-- At most eight terms, and what each stands for is there.
pub record SumIsScoped (s : Spec) (r : Indices) (x : Sum) : Type 0 where
  pub few : length x.terms ≤ 8
  pub terms : Each (λ t. OperandIsScoped s r t.operand) x.terms

-- Phrases.

-- The state of a path is there.
pub record PathIsScoped (s : Spec) (r : Indices) (path : List Mention) : Type 0 where
  pub node : ℕ
  pub place : path_place (states s) (map (instance (globals_of s) r) path) ≡ Some node
  pub fits : Each (IndexFits s r) path

-- The macro that is mentioned is among the first n definitions.
pub record MacroIsScoped (s : Spec) (n : ℕ) (r : Indices) (m : Mention) : Type 0 where
  pub number : ℕ
  pub place : definition_place s (instance (globals_of s) r m) ≡ Some number
  pub before : number < n
  pub stands : IsMacro s r m number
  pub fits : IndexFits s r m

-- The function that is mentioned is among the first n definitions.
pub record FunctionIsScoped (s : Spec) (n : ℕ) (r : Indices) (m : Mention) : Type 0 where
  pub number : ℕ
  pub place : definition_place s (instance (globals_of s) r m) ≡ Some number
  pub before : number < n
  pub stands : IsFunction s r m number
  pub fits : IndexFits s r m

-- what a phrase without a quantifier names is there, macros and functions among the first n definitions
abbrev pub SimpleIsScoped : Spec → ℕ → Indices → Simple → Type 0
SimpleIsScoped s n r (simples.In path) = PathIsScoped s r path
SimpleIsScoped s n r (simples.Macro m) = MacroIsScoped s n r m
SimpleIsScoped s n r (simples.Compare left relation right) = SumIsScoped s r left × SumIsScoped s r right
SimpleIsScoped s n r (simples.Function f relation right) = FunctionIsScoped s n r f × SumIsScoped s r right × IsTrue (is_constant (globals_of s) right)

-- A bound of 1 to 64, and for each value of the variable what the phrase names is there.
pub record QuantifiedIsScoped (s : Spec) (n : ℕ) (r : ℕ → Indices) (bound : Amount) (b : Simple) : Type 0 where
  pub some : 1 ≤ many (globals_of s) (Some bound)
  pub few : many (globals_of s) (Some bound) ≤ 64
  pub each : Each (λ i. SimpleIsScoped s n (r i) b) (indices (globals_of s) (Some bound))

-- what a phrase names is there
abbrev pub PhraseIsScoped : Spec → ℕ → Indices → Phrase → Type 0
PhraseIsScoped s n r (phrases.Plain b) = SimpleIsScoped s n r b
PhraseIsScoped s n r (phrases.Any x bound b) = QuantifiedIsScoped s n (quantified r x) bound b
PhraseIsScoped s n r (phrases.Every x bound b) = QuantifiedIsScoped s n (quantified r x) bound b

-- Tables and guards.

-- The rows have the shape of a table, and what each names is there.
pub record TableIsScoped (s : Spec) (n : ℕ) (r : Indices) (rows : List Row) : Type 0 where
  pub shape : IsTrue (is_table rows)
  pub rows_are : Each (λ row. PhraseIsScoped s n r row.phrase) rows

-- always true, or such a table
abbrev pub GuardIsScoped : Spec → ℕ → Indices → Guard → Type 0
GuardIsScoped s n r guards.Always = ⊤
GuardIsScoped s n r (guards.Table rows) = TableIsScoped s n r rows

-- what the value and the guard of a case name is there
abbrev pub CaseIsScoped : Spec → ℕ → Indices → Case → Type 0
CaseIsScoped s n r c = SumIsScoped s r c.value × GuardIsScoped s n r c.guard

-- what a macro or a function names is there, macros and functions among the first n definitions
abbrev pub DefinitionIsScoped : Spec → ℕ → Definition → Type 0
DefinitionIsScoped s n (macro_table i rows) = TableIsScoped s n (within i.index) rows
DefinitionIsScoped s n (function_cases f) = Each (λ c. CaseIsScoped s n (within f.function.index) (item_of c)) f.cases

-- Interfaces.

-- what a value of an answer names is there
abbrev pub ValueIsScoped : Spec → ℕ → Indices → Value → Type 0
ValueIsScoped s n r (values.Sum x) = SumIsScoped s r x
ValueIsScoped s n r (values.Function f) = FunctionIsScoped s n r f

-- what an answer names is there
abbrev pub AnswerIsScoped : Spec → ℕ → Indices → Answer → Type 0
AnswerIsScoped s n r answers.Quiet = ⊤
AnswerIsScoped s n r (answers.Values vs) = Each (ValueIsScoped s n r) vs

-- what the guard and the answer of a case of a send name is there
abbrev pub SendCaseIsScoped : Spec → ℕ → SendCaseInstance → Type 0
SendCaseIsScoped s n c = GuardIsScoped s n (within c.send.index) c.guard × AnswerIsScoped s n (within c.send.index) c.answer

-- an input instance has a cell, and an index that an array can have
abbrev pub InputIsScoped : Spec → Instance → Type 0
InputIsScoped s x = (cell : ℕ) × (cell_place s x ≡ Some cell) × (x.index ≤ 64)

-- The cells that a receive instance writes and the event that it raises are there.
pub record ReceiveIsScoped (s : Spec) (x : ReceiveInstance) : Type 0 where
  pub inputs : Each (InputIsScoped s) x.inputs
  pub event : ℕ
  pub place : place_in (events s) x.raised ≡ Some event
  pub fits : x.raised.index ≤ 64

-- What the definitions, the guards of transitions, the cases of sends, and the receives name is there. A definition names
-- macros and functions before its own place alone.
pub record PhrasesAreScoped (s : Spec) : Type 0 where
  pub definition : (n : ℕ) (d : Definition) → slice_get (definitions s) n ≡ Some d → DefinitionIsScoped s n d
  pub transitions_are : Each (λ t. GuardIsScoped s (length (definitions s)) (within t.this) t.guard) (transitions s)
  pub sends_are : Each (SendCaseIsScoped s (length (definitions s))) (send_cases s)
  pub receives_are : Each (ReceiveIsScoped s) (receives s)
