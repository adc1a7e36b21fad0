-- What stands for the text still does where phrases grow.
use Rattle.std.proofs.Common.{◌≡◌, ℕ, List, Some, slice_get}
use Rattle.rsml_syntax.specs.declared.syntax.Spec.{Spec}
use Rattle.rsml_syntax.specs.declared.syntax.Simple.{Simple}
use Rattle.rsml_syntax.specs.declared.syntax.Phrase.{Phrase}
use Rattle.rsml_syntax.specs.declared.syntax.Phrase.TheVariants as phrase_of
use Rattle.rsml_syntax.specs.declared.syntax.Row.{Row}
use Rattle.rsml_syntax.specs.declared.syntax.Guard.{Guard}
use Rattle.rsml_syntax.specs.declared.syntax.Guard.TheVariants as guard_of
use Rattle.rsml_syntax.specs.declared.syntax.Case.{Case}
use Rattle.rsml_syntax.specs.declared.syntax.Amount.{Amount}
use Rattle.rsml_syntax.specs.limits.Comparisons.{Indices}
use Rattle.rsml_syntax.specs.rules.Globals.{indices, many, up_to}
use Rattle.rsml_meaning.specs.Words.{item_of}
use Rattle.rsml_meaning.specs.Instances.{globals_of}
use Rattle.rsml_meaning.specs.Truth.{within, quantified}
use Rattle.rsml_meaning.specs.Interfaces.{macro_table, function_cases}
use Rattle.rsml_meaning.specs.Interfaces as meaning_of
use Rattle.and_or_tables.specs.declared.ground.GroundRow.{GroundRow}
use Rattle.and_or_tables.specs.declared.ground.GroundTable.{GroundTable}
use Rattle.rsml_ground.specs.declared.definitions.GroundGuard.{GroundGuard}
use Rattle.rsml_ground.specs.declared.definitions.GroundGuard.TheVariants as guards
use Rattle.rsml_ground.specs.declared.definitions.GroundCase.{GroundCase}
use Rattle.rsml_ground.specs.declared.definitions.Definition.{Definition}
use Rattle.rsml_ground.specs.declared.definitions.Definition.TheVariants as definition
use Rattle.rsml_ground.specs.declared.phrases.GroundPhrase.{GroundPhrase}
use Rattle.rsml_ground.specs.declared.phrases.GroundPhrase.TheVariants as phrases
use Rattle.rsml_ground.specs.Numbers.{Keeps}
use Rattle.rsml_ground.specs.StandsFor.{NumberIs, NumbersAre, PhraseIs, RowIs, TableIs, GuardIs, CaseIs, DefinitionIs}
use Rattle.phrase_builder.proofs.Lists.{zip_to}

pub number_stays : (ps qs : List GroundPhrase) (s : Spec) (r : Indices) (b : Simple) (k : ℕ) → Keeps ps qs → NumberIs ps s r b k → NumberIs qs s r b k
number_stays ps qs s r b k h e = (e.0, h k e.0 e.1, e.2)

pub numbers_stay : (ps qs : List GroundPhrase) (s : Spec) (r : ℕ → Indices) (b : Simple) (values ks : List ℕ) → Keeps ps qs → NumbersAre ps s r b values ks → NumbersAre qs s r b values ks
numbers_stay ps qs s r b values ks h e = zip_to (λ i k. NumberIs ps s (r i) b k) (λ i k. NumberIs qs s (r i) b k) (λ i k. number_stays ps qs s (r i) b k h) values ks e

pub phrase_stays : (ps qs : List GroundPhrase) (s : Spec) (r : Indices) (p : Phrase) (k : ℕ) → Keeps ps qs → PhraseIs ps s r p k → PhraseIs qs s r p k
phrase_stays ps qs s r (phrase_of.Plain b) k h e = number_stays ps qs s r b k h e
phrase_stays ps qs s r (phrase_of.Any x n b) k h e = (e.0, h k (phrases.Any e.0) e.1, numbers_stay ps qs s (quantified r x) b (indices (globals_of s) (Some n)) e.0 h e.2)
phrase_stays ps qs s r (phrase_of.Every x n b) k h e = (e.0, h k (phrases.Every e.0) e.1, numbers_stay ps qs s (quantified r x) b (indices (globals_of s) (Some n)) e.0 h e.2)

pub row_stays : (ps qs : List GroundPhrase) (s : Spec) (r : Indices) (row : Row) (x : GroundRow) → Keeps ps qs → RowIs ps s r row x → RowIs qs s r row x
row_stays ps qs s r row x h e = record { cells = e.cells; phrase = phrase_stays ps qs s r row.phrase x.phrase h e.phrase }

pub table_stays : (ps qs : List GroundPhrase) (s : Spec) (r : Indices) (rows : List Row) (table : GroundTable) → Keeps ps qs → TableIs ps s r rows table → TableIs qs s r rows table
table_stays ps qs s r rows table h e = zip_to (RowIs ps s r) (RowIs qs s r) (λ row x. row_stays ps qs s r row x h) rows table.rows e

pub guard_stays : (ps qs : List GroundPhrase) (s : Spec) (r : Indices) (x : Guard) (y : GroundGuard) → Keeps ps qs → GuardIs ps s r x y → GuardIs qs s r x y
guard_stays ps qs s r guard_of.Always guards.Always h e = tt
guard_stays ps qs s r (guard_of.Table rows) (guards.Table table) h e = table_stays ps qs s r rows table h e
guard_stays ps qs s r guard_of.Always (guards.Table table) h e = elim e [ ]
guard_stays ps qs s r (guard_of.Table rows) guards.Always h e = elim e [ ]

pub case_stays : (ps qs : List GroundPhrase) (s : Spec) (r : Indices) (c : Case) (x : GroundCase) → Keeps ps qs → CaseIs ps s r c x → CaseIs qs s r c x
case_stays ps qs s r c x h e = record { value = e.value; guard = guard_stays ps qs s r c.guard x.guard h e.guard }

pub definition_stays : (ps qs : List GroundPhrase) (s : Spec) → Keeps ps qs → (d : meaning_of.Definition) (x : Definition) → DefinitionIs ps s d x → DefinitionIs qs s d x
definition_stays ps qs s h (macro_table i rows) (definition.Macro table) e = table_stays ps qs s (within i.index) rows table h e
definition_stays ps qs s h (function_cases f) (definition.Function cases) e =
    zip_to (λ c x. CaseIs ps s (within f.function.index) (item_of c) x) (λ c x. CaseIs qs s (within f.function.index) (item_of c) x) (λ c x. case_stays ps qs s (within f.function.index) (item_of c) x h) f.cases cases e
definition_stays ps qs s h (macro_table i rows) (definition.Function cases) e = elim e [ ]
definition_stays ps qs s h (function_cases f) (definition.Macro table) e = elim e [ ]

-- A quantified phrase of the numbers of its phrases.

pub any_is : (ps qs : List GroundPhrase) (s : Spec) (r : Indices) (x : List ℕ) (bound : Amount) (b : Simple) (ks : List ℕ) (k : ℕ) → Keeps ps qs → NumbersAre ps s (quantified r x) b (up_to (many (globals_of s) (Some bound))) ks → slice_get qs k ≡ Some (phrases.Any ks) → PhraseIs qs s r (phrase_of.Any x bound b) k
any_is ps qs s r x bound b ks k h e a = (ks, a, numbers_stay ps qs s (quantified r x) b (up_to (many (globals_of s) (Some bound))) ks h e)

pub every_is : (ps qs : List GroundPhrase) (s : Spec) (r : Indices) (x : List ℕ) (bound : Amount) (b : Simple) (ks : List ℕ) (k : ℕ) → Keeps ps qs → NumbersAre ps s (quantified r x) b (up_to (many (globals_of s) (Some bound))) ks → slice_get qs k ≡ Some (phrases.Every ks) → PhraseIs qs s r (phrase_of.Every x bound b) k
every_is ps qs s r x bound b ks k h e a = (ks, a, numbers_stay ps qs s (quantified r x) b (up_to (many (globals_of s) (Some bound))) ks h e)
