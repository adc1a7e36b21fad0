-- The specification `deep` of the examples, with arrays of macros and functions, quantifiers, an `in` phrase and previous
-- cells: its phrases and definitions over numbers, that they stand for those of the text, and their truths in two worlds.
use Rattle.std.proofs.Common.{◌≡◌, ℕ, zero, suc, ◌+◌, ◌<◌, Bool, true, false, List, [], ◌∷◌, length, Some, pos, neg_ℤ, All, drop, slice_get, slice_index_or, refl, sym, ◌∙◌, subst, arith, lit≤}
use Prim.Native.String.{String}
use Rattle.std.specs.Prelude.{⊤, codes, None}
use Rattle.std.specs.List.{AllZip}
use Rattle.std.proofs.lemmas.Option.{same_Some}
use Rattle.rsml_syntax.specs.declared.syntax.Cell.{Cell}
use Rattle.rsml_syntax.specs.declared.syntax.Cell.TheVariants.{T, F}
use Rattle.rsml_syntax.specs.declared.syntax.Relation.TheVariants.{Less, GreaterEqual}
use Rattle.rsml_syntax.specs.declared.syntax.Mention.{Mention}
use Rattle.rsml_syntax.specs.declared.syntax.Index.TheVariants as index_of
use Rattle.rsml_syntax.specs.declared.syntax.Operand.TheVariants as operand_of
use Rattle.rsml_syntax.specs.declared.syntax.Sum.{Sum}
use Rattle.rsml_syntax.specs.declared.syntax.Simple.TheVariants as simples
use Rattle.rsml_syntax.specs.declared.syntax.Phrase.{Phrase}
use Rattle.rsml_syntax.specs.declared.syntax.Phrase.TheVariants as written
use Rattle.rsml_syntax.specs.declared.world.World.{World}
use Rattle.rsml_syntax.specs.grammar.WellFormed.{WellFormed}
use Rattle.rsml_meaning.specs.Words.{Each, at}
use Rattle.rsml_meaning.specs.Cells.{cells}
use Rattle.rsml_meaning.specs.Truth.{view, within, phrase as truth}
use Rattle.rsml_meaning.specs.Interfaces.{definitions, macro_table}
use Rattle.rsml_meaning.proofs.values.Deep.{deep}
use Rattle.and_or_tables.specs.declared.ground.GroundTable.{GroundTable}
use Rattle.rsml_ground.specs.declared.sums.GroundOperand.{GroundOperand}
use Rattle.rsml_ground.specs.declared.sums.GroundOperand.TheVariants as operands
use Rattle.rsml_ground.specs.declared.sums.GroundTerm.{GroundTerm}
use Rattle.rsml_ground.specs.declared.sums.GroundSum.{GroundSum}
use Rattle.rsml_ground.specs.declared.definitions.GroundGuard.TheVariants as guards
use Rattle.rsml_ground.specs.declared.definitions.GroundCase.{GroundCase}
use Rattle.rsml_ground.specs.declared.definitions.Definition.{Definition}
use Rattle.rsml_ground.specs.declared.definitions.Definition.TheVariants as definition
use Rattle.rsml_ground.specs.declared.phrases.GroundPhrase.{GroundPhrase}
use Rattle.rsml_ground.specs.declared.phrases.GroundPhrase.TheVariants as phrases
use Rattle.rsml_ground.specs.Truths.{Grounded, truths_in, value_in}
use Rattle.rsml_ground.specs.Rests.{IsSmall, SumFits, TableFits, DefinitionFits, IsDefined, RestsOn, Rest}
use Rattle.rsml_ground.specs.Numbers.{HaveOneNumber}
use Rattle.rsml_ground.specs.StandsFor.{IsConstant, PhraseIs, DefinitionIs}
use Rattle.rsml_ground.specs.Grounded.{IsGrounded}
use Rattle.rsml_ground.proofs.DeclaredLemmas.{each_at}

-- The cells are X[1], X[2], Col and the previous cells of X[1] and X[2]. The definitions are Low[1], Low[2], AnyLow, AllLow,
-- Sum[1], Sum[2] and Shade.

abbrev term : Bool → GroundOperand → GroundTerm
term minus operand = record { minus = minus; operand = operand }

abbrev plus_cell : ℕ → GroundTerm
plus_cell cell = term false (operands.Cell cell)

abbrev sum_of : List GroundTerm → GroundSum
sum_of terms = record { terms = terms }

abbrev number_of : ℕ → GroundSum
number_of n = sum_of (term false (operands.Number (pos n)) ∷ [])

abbrev one_row : ℕ → Cell → GroundTable
one_row phrase cell = record { rows = record { phrase = phrase; cells = cell ∷ [] } ∷ [] }

-- the cases of a Sum: its cell without the previous cell of X[2] where it is low, else -1
abbrev cases_of : ℕ → ℕ → List GroundCase
cases_of cell low =
    record { value = sum_of (plus_cell cell ∷ term true (operands.Cell 4) ∷ []); guard = guards.Table (one_row low T) }
    ∷ record { value = sum_of (term true (operands.Number (pos 1)) ∷ []); guard = guards.Table (one_row low F) }
    ∷ []

abbrev deep_phrases : List GroundPhrase
deep_phrases =
    phrases.Compare (sum_of (plus_cell 0 ∷ [])) Less (number_of 0)
    ∷ phrases.Compare (sum_of (plus_cell 1 ∷ [])) Less (number_of 0)
    ∷ phrases.Macro 0
    ∷ phrases.Macro 1
    ∷ phrases.Any (2 ∷ 3 ∷ [])
    ∷ phrases.Every (2 ∷ 3 ∷ [])
    ∷ phrases.Macro 2
    ∷ phrases.In 8
    ∷ phrases.Function 4 GreaterEqual (pos 0)
    ∷ phrases.Function 5 GreaterEqual (pos 0)
    ∷ []

abbrev deep_definitions : List Definition
deep_definitions =
    definition.Macro (one_row 0 T)
    ∷ definition.Macro (one_row 1 T)
    ∷ definition.Macro (one_row 4 T)
    ∷ definition.Macro (one_row 5 T)
    ∷ definition.Function (cases_of 0 2)
    ∷ definition.Function (cases_of 1 3)
    ∷ definition.Function (record { value = number_of 0; guard = guards.Always } ∷ [])
    ∷ []

abbrev numbered : Grounded
numbered = record { spec = deep; phrases = deep_phrases; definitions = deep_definitions }

-- Their truths in two worlds. In the first X[1] is -3, X[2] is 2 and X[2] was -4, and the state V2 is not active; in the
-- second X[1] is 1, X[2] is -1 and X[2] was -3, and V2 is active.

abbrev first : World
first = record { choices = 0 ∷ 0 ∷ 0 ∷ 0 ∷ 0 ∷ []; cells = neg_ℤ (pos 3) ∷ pos 2 ∷ pos 0 ∷ pos 0 ∷ neg_ℤ (pos 4) ∷ [] }

abbrev second : World
second = record { choices = 1 ∷ 1 ∷ 1 ∷ 0 ∷ 0 ∷ []; cells = pos 1 ∷ neg_ℤ (pos 1) ∷ pos 0 ∷ pos 0 ∷ neg_ℤ (pos 3) ∷ [] }

truths_in_the_first : truths_in numbered first ≡ true ∷ false ∷ true ∷ false ∷ true ∷ false ∷ true ∷ false ∷ true ∷ false ∷ []
truths_in_the_first = refl

truths_in_the_second : truths_in numbered second ≡ false ∷ true ∷ false ∷ true ∷ true ∷ false ∷ true ∷ true ∷ false ∷ true ∷ []
truths_in_the_second = refl

values_in_the_first : (value_in numbered first 4 ≡ pos 1) × (value_in numbered first 5 ≡ neg_ℤ (pos 1)) × (value_in numbered first 6 ≡ pos 0)
values_in_the_first = (refl, refl, refl)

values_in_the_second : (value_in numbered second 4 ≡ neg_ℤ (pos 1)) × (value_in numbered second 5 ≡ pos 2) × (value_in numbered second 6 ≡ pos 0)
values_in_the_second = (refl, refl, refl)

-- They stand for those of the text.

-- the definition of this number stands for that of the text
abbrev Stands : ℕ → Type 0
Stands k = DefinitionIs deep_phrases deep (slice_index_or (definitions deep) k (macro_table (at [] 0) [])) (slice_index_or deep_definitions k (definition.Function []))

low_stands : Stands 0 × Stands 1
low_stands = ((record { cells = refl; phrase = (_, refl, ((record { minus = refl; operand = refl }, tt), refl, (record { minus = refl; operand = refl }, tt))) }, tt), (record { cells = refl; phrase = (_, refl, ((record { minus = refl; operand = refl }, tt), refl, (record { minus = refl; operand = refl }, tt))) }, tt))

any_low_stands : Stands 2
any_low_stands = (record { cells = refl; phrase = (2 ∷ 3 ∷ [], refl, ((_, refl, (_, refl)), ((_, refl, (_, refl)), tt))) }, tt)

all_low_stands : Stands 3
all_low_stands = (record { cells = refl; phrase = (2 ∷ 3 ∷ [], refl, ((_, refl, (_, refl)), ((_, refl, (_, refl)), tt))) }, tt)

first_sum_stands : Stands 4
first_sum_stands = (record { value = (record { minus = refl; operand = refl }, (record { minus = refl; operand = refl }, tt)); guard = (record { cells = refl; phrase = (_, refl, (_, refl)) }, tt) }, (record { value = (record { minus = refl; operand = refl }, tt); guard = (record { cells = refl; phrase = (_, refl, (_, refl)) }, tt) }, tt))

second_sum_stands : Stands 5
second_sum_stands = (record { value = (record { minus = refl; operand = refl }, (record { minus = refl; operand = refl }, tt)); guard = (record { cells = refl; phrase = (_, refl, (_, refl)) }, tt) }, (record { value = (record { minus = refl; operand = refl }, tt); guard = (record { cells = refl; phrase = (_, refl, (_, refl)) }, tt) }, tt))

shade_stands : Stands 6
shade_stands = (record { value = (record { minus = refl; operand = refl }, tt); guard = tt }, tt)

stand : AllZip (DefinitionIs deep_phrases deep) (definitions deep) deep_definitions
stand = (low_stands.0, (low_stands.1, (any_low_stands, (all_low_stands, (first_sum_stands, (second_sum_stands, (shade_stands, tt)))))))

-- Two phrases of guards.

abbrev step : String → Mention
step name = record { name = codes name; index = None }

abbrev in_v2 : Phrase
in_v2 = written.Plain (simples.In (step "Top" ∷ step "P" ∷ step "B" ∷ step "U" ∷ step "U2" ∷ step "V2" ∷ []))

abbrev nothing : Sum
nothing = record { terms = record { minus = false; operand = operand_of.Number 0 } ∷ [] }

abbrev sum_is_not_negative : Phrase
sum_is_not_negative = written.Plain (simples.Function (record { name = codes "Sum"; index = Some index_of.This }) GreaterEqual nothing)

nothing_is : (index : ℕ) → IsConstant deep (within index) nothing (pos 0)
nothing_is index = (number_of 0, (record { minus = refl; operand = refl }, tt), λ cells. refl)

in_v2_stands : PhraseIs deep_phrases deep (within 1) in_v2 7
in_v2_stands = (_, refl, refl)

sum_is_not_negative_stands : PhraseIs deep_phrases deep (within 1) sum_is_not_negative 8 × PhraseIs deep_phrases deep (within 2) sum_is_not_negative 9
sum_is_not_negative_stands = ((_, refl, ((_, refl, refl), refl, nothing_is 1)), (_, refl, ((_, refl, refl), refl, nothing_is 2)))

-- the text says the same
as_the_text_says : (truth (view deep second) (within 1) in_v2 ≡ true) × (truth (view deep first) (within 1) sum_is_not_negative ≡ true) × (truth (view deep first) (within 2) sum_is_not_negative ≡ false)
as_the_text_says = (refl, refl, refl)

-- The premises of the laws hold of them.

-- the fact holds of each phrase and its number, from this number on
EachFrom : (ℕ → GroundPhrase → Type 0) → ℕ → List GroundPhrase → Type 0
EachFrom P n [] = ⊤
EachFrom P n (p ∷ ps) = P n p × EachFrom P (suc n) ps

each_from_at : (P : ℕ → GroundPhrase → Type 0) (n : ℕ) (ps : List GroundPhrase) → EachFrom P n ps → (k : ℕ) (p : GroundPhrase) → slice_get ps k ≡ Some p → P (n + k) p
unfolding EachFrom
each_from_at P n [] h k p e = absurd (let no : ⊥ = cc in no)
each_from_at P n (q ∷ ps) h zero p e = subst (λ m. P m p) (omega arith) (subst (P n) (same_Some q p e) h.0)
each_from_at P n (q ∷ ps) h (suc k) p e = subst (λ m. P m p) (omega arith) (each_from_at P (suc n) ps h.1 k p e)

all_of_each : {A : Type 0} (P : A → Type 0) (xs : List A) → Each P xs → All P xs
all_of_each P [] h k d l = absurd (omega (arith, l))
all_of_each P (x ∷ xs) h zero d l = h.0
all_of_each P (x ∷ xs) h (suc k) d l = all_of_each P xs h.1 k d (omega (arith, l))

one_row_fits : (n phrase : ℕ) (cell : Cell) → phrase < n → TableFits n (one_row phrase cell)
one_row_fits n phrase cell l = record {
  shape = record { some_row = omega arith; few_rows = omega arith; some_column = omega arith; few_columns = omega arith; even = all_of_each (λ row. length row.cells ≡ 1) (one_row phrase cell).rows (refl, tt) };
  below = all_of_each (λ row. row.phrase < n) (one_row phrase cell).rows (l, tt);
}

number_fits : (n : ℕ) → IsSmall (pos n) → SumFits 5 (number_of n)
number_fits n h = record { few = omega arith; operands = (h, tt) }

cell_fits : (cell : ℕ) → cell < 5 → SumFits 5 (sum_of (plus_cell cell ∷ []))
cell_fits cell l = record { few = omega arith; operands = (l, tt) }

cases_fit : (n cell low : ℕ) → cell < 5 → low < n → DefinitionFits 5 n (definition.Function (cases_of cell low))
cases_fit n cell low l m = (
  record { value = record { few = omega arith; operands = (l, (omega arith, tt)) }; guard = one_row_fits n low T m },
  (record { value = record { few = omega arith; operands = (refl, tt) }; guard = one_row_fits n low F m }, tt),
)

compare_rests : (n cell : ℕ) → cell < 5 → RestsOn deep_definitions 5 n (phrases.Compare (sum_of (plus_cell cell ∷ [])) Less (number_of 0))
compare_rests n cell l = (cell_fits cell l, number_fits 0 refl)

macro_rests : (n k phrase : ℕ) → slice_get deep_definitions k ≡ Some (definition.Macro (one_row phrase T)) → phrase < n → RestsOn deep_definitions 5 n (phrases.Macro k)
macro_rests n k phrase e l = (definition.Macro (one_row phrase T), e, one_row_fits n phrase T l)

function_rests : (n k cell low : ℕ) → slice_get deep_definitions k ≡ Some (definition.Function (cases_of cell low)) → cell < 5 → low < n → RestsOn deep_definitions 5 n (phrases.Function k GreaterEqual (pos 0))
function_rests n k cell low e l m = (definition.Function (cases_of cell low), e, cases_fit n cell low l m)

-- the quantified ones, and those behind them
later_rest : EachFrom (λ k p. RestsOn deep_definitions 5 k p) 4 (drop 4 deep_phrases)
unfolding EachFrom
later_rest = ((omega arith, (omega arith, tt)), ((omega arith, (omega arith, tt)), (macro_rests 6 2 4 refl (omega arith), (tt, (function_rests 8 4 0 2 refl (omega arith) (omega arith), (function_rests 9 5 1 3 refl (omega arith) (omega arith), tt))))))

each_rests : EachFrom (λ k p. RestsOn deep_definitions 5 k p) 0 deep_phrases
unfolding EachFrom
each_rests = (compare_rests 0 0 (omega arith), (compare_rests 1 1 (omega arith), (macro_rests 2 0 0 refl (omega arith), (macro_rests 3 1 1 refl (omega arith), later_rest))))

functions_fit : Each (DefinitionFits 5 10) (drop 4 deep_definitions)
functions_fit = (cases_fit 10 0 2 (omega arith) (omega arith), (cases_fit 10 1 3 (omega arith) (omega arith), ((record { value = number_fits 0 refl; guard = tt }, tt), tt)))

each_fits : Each (DefinitionFits 5 10) deep_definitions
each_fits = (one_row_fits 10 0 T (omega arith), (one_row_fits 10 1 T (omega arith), (one_row_fits 10 4 T (omega arith), (one_row_fits 10 5 T (omega arith), functions_fit))))

rest : Rest 5 deep_definitions deep_phrases
rest = record {
  phrase = λ k p e. subst (λ n. RestsOn deep_definitions 5 n p) (omega arith) (each_from_at (λ n q. RestsOn deep_definitions 5 n q) 0 deep_phrases each_rests k p e);
  definition = λ k d e. each_at (DefinitionFits 5 10) deep_definitions each_fits k d e;
}

-- the number of each phrase, read off the phrase
abbrev cell_named : List GroundTerm → ℕ
cell_named [] = 10
cell_named (t ∷ ts) = elim t.operand [ operands.Number n ↦ 10 | operands.Cell cell ↦ cell ]

abbrev macro_phrase : ℕ → ℕ
macro_phrase zero = 2
macro_phrase (suc zero) = 3
macro_phrase (suc (suc n)) = 6

abbrev place_of : GroundPhrase → ℕ
place_of (phrases.In node) = 7
place_of (phrases.Macro number) = macro_phrase number
place_of (phrases.Any numbers) = 4
place_of (phrases.Every numbers) = 5
place_of (phrases.Compare left relation right) = cell_named left.terms
place_of (phrases.Function number relation constant) = number + 4

each_in_place : EachFrom (λ k p. place_of p ≡ k) 0 deep_phrases
unfolding EachFrom
each_in_place = (refl, (refl, (refl, (refl, (refl, (refl, (refl, (refl, (refl, (refl, tt))))))))))

in_place : (k : ℕ) (p : GroundPhrase) → slice_get deep_phrases k ≡ Some p → place_of p ≡ k
in_place k p e = each_from_at (λ n q. place_of q ≡ n) 0 deep_phrases each_in_place k p e ∙ omega arith

one_number : HaveOneNumber deep_phrases
one_number j k p a b = sym (in_place j p a) ∙ in_place k p b

-- where the grammar can write the specification: it keeps the rules and limits
is_grounded : WellFormed deep → IsGrounded numbered
is_grounded well_formed = record {
  checked = record { well_formed = well_formed; keeps = record { rules = refl; limits = refl } };
  short = lit≤ tt;
  rest = rest;
  one_number = one_number;
  stand = stand;
  few = lit≤ tt;
}
