-- What stands for the text has its sizes, and numbers that are there.
use Rattle.std.proofs.Common.{◌≡◌, ℕ, ◌<◌, ◌≤◌, true, ◌&&◌, ◌==◌, List, [], ◌∷◌, length, sym, ap, ◌∙◌, subst, arith, true≢false, All, nat_le}
use Rattle.std.specs.Prelude.{Result, Ok, Err, IfOk}
use Rattle.std.specs.Cmp.{first_so, second_so}
use Rattle.std.specs.List.{AllZip, list_all}
use Rattle.std.proofs.lemmas.Bool.Decides.{nat_tests}
use Rattle.std.proofs.lemmas.List.Elements.{All-nil, All-cons}
use Rattle.rsml_syntax.specs.declared.syntax.Spec.{Spec}
use Rattle.rsml_syntax.specs.declared.syntax.Simple.{Simple}
use Rattle.rsml_syntax.specs.declared.syntax.Phrase.{Phrase}
use Rattle.rsml_syntax.specs.declared.syntax.Phrase.TheVariants as phrase_of
use Rattle.rsml_syntax.specs.declared.syntax.Row.{Row}
use Rattle.rsml_syntax.specs.declared.syntax.Guard.{Guard}
use Rattle.rsml_syntax.specs.declared.syntax.Guard.TheVariants as guard_of
use Rattle.rsml_syntax.specs.declared.syntax.Case.{Case}
use Rattle.rsml_syntax.specs.limits.Comparisons.{Indices}
use Rattle.rsml_syntax.specs.rules.Owners.{is_table, is_count}
use Rattle.rsml_meaning.specs.Words.{Each, item_of}
use Rattle.rsml_meaning.specs.Cells.{cells}
use Rattle.rsml_meaning.specs.Truth.{within}
use Rattle.rsml_meaning.specs.Interfaces.{macro_table, function_cases}
use Rattle.rsml_meaning.specs.Interfaces as meaning_of
use Rattle.and_or_tables.specs.declared.ground.GroundRow.{GroundRow}
use Rattle.and_or_tables.specs.declared.ground.GroundTable.{GroundTable}
use Rattle.rsml_ground.specs.declared.definitions.GroundGuard.{GroundGuard}
use Rattle.rsml_ground.specs.declared.definitions.GroundGuard.TheVariants as guards
use Rattle.rsml_ground.specs.declared.definitions.GroundCase.{GroundCase}
use Rattle.rsml_ground.specs.declared.definitions.Definition.{Definition}
use Rattle.rsml_ground.specs.declared.definitions.Definition.TheVariants as definition
use Rattle.rsml_ground.specs.declared.phrases.GroundPhrase.{GroundPhrase}
use Rattle.rsml_ground.specs.declared.phrases.GroundPhrase.TheVariants as phrases
use Rattle.rsml_ground.specs.Rests.{TableFits, GuardFits, CaseFits, DefinitionFits}
use Rattle.rsml_ground.specs.StandsFor.{NumbersAre, PhraseIs, RowIs, TableIs, GuardIs, CaseIs, DefinitionIs}
use Rattle.rsml_ground.specs.Scoped.{TableIsScoped, GuardIsScoped, CaseIsScoped, DefinitionIsScoped}
use Rattle.phrase_builder.proofs.Lists.{get_below, zip_length, each_zip}
use Rattle.phrase_builder.proofs.Operands.{sum_fits}

-- Numbers are those of phrases.

phrase_below : (ps : List GroundPhrase) (s : Spec) (r : Indices) (p : Phrase) (k : ℕ) → PhraseIs ps s r p k → k < length ps
phrase_below ps s r (phrase_of.Plain b) k e = get_below ps k e.0 e.1
phrase_below ps s r (phrase_of.Any x n b) k e = get_below ps k (phrases.Any e.0) e.1
phrase_below ps s r (phrase_of.Every x n b) k e = get_below ps k (phrases.Every e.0) e.1

pub numbers_below : (ps : List GroundPhrase) (s : Spec) (r : ℕ → Indices) (b : Simple) (values ks : List ℕ) → NumbersAre ps s r b values ks → Each (λ k. k < length ps) ks
numbers_below ps s r b [] [] e = tt
numbers_below ps s r b (i ∷ values) (k ∷ ks) e = (get_below ps k e.0.0 e.0.1, numbers_below ps s r b values ks e.1)
numbers_below ps s r b [] (k ∷ ks) e = elim e [ ]
numbers_below ps s r b (i ∷ values) [] e = elim e [ ]

-- Tables.

rows_below : (ps : List GroundPhrase) (s : Spec) (r : Indices) (rows : List Row) (xs : List GroundRow) → AllZip (RowIs ps s r) rows xs → All (λ x. x.phrase < length ps) xs
rows_below ps s r [] [] e = All-nil (λ x. x.phrase < length ps)
rows_below ps s r (row ∷ rows) (x ∷ xs) e = All-cons (λ y. y.phrase < length ps) x xs (phrase_below ps s r row.phrase x.phrase e.0.phrase) (rows_below ps s r rows xs e.1)
rows_below ps s r [] (x ∷ xs) e = elim e [ ]
rows_below ps s r (row ∷ rows) [] e = elim e [ ]

rows_even : (ps : List GroundPhrase) (s : Spec) (r : Indices) (n : ℕ) (rows : List Row) (xs : List GroundRow) → AllZip (RowIs ps s r) rows xs → list_all (λ row. length row.cells == n) rows ≡ true → All (λ x. length x.cells ≡ n) xs
rows_even ps s r n [] [] e a = All-nil (λ x. length x.cells ≡ n)
rows_even ps s r n (row ∷ rows) (x ∷ xs) e a =
    let here = first_so (length row.cells == n) (list_all (λ row. length row.cells == n) rows) a in
    let later = second_so (length row.cells == n) (list_all (λ row. length row.cells == n) rows) a in
    let same : length row.cells ≡ n = grind (arith, nat_tests) in
    All-cons (λ y. length y.cells ≡ n) x xs (ap length e.0.cells ∙ same) (rows_even ps s r n rows xs e.1 later)
rows_even ps s r n [] (x ∷ xs) e a = elim e [ ]
rows_even ps s r n (row ∷ rows) [] e a = elim e [ ]

count_least : (highest n : ℕ) → is_count highest n ≡ true → 1 ≤ n
count_least highest n h =
    let l = first_so (nat_le 1 n) (nat_le n highest) h in
    grind (arith, nat_tests)

count_most : (highest n : ℕ) → is_count highest n ≡ true → n ≤ highest
count_most highest n h =
    let l = second_so (nat_le 1 n) (nat_le n highest) h in
    grind (arith, nat_tests)

rows_fit : (ps : List GroundPhrase) (s : Spec) (r : Indices) (rows : List Row) (xs : List GroundRow) → is_table rows ≡ true → AllZip (RowIs ps s r) rows xs → TableFits (length ps) (record { rows = xs })
rows_fit ps s r [] xs t e = absurd (true≢false (sym t))
rows_fit ps s r (row ∷ rows) [] t e = elim e [ ]
rows_fit ps s r (row ∷ rows) (x ∷ xs) t e =
    let many = length (row ∷ rows) in
    let wide = length row.cells in
    let even = list_all (λ y. length y.cells == wide) rows in
    let counted = first_so (is_count 64 many) (is_count 32 wide && even) t in
    let others = second_so (is_count 64 many) (is_count 32 wide && even) t in
    let columned = first_so (is_count 32 wide) even others in
    let evened = second_so (is_count 32 wide) even others in
    let as_many = zip_length (RowIs ps s r) (row ∷ rows) (x ∷ xs) e in
    let as_wide : length x.cells ≡ wide = ap length e.0.cells in
    let least = count_least 32 wide columned in
    let most = count_most 32 wide columned in
    let few = count_most 64 many counted in
    record {
      shape = record {
        some_row = omega arith;
        few_rows = omega (arith, as_many, few);
        some_column = omega (arith, as_wide, least);
        few_columns = omega (arith, as_wide, most);
        even = subst (λ n. All (λ y. length y.cells ≡ n) (x ∷ xs)) (sym as_wide) (All-cons (λ y. length y.cells ≡ wide) x xs as_wide (rows_even ps s r wide rows xs e.1 evened));
      };
      below = rows_below ps s r (row ∷ rows) (x ∷ xs) e;
    }

pub table_fits : (ps : List GroundPhrase) (s : Spec) (n : ℕ) (r : Indices) (rows : List Row) (table : GroundTable) → TableIsScoped s n r rows → TableIs ps s r rows table → TableFits (length ps) table
table_fits ps s n r rows table scoped e = rows_fit ps s r rows table.rows scoped.shape e

-- Guards and definitions.

pub guard_fits : (ps : List GroundPhrase) (s : Spec) (n : ℕ) (r : Indices) (x : Guard) (y : GroundGuard) → GuardIsScoped s n r x → GuardIs ps s r x y → GuardFits (length ps) y
guard_fits ps s n r guard_of.Always guards.Always scoped e = tt
guard_fits ps s n r (guard_of.Table rows) (guards.Table table) scoped e = table_fits ps s n r rows table scoped e
guard_fits ps s n r guard_of.Always (guards.Table table) scoped e = elim e [ ]
guard_fits ps s n r (guard_of.Table rows) guards.Always scoped e = elim e [ ]

case_fits : (ps : List GroundPhrase) (s : Spec) (n : ℕ) (r : Indices) (c : Case) (x : GroundCase) → CaseIsScoped s n r c → CaseIs ps s r c x → CaseFits (length (cells s)) (length ps) x
case_fits ps s n r c x scoped e = record { value = sum_fits s r c.value x.value scoped.0 e.value; guard = guard_fits ps s n r c.guard x.guard scoped.1 e.guard }

pub definition_fits : (ps : List GroundPhrase) (s : Spec) (n : ℕ) (d : meaning_of.Definition) (x : Definition) → DefinitionIsScoped s n d → DefinitionIs ps s d x → DefinitionFits (length (cells s)) (length ps) x
definition_fits ps s n (macro_table i rows) (definition.Macro table) scoped e = table_fits ps s n (within i.index) rows table scoped e
definition_fits ps s n (function_cases f) (definition.Function cases) scoped e =
    each_zip (λ c x. CaseIs ps s (within f.function.index) (item_of c) x) (λ c. CaseIsScoped s n (within f.function.index) (item_of c)) (CaseFits (length (cells s)) (length ps)) (λ c x q h. case_fits ps s n (within f.function.index) (item_of c) x q h) f.cases cases scoped e
definition_fits ps s n (macro_table i rows) (definition.Function cases) scoped e = elim e [ ]
definition_fits ps s n (function_cases f) (definition.Macro table) scoped e = elim e [ ]

pub guards_fit : {E : Type 0} (ps : List GroundPhrase) (s : Spec) (n : ℕ) (r : Indices) (x : Guard) (result : Result GroundGuard E) → GuardIsScoped s n r x → IfOk result (λ y. GuardIs ps s r x y) → IfOk result (λ y. GuardFits (length ps) y)
guards_fit {E} ps s n r x (Ok y) scoped e = guard_fits ps s n r x y scoped e
guards_fit {E} ps s n r x (Err error) scoped e = e
