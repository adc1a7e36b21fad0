-- Phrases, guards and functions over numbers have the truths and values of those of the text.
use Rattle.std.proofs.Common.{◌≡◌, ℕ, zero, suc, ◌<◌, Bool, ◌&&◌, ◌||◌, List, [], ◌∷◌, ◌++◌, map, length, Option, Some, if◌then◌else◌, ℤ, All, slice_get, refl, sym, ap, ◌∙◌, subst, arith}
use Rattle.std.specs.Prelude.{⊤}
use Rattle.std.specs.List.{AllZip, list_any, list_all}
use Rattle.std.proofs.lemmas.Option.{same_Some}
use Rattle.rsml_syntax.specs.declared.world.World.{World}
use Rattle.rsml_syntax.specs.declared.syntax.Decl.TheVariants as decl
use Rattle.rsml_syntax.specs.declared.syntax.Amount.{Amount}
use Rattle.rsml_syntax.specs.declared.syntax.Mention.{Mention}
use Rattle.rsml_syntax.specs.declared.syntax.Simple.{Simple}
use Rattle.rsml_syntax.specs.declared.syntax.Simple.TheVariants as simples
use Rattle.rsml_syntax.specs.declared.syntax.Phrase.{Phrase}
use Rattle.rsml_syntax.specs.declared.syntax.Phrase.TheVariants as phrase_of
use Rattle.rsml_syntax.specs.declared.syntax.Row.{Row}
use Rattle.rsml_syntax.specs.declared.syntax.Guard.{Guard}
use Rattle.rsml_syntax.specs.declared.syntax.Guard.TheVariants as guard_of
use Rattle.rsml_syntax.specs.declared.syntax.Case.{Case}
use Rattle.rsml_syntax.specs.limits.Comparisons.{Indices, index_number}
use Rattle.rsml_syntax.specs.rules.Globals.{indices}
use Rattle.rsml_syntax.specs.rules.Relations.{compare}
use Rattle.rsml_syntax.specs.rules.Tables.{table_truth}
use Rattle.rsml_meaning.specs.Words.{Instance, Each, IsOne, numbered, numbered_from, item_of}
use Rattle.rsml_meaning.specs.Instances.{globals_of}
use Rattle.rsml_meaning.specs.Cells.{cells}
use Rattle.rsml_meaning.specs.Truth.{View, bare, view, within, quantified, instance, simple, phrase, row_truth, table, guard, values_given}
use Rattle.rsml_meaning.specs.Interfaces.{FunctionInstance, macro_table, function_cases, definitions}
use Rattle.rsml_meaning.specs.Active.{active}
use Rattle.rsml_meaning.proofs.Stable.{same_rest, macros_are_their_tables, functions_give_their_cases}
use Rattle.rsml_meaning.proofs.rules.Order.{is_in_order}
use Rattle.and_or_tables.specs.Ground.{known, ground_row}
use Rattle.and_or_tables.specs.declared.ground.GroundRow.{GroundRow}
use Rattle.rsml_ground.specs.declared.definitions.GroundGuard.{GroundGuard}
use Rattle.rsml_ground.specs.declared.definitions.GroundGuard.TheVariants as guards
use Rattle.rsml_ground.specs.declared.definitions.GroundCase.{GroundCase}
use Rattle.rsml_ground.specs.declared.definitions.Definition.{Definition}
use Rattle.rsml_ground.specs.declared.definitions.Definition.TheVariants as definition
use Rattle.rsml_ground.specs.declared.phrases.GroundPhrase.{GroundPhrase}
use Rattle.rsml_ground.specs.declared.phrases.GroundPhrase.TheVariants as phrases
use Rattle.rsml_ground.specs.Truths.{Grounded, guard_truth, case_values, macro_truth, function_values, phrase_truth, truths_in}
use Rattle.rsml_ground.specs.Rests.{GuardFits, CaseFits, DefinitionFits, RestsOn}
use Rattle.rsml_ground.specs.StandsFor.{SimpleIs, NumberIs, PhraseIs, RowIs, GuardIs, CaseIs, DefinitionIs}
use Rattle.rsml_ground.specs.Grounded.{IsGrounded}
use Rattle.rsml_ground.specs.Laws.{TruthsAreOfPhrases, PhrasesMeanTheText, GuardsMeanTheText, FunctionsMeanTheText}
use Rattle.rsml_ground.proofs.Alike.{truth_of_phrase}
use Rattle.rsml_ground.proofs.SumLemmas.{sum_same}
use Rattle.rsml_ground.proofs.DeclaredLemmas.{beside_first, declared_at, path_is}

-- What is to be known of the view and of the truths: a macro is its table, a function its cases, and a truth that of its phrase.
record Facts (x : Grounded) (w : World) (h : Instance → Bool) (g : Instance → List ℤ) (ts : List Bool) : Type 0 where
  macros : (r : Indices) (m : Mention) (size : Option Amount) (rows : List Row) → IsOne (decl.Macro m.name size rows) x.spec.decls
      → h (instance (globals_of x.spec) r m) ≡ table (record (bare x.spec w) { holds = h; gives = g }) (within (index_number (globals_of x.spec) r m.index)) rows
  functions : (i : Instance) (size : Option Amount) (cases : List Case) → IsOne (decl.Function i.name size cases) x.spec.decls
      → g i ≡ values_given (record (bare x.spec w) { holds = h; gives = g }) (within i.index) cases
  truth : (k : ℕ) (p : GroundPhrase) → slice_get x.phrases k ≡ Some p → known ts k ≡ phrase_truth x w ts p

module _ (x : Grounded) (w : World) (h : Instance → Bool) (g : Instance → List ℤ) (ts : List Bool) where
  -- the world with these macros and functions
  abbrev U : View
  U = record (bare x.spec w) { holds = h; gives = g }

  -- whatever phrase of the text stands at this number, it has that truth
  abbrev Means : ℕ → Type 0
  Means k = (r : Indices) (p : Phrase) → PhraseIs x.phrases x.spec r p k → known ts k ≡ phrase U r p

  abbrev GuardMeans : GroundGuard → Type 0
  GuardMeans guards.Always = ⊤
  GuardMeans (guards.Table t) = All (λ row. Means row.phrase) t.rows

  abbrev DefinitionMeans : Definition → Type 0
  DefinitionMeans (definition.Macro t) = All (λ row. Means row.phrase) t.rows
  DefinitionMeans (definition.Function cs) = Each (λ c. GuardMeans c.guard) cs

  -- Where their phrases have their truths, tables, guards, cases and definitions have theirs.

  rows_mean : (r : Indices) (rows : List Row) (ys : List GroundRow) → AllZip (RowIs x.phrases x.spec r) rows ys → All (λ y. Means y.phrase) ys → map (ground_row ts) ys ≡ map (row_truth U r) rows
  rows_mean r [] [] e m = refl
  rows_mean r (row ∷ rows) (y ∷ ys) e m =
      let here = m 0 y (omega arith) r row.phrase e.0.phrase in
      let rest = rows_mean r rows ys e.1 (λ k d l. m (suc k) d (omega (arith, l))) in
      λ i. (here i, e.0.cells i) ∷ rest i
  rows_mean r [] (y ∷ ys) e m = elim e [ ]
  rows_mean r (row ∷ rows) [] e m = elim e [ ]

  guard_means : (r : Indices) (a : Guard) (b : GroundGuard) → GuardIs x.phrases x.spec r a b → GuardMeans b → guard_truth ts b ≡ guard U r a
  guard_means r guard_of.Always guards.Always e m = refl
  guard_means r (guard_of.Table rows) (guards.Table t) e m = ap table_truth (rows_mean r rows t.rows e m)
  guard_means r guard_of.Always (guards.Table t) e m = elim e [ ]
  guard_means r (guard_of.Table rows) guards.Always e m = elim e [ ]

  cases_mean : (r : Indices) (n : ℕ) (cs : List Case) (ys : List GroundCase) → AllZip (λ c y. CaseIs x.phrases x.spec r (item_of c) y) (numbered_from n cs) ys → Each (λ y. GuardMeans y.guard) ys
      → case_values w.cells ts ys ≡ values_given U r cs
  cases_mean r n [] [] e m = refl
  cases_mean r n (c ∷ cs) (y ∷ ys) e m =
      let here = guard_means r c.guard y.guard e.0.guard m.0 in
      let value = sum_same x.spec w h g r c.value y.value e.0.value in
      let rest = cases_mean r (suc n) cs ys e.1 m.1 in
      λ i. (if here i then value i ∷ [] else []) ++ rest i
  cases_mean r n [] (y ∷ ys) e m = elim e [ ]
  cases_mean r n (c ∷ cs) [] e m = elim e [ ]

  macro_means : (i : Instance) (rows : List Row) (d : Definition) → DefinitionIs x.phrases x.spec (macro_table i rows) d → DefinitionMeans d → macro_truth ts (Some d) ≡ table U (within i.index) rows
  macro_means i rows (definition.Macro t) e m = ap table_truth (rows_mean (within i.index) rows t.rows e m)
  macro_means i rows (definition.Function cs) e m = elim e [ ]

  function_means : (f : FunctionInstance) (cases : List Case) → f.cases ≡ numbered cases → (d : Definition) → DefinitionIs x.phrases x.spec (function_cases f) d → DefinitionMeans d
      → function_values w.cells ts (Some d) ≡ values_given U (within f.function.index) cases
  function_means f cases same (definition.Function cs) e m =
      cases_mean (within f.function.index) 1 cases cs (subst (λ z. AllZip (λ c y. CaseIs x.phrases x.spec (within f.function.index) (item_of c) y) z cs) same e) m
  function_means f cases same (definition.Macro t) e m = elim e [ ]

  any_means : (f : ℕ → Indices) (b : Simple) (is ks : List ℕ) → AllZip (λ i k. NumberIs x.phrases x.spec (f i) b k) is ks → Each Means ks → list_any (known ts) ks ≡ list_any (λ i. simple U (f i) b) is
  any_means f b [] [] e m = refl
  any_means f b (i ∷ is) (k ∷ ks) e m =
      let here = m.0 (f i) (phrase_of.Plain b) e.0 in
      let rest = any_means f b is ks e.1 m.1 in
      λ j. here j || rest j
  any_means f b [] (k ∷ ks) e m = elim e [ ]
  any_means f b (i ∷ is) [] e m = elim e [ ]

  every_means : (f : ℕ → Indices) (b : Simple) (is ks : List ℕ) → AllZip (λ i k. NumberIs x.phrases x.spec (f i) b k) is ks → Each Means ks → list_all (known ts) ks ≡ list_all (λ i. simple U (f i) b) is
  every_means f b [] [] e m = refl
  every_means f b (i ∷ is) (k ∷ ks) e m =
      let here = m.0 (f i) (phrase_of.Plain b) e.0 in
      let rest = every_means f b is ks e.1 m.1 in
      λ j. here j && rest j
  every_means f b [] (k ∷ ks) e m = elim e [ ]
  every_means f b (i ∷ is) [] e m = elim e [ ]

  -- What rests on phrases below a number, where those have their truths.

  -- the phrases below this number have their truths
  abbrev Below : ℕ → Type 0
  Below n = (k : ℕ) → k < n → Means k

  each_below : (n : ℕ) → Below n → (ks : List ℕ) → Each (λ k. k < n) ks → Each Means ks
  each_below n b [] e = tt
  each_below n b (k ∷ ks) e = (b k e.0, each_below n b ks e.1)

  guard_below : (n : ℕ) → Below n → (y : GroundGuard) → GuardFits n y → GuardMeans y
  guard_below n b guards.Always e = tt
  guard_below n b (guards.Table t) e = λ k d l. b _ (e.below k d l)

  cases_below : (count n : ℕ) → Below n → (ys : List GroundCase) → Each (CaseFits count n) ys → Each (λ y. GuardMeans y.guard) ys
  cases_below count n b [] e = tt
  cases_below count n b (y ∷ ys) e = (guard_below n b y.guard e.0.guard, cases_below count n b ys e.1)

  definition_below : (count n : ℕ) → Below n → (d : Definition) → DefinitionFits count n d → DefinitionMeans d
  definition_below count n b (definition.Macro t) e = λ k d l. b _ (e.below k d l)
  definition_below count n b (definition.Function cs) e = cases_below count n b cs e

  module _ (facts : Facts x w h g ts) (stand : AllZip (DefinitionIs x.phrases x.spec) (definitions x.spec) x.definitions) where
    -- a macro's table has the truth of the macro
    macro_says : (r : Indices) (m : Mention) (rows : List Row) (k : ℕ) → slice_get (definitions x.spec) k ≡ Some (macro_table (instance (globals_of x.spec) r m) rows)
        → ((d : Definition) → slice_get x.definitions k ≡ Some d → DefinitionMeans d) → macro_truth ts (slice_get x.definitions k) ≡ h (instance (globals_of x.spec) r m)
    macro_says r m rows k e means =
        let i = instance (globals_of x.spec) r m in
        let y = beside_first (DefinitionIs x.phrases x.spec) (definitions x.spec) x.definitions stand k (macro_table i rows) e in
        let there = declared_at x.spec k (macro_table i rows) e in
        ap (macro_truth ts) y.1 ∙ macro_means i rows y.0 y.2 (means y.0 y.1) ∙ sym (facts.macros r m there.0 rows there.1)

    -- a function's cases have the values of the function
    function_says : (f : FunctionInstance) (k : ℕ) → slice_get (definitions x.spec) k ≡ Some (function_cases f)
        → ((d : Definition) → slice_get x.definitions k ≡ Some d → DefinitionMeans d) → function_values w.cells ts (slice_get x.definitions k) ≡ g f.function
    function_says f k e means =
        let y = beside_first (DefinitionIs x.phrases x.spec) (definitions x.spec) x.definitions stand k (function_cases f) e in
        let there = declared_at x.spec k (function_cases f) e in
        ap (function_values w.cells ts) y.1 ∙ function_means f there.1 there.3 y.0 y.2 (means y.0 y.1) ∙ sym (facts.functions f.function there.0 there.1 there.2)

    simple_means : (count n : ℕ) → Below n → (r : Indices) (b : Simple) (p : GroundPhrase) → SimpleIs x.spec r b p → RestsOn x.definitions count n p → phrase_truth x w ts p ≡ simple U r b
    simple_means count n below r (simples.In path) (phrases.In node) e q = ap (active x.spec w) (path_is x.spec node _ e)
    simple_means count n below r (simples.Macro m) (phrases.Macro k) e q =
        macro_says r m e.0 k e.1 (λ d there. definition_below count n below d (subst (λ z. DefinitionFits count n z) (same_Some q.0 d (sym q.1 ∙ there)) q.2))
    simple_means count n below r (simples.Compare left relation right) (phrases.Compare a o c) e q =
        let l = sum_same x.spec w h g r left a e.0 in
        let m = sum_same x.spec w h g r right c e.2 in
        λ i. compare (e.1 i) (l i) (m i)
    simple_means count n below r (simples.Function f relation right) (phrases.Function k o constant) e q =
        let means : (d : Definition) → slice_get x.definitions k ≡ Some d → DefinitionMeans d = λ d there. definition_below count n below d (subst (λ z. DefinitionFits count n z) (same_Some q.0 d (sym q.1 ∙ there)) q.2) in
        let values = function_says e.0.0 k e.0.1 means ∙ ap g e.0.2 in
        let number = sym (e.2.2 w.cells) ∙ sum_same x.spec w h g r right e.2.0 e.2.1 in
        λ i. list_any (λ z. compare (e.1 i) z (number i)) (values i)
    simple_means count n below r _ _ e q = elim e [ ]

    module _ (count : ℕ) (rests : (k : ℕ) (p : GroundPhrase) → slice_get x.phrases k ≡ Some p → RestsOn x.definitions count k p) where
      here_means : (k : ℕ) → Below k → Means k
      here_means k b r (phrase_of.Plain a) e = facts.truth k e.0 e.1 ∙ simple_means count k b r a e.0 e.2 (rests k e.0 e.1)
      here_means k b r (phrase_of.Any name bound a) e =
          facts.truth k (phrases.Any e.0) e.1 ∙ any_means (quantified r name) a (indices (globals_of x.spec) (Some bound)) e.0 e.2 (each_below k b e.0 (rests k (phrases.Any e.0) e.1))
      here_means k b r (phrase_of.Every name bound a) e =
          facts.truth k (phrases.Every e.0) e.1 ∙ every_means (quantified r name) a (indices (globals_of x.spec) (Some bound)) e.0 e.2 (each_below k b e.0 (rests k (phrases.Every e.0) e.1))

      below_all : (n : ℕ) → Below n
      below_all zero k l = absurd (omega (arith, l))
      below_all (suc n) k l = here_means k (λ j under. below_all n j (omega (arith, l, under)))

      -- each phrase has the truth of that of the text
      all_mean : (k : ℕ) → Means k
      all_mean k = here_means k (below_all k)

      guard_all : (y : GroundGuard) → GuardMeans y
      guard_all guards.Always = tt
      guard_all (guards.Table t) = λ k d l. all_mean _

      cases_all : (ys : List GroundCase) → Each (λ y. GuardMeans y.guard) ys
      cases_all [] = tt
      cases_all (y ∷ ys) = (guard_all y.guard, cases_all ys)

      definition_all : (d : Definition) → DefinitionMeans d
      definition_all (definition.Macro t) = λ k d l. all_mean _
      definition_all (definition.Function cs) = cases_all cs

      guards_mean : (r : Indices) (a : Guard) (y : GroundGuard) → GuardIs x.phrases x.spec r a y → guard_truth ts y ≡ guard U r a
      guards_mean r a y e = guard_means r a y e (guard_all y)

      functions_mean : (k : ℕ) (f : FunctionInstance) → slice_get (definitions x.spec) k ≡ Some (function_cases f) → function_values w.cells ts (slice_get x.definitions k) ≡ g f.function
      functions_mean k f e = function_says f k e (λ d there. definition_all d)

-- The laws.

pub truths_are_of_phrases : TruthsAreOfPhrases
truths_are_of_phrases g w e k p h = truth_of_phrase g w (length (cells g.spec)) e.rest k p h

module _ (x : Grounded) (w : World) (e : IsGrounded x) where
  abbrev V : View
  V = view x.spec w

  same_view : V ≡ U x w V.holds V.gives (truths_in x w)
  same_view = same_rest x.spec.decls (bare x.spec w)

  facts : Facts x w V.holds V.gives (truths_in x w)
  facts = record {
    macros = λ r m size rows one. subst (λ (v : View). v.holds (instance v.names r m) ≡ table v (within (index_number v.names r m.index)) rows) same_view
        (macros_are_their_tables x.spec w (is_in_order x.spec e.checked.keeps.rules) r m size rows one);
    functions = λ i size cases one. functions_give_their_cases x.spec w (is_in_order x.spec e.checked.keeps.rules) i.name i.index size cases one ∙ ap (λ v. values_given v (within i.index) cases) same_view;
    truth = truths_are_of_phrases x w e;
  }

  phrase_of_text : (r : Indices) (p : Phrase) (k : ℕ) → PhraseIs x.phrases x.spec r p k → known (truths_in x w) k ≡ phrase V r p
  phrase_of_text r p k h =
      all_mean x w V.holds V.gives (truths_in x w) facts e.stand (length (cells x.spec)) e.rest.phrase k r p h ∙ ap (λ v. phrase v r p) (sym same_view)

  guard_of_text : (r : Indices) (a : Guard) (y : GroundGuard) → GuardIs x.phrases x.spec r a y → guard_truth (truths_in x w) y ≡ guard V r a
  guard_of_text r a y h =
      guards_mean x w V.holds V.gives (truths_in x w) facts e.stand (length (cells x.spec)) e.rest.phrase r a y h ∙ ap (λ v. guard v r a) (sym same_view)

  function_of_text : (k : ℕ) (f : FunctionInstance) → slice_get (definitions x.spec) k ≡ Some (function_cases f) → function_values w.cells (truths_in x w) (slice_get x.definitions k) ≡ V.gives f.function
  function_of_text k f h = functions_mean x w V.holds V.gives (truths_in x w) facts e.stand (length (cells x.spec)) e.rest.phrase k f h

pub phrases_mean_the_text : PhrasesMeanTheText
phrases_mean_the_text g w e = phrase_of_text g w e

pub guards_mean_the_text : GuardsMeanTheText
guards_mean_the_text g w e = guard_of_text g w e

pub functions_mean_the_text : FunctionsMeanTheText
functions_mean_the_text g w e = function_of_text g w e
