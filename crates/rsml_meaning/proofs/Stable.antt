-- A macro is its table, and a function its cases, in one and the same view.
use Rattle.std.proofs.Common.{◌≡◌, ℕ, ◌+◌, Bool, true, false, not, ◌&&◌, ◌||◌, List, [], ◌∷◌, ◌++◌, map, fold, is_some, Option, Some, if◌then◌else◌, cond, ℤ, inl, inr, refl, sym, ap, ◌∙◌, subst, true≢false}
use Rattle.std.specs.List.{list_all, list_any, position_from}
use Rattle.std.specs.Cmp.{first_so, second_so}
use Rattle.rsml_syntax.specs.declared.syntax.Decl.{Decl}
use Rattle.rsml_syntax.specs.declared.syntax.Decl.TheVariants as decl
use Rattle.rsml_syntax.specs.declared.syntax.Simple.{Simple}
use Rattle.rsml_syntax.specs.declared.syntax.Simple.TheVariants as simples
use Rattle.rsml_syntax.specs.declared.syntax.Phrase.{Phrase}
use Rattle.rsml_syntax.specs.declared.syntax.Phrase.TheVariants as phrases
use Rattle.rsml_syntax.specs.declared.syntax.Relation.{Relation}
use Rattle.rsml_syntax.specs.declared.syntax.Row.{Row}
use Rattle.rsml_syntax.specs.declared.syntax.Case.{Case}
use Rattle.rsml_syntax.specs.declared.syntax.Guard.{Guard}
use Rattle.rsml_syntax.specs.declared.syntax.Guard.TheVariants as guards
use Rattle.rsml_syntax.specs.declared.syntax.Amount.{Amount}
use Rattle.rsml_syntax.specs.text.Names.{Name, same, is_in}
use Rattle.rsml_syntax.specs.rules.Relations.{compare}
use Rattle.rsml_syntax.specs.rules.Tables.{table_truth}
use Rattle.rsml_meaning.specs.Words.{Instance, at, IsOne}
use Rattle.rsml_syntax.specs.rules.Globals.{indices}
use Rattle.rsml_syntax.specs.limits.Comparisons.{Indices, index_number}
use Rattle.rsml_syntax.specs.grammar.Written.{simple_of, rows_of}
use Rattle.rsml_meaning.specs.Truth.{View, view, learn, bare, within, instance, simple, phrase, table, row_truth, guard, values_given, sum, quantified}
use Rattle.rsml_meaning.specs.InOrder.{used_by_simple, used_by_rows, used_by_cases, may_declare, in_order}
use Rattle.rsml_meaning.specs.Laws.{MacrosAreTheirTables, FunctionsAreTheirCases, compares_so, FunctionsGiveTheirCases}
use Rattle.rsml_meaning.proofs.Same.{name_same, name_itself}

-- Known names.

abbrev all_in : List Name → List Name → Bool
all_in known names = list_all (λ x. is_in x known) names

found_is_any : (t : Name → Bool) (K : List Name) (i : ℕ) → is_some (position_from t i K) ≡ list_any t K
found_is_any t [] i = refl
found_is_any t (x ∷ K) i = by_test (t x) (found_is_any t K (i + 1))
  where
    by_test : (b : Bool) → is_some (position_from t (i + 1) K) ≡ list_any t K → is_some (cond b (Some i) (position_from t (i + 1) K)) ≡ (b || list_any t K)
    by_test true e = refl
    by_test false e = e

is_in_any : (n : Name) (K : List Name) → is_in n K ≡ list_any (same n) K
is_in_any n K = found_is_any (same n) K 0

or_true : (a b : Bool) → b ≡ true → (a || b) ≡ true
or_true true b h = refl
or_true false b h = h

in_more : (x : Name) (K : List Name) (n : Name) → is_in n K ≡ true → is_in n (x ∷ K) ≡ true
in_more x K n h = is_in_any n (x ∷ K) ∙ or_true (same n x) (list_any (same n) K) (sym (is_in_any n K) ∙ h)

in_first : (x : Name) (K : List Name) → is_in x (x ∷ K) ≡ true
in_first x K = is_in_any x (x ∷ K) ∙ ap (λ b. b || list_any (same x) K) (name_itself x)

-- a known name is not a new one
other_name : (K : List Name) (x n : Name) → is_in x K ≡ false → is_in n K ≡ true → same x n ≡ false
other_name K x n h k = by_test (same x n) refl
  where
    by_test : (b : Bool) → same x n ≡ b → b ≡ false
    by_test true e = absurd (true≢false (sym k ∙ ap (λ z. is_in z K) (sym (name_same x n e)) ∙ h))
    by_test false e = refl

-- Views that agree on the known names.

-- the same view with other macros and functions
abbrev with_known : View → (Instance → Bool) → (Instance → List ℤ) → View
with_known v h g = record v { holds = h; gives = g }

all_front : {A : Type 0} (p : A → Bool) (xs ys : List A) → list_all p (xs ++ ys) ≡ true → list_all p xs ≡ true
all_front p [] ys h = refl
all_front p (x ∷ xs) ys h = λ i. first_so (p x) (list_all p (xs ++ ys)) h i && all_front p xs ys (second_so (p x) (list_all p (xs ++ ys)) h) i

all_back : {A : Type 0} (p : A → Bool) (xs ys : List A) → list_all p (xs ++ ys) ≡ true → list_all p ys ≡ true
all_back p [] ys h = h
all_back p (x ∷ xs) ys h = all_back p xs ys (second_so (p x) (list_all p (xs ++ ys)) h)

any_same : {A : Type 0} (f g : A → Bool) → ((x : A) → f x ≡ g x) → (xs : List A) → list_any f xs ≡ list_any g xs
any_same f g e [] = refl
any_same f g e (x ∷ xs) = λ i. e x i || any_same f g e xs i

every_same : {A : Type 0} (f g : A → Bool) → ((x : A) → f x ≡ g x) → (xs : List A) → list_all f xs ≡ list_all g xs
every_same f g e [] = refl
every_same f g e (x ∷ xs) = λ i. e x i && every_same f g e xs i

module _ (K : List Name) (v : View) (h : Instance → Bool) (g : Instance → List ℤ)
    (same_holds : (i : Instance) → is_in i.name K ≡ true → v.holds i ≡ h i) (same_gives : (i : Instance) → is_in i.name K ≡ true → v.gives i ≡ g i) where
  abbrev w : View
  w = with_known v h g

  simple_same : (r : Indices) (b : Simple) → all_in K (used_by_simple b) ≡ true → simple v r b ≡ simple w r b
  simple_same r (simples.In path) k = refl
  simple_same r (simples.Macro m) k = same_holds (instance v.names r m) (first_so (is_in m.name K) true k)
  simple_same r (simples.Compare left relation right) k = refl
  simple_same r (simples.Function f relation right) k = ap (λ xs. list_any (λ x. compare relation x (sum v r right)) xs) (same_gives (instance v.names r f) (first_so (is_in f.name K) true k))

  phrase_same : (r : Indices) (p : Phrase) → all_in K (used_by_simple (simple_of p)) ≡ true → phrase v r p ≡ phrase w r p
  phrase_same r (phrases.Plain b) k = simple_same r b k
  phrase_same r (phrases.Any x n b) k = any_same (λ i. simple v (quantified r x i) b) (λ i. simple w (quantified r x i) b) (λ i. simple_same (quantified r x i) b k) (indices v.names (Some n))
  phrase_same r (phrases.Every x n b) k = every_same (λ i. simple v (quantified r x i) b) (λ i. simple w (quantified r x i) b) (λ i. simple_same (quantified r x i) b k) (indices v.names (Some n))

  rows_same : (r : Indices) (rows : List Row) → all_in K (used_by_rows rows) ≡ true → map (row_truth v r) rows ≡ map (row_truth w r) rows
  rows_same r [] k = refl
  rows_same r (row ∷ rows) k =
      let a = phrase_same r row.phrase (all_front (λ x. is_in x K) (used_by_simple (simple_of row.phrase)) (used_by_rows rows) k) in
      let b = rows_same r rows (all_back (λ x. is_in x K) (used_by_simple (simple_of row.phrase)) (used_by_rows rows) k) in
      λ i. (a i, row.cells) ∷ b i

  pub table_same : (r : Indices) (rows : List Row) → all_in K (used_by_rows rows) ≡ true → table v r rows ≡ table w r rows
  table_same r rows k = ap table_truth (rows_same r rows k)

  guard_same : (r : Indices) (x : Guard) → all_in K (used_by_rows (rows_of x)) ≡ true → guard v r x ≡ guard w r x
  guard_same r guards.Always k = refl
  guard_same r (guards.Table rows) k = table_same r rows k

  pub values_same : (r : Indices) (cases : List Case) → all_in K (used_by_cases cases) ≡ true → values_given v r cases ≡ values_given w r cases
  values_same r [] k = refl
  values_same r (c ∷ cases) k =
      let a = guard_same r c.guard (all_front (λ x. is_in x K) (used_by_rows (rows_of c.guard)) (used_by_cases cases) k) in
      let b = values_same r cases (all_back (λ x. is_in x K) (used_by_rows (rows_of c.guard)) (used_by_cases cases) k) in
      λ i. (if a i then sum v r c.value ∷ [] else []) ++ b i

-- What later declarations leave as it was.

learned_rest : (d : Decl) (v : View) (h : Instance → Bool) (g : Instance → List ℤ) → with_known (learn v d) h g ≡ with_known v h g
learned_rest (decl.Macro x size rows) v h g = refl
learned_rest (decl.Function x size cases) v h g = refl
learned_rest _ v h g = refl

-- reading declarations changes macros and functions alone
pub same_rest : (ds : List Decl) (v : View) → fold learn v ds ≡ with_known v (fold learn v ds).holds (fold learn v ds).gives
same_rest [] v = refl
same_rest (d ∷ ds) v = same_rest ds (learn v d) ∙ learned_rest d v (fold learn (learn v d) ds).holds (fold learn (learn v d) ds).gives

is_not : (b : Bool) → not b ≡ true → b ≡ false
is_not true h = absurd (true≢false (sym h))
is_not false h = refl

choose_false : {A : Type 0} (b : Bool) (x y : A) → b ≡ false → elim b [ true ↦ x | false ↦ y ] ≡ y
choose_false true x y e = absurd (true≢false e)
choose_false false x y e = refl

choose_true : {A : Type 0} (b : Bool) (x y : A) → b ≡ true → elim b [ true ↦ x | false ↦ y ] ≡ x
choose_true true x y e = refl
choose_true false x y e = absurd (true≢false (sym e))

-- What a view says of the known names is what another says.
pub record Keeps (K : List Name) (v u : View) : Type 0 where
  holds : (i : Instance) → is_in i.name K ≡ true → u.holds i ≡ v.holds i
  gives : (i : Instance) → is_in i.name K ≡ true → u.gives i ≡ v.gives i

keeps_macro : (K : List Name) (x : Name) (size : Option Amount) (rows : List Row) (v : View) → is_in x K ≡ false → Keeps K v (learn v (decl.Macro x size rows))
keeps_macro K x size rows v h = record {
  holds = λ i k. choose_false (same x i.name) (table v (within i.index) rows) (v.holds i) (other_name K x i.name h k);
  gives = λ i k. refl;
}

keeps_function : (K : List Name) (x : Name) (size : Option Amount) (cases : List Case) (v : View) → is_in x K ≡ false → Keeps K v (learn v (decl.Function x size cases))
keeps_function K x size cases v h = record {
  holds = λ i k. refl;
  gives = λ i k. choose_false (same x i.name) (values_given v (within i.index) cases) (v.gives i) (other_name K x i.name h k);
}

keeps_then : (K : List Name) (x : Name) (v u t : View) → Keeps K v u → Keeps (x ∷ K) u t → Keeps K v t
keeps_then K x v u t a b = record {
  holds = λ i k. b.holds i (in_more x K i.name k) ∙ a.holds i k;
  gives = λ i k. b.gives i (in_more x K i.name k) ∙ a.gives i k;
}

known_used : (K used : List Name) (x : Name) (rest : Bool) → (may_declare K x used && rest) ≡ true → all_in K used ≡ true
known_used K used x rest h = first_so (all_in K used) (not (is_in x K)) (first_so (may_declare K x used) rest h)

new_name : (K used : List Name) (x : Name) (rest : Bool) → (may_declare K x used && rest) ≡ true → is_in x K ≡ false
new_name K used x rest h = is_not (is_in x K) (second_so (all_in K used) (not (is_in x K)) (first_so (may_declare K x used) rest h))

later : (K used : List Name) (x : Name) (rest : Bool) → (may_declare K x used && rest) ≡ true → rest ≡ true
later K used x rest h = second_so (may_declare K x used) rest h

keeps : (K : List Name) (ds : List Decl) (v : View) → in_order K ds ≡ true → Keeps K v (fold learn v ds)
keeps K [] v h = record { holds = λ i k. refl; gives = λ i k. refl }
keeps K (decl.Macro x size rows ∷ ds) v h =
    keeps_then K x v (learn v (decl.Macro x size rows)) (fold learn (learn v (decl.Macro x size rows)) ds)
    (keeps_macro K x size rows v (new_name K (used_by_rows rows) x (in_order (x ∷ K) ds) h))
    (keeps (x ∷ K) ds (learn v (decl.Macro x size rows)) (later K (used_by_rows rows) x (in_order (x ∷ K) ds) h))
keeps K (decl.Function x size cases ∷ ds) v h =
    keeps_then K x v (learn v (decl.Function x size cases)) (fold learn (learn v (decl.Function x size cases)) ds)
    (keeps_function K x size cases v (new_name K (used_by_cases cases) x (in_order (x ∷ K) ds) h))
    (keeps (x ∷ K) ds (learn v (decl.Function x size cases)) (later K (used_by_cases cases) x (in_order (x ∷ K) ds) h))
keeps K (d ∷ ds) v h = keeps K ds v h

-- The equations, for the declarations that are still to be read.

macro_head : (K : List Name) (x : Name) (size : Option Amount) (rows : List Row) (ds : List Decl) (v : View) (i : ℕ) → in_order K (decl.Macro x size rows ∷ ds) ≡ true
    → (fold learn v (decl.Macro x size rows ∷ ds)).holds (at x i) ≡ table (fold learn v (decl.Macro x size rows ∷ ds)) (within i) rows
macro_head K x size rows ds v i h =
    let u = learn v (decl.Macro x size rows) in
    let all = keeps K (decl.Macro x size rows ∷ ds) v h in
    let next = keeps (x ∷ K) ds u (later K (used_by_rows rows) x (in_order (x ∷ K) ds) h) in
    next.holds (at x i) (in_first x K)
    ∙ choose_true (same x x) (table v (within i) rows) (v.holds (at x i)) (name_itself x)
    ∙ table_same K v (fold learn u ds).holds (fold learn u ds).gives (λ j k. sym (all.holds j k)) (λ j k. sym (all.gives j k)) (within i) rows (known_used K (used_by_rows rows) x (in_order (x ∷ K) ds) h)
    ∙ ap (λ z. table z (within i) rows) (sym (same_rest (decl.Macro x size rows ∷ ds) v))

macro_says : (K : List Name) (x : Name) (size : Option Amount) (rows : List Row) (i : ℕ) (ds : List Decl) (v : View) → in_order K ds ≡ true → IsOne (decl.Macro x size rows) ds
    → (fold learn v ds).holds (at x i) ≡ table (fold learn v ds) (within i) rows
macro_says K x size rows i [] v h m = absurd m
macro_says K x size rows i (d ∷ ds) v h (inl e) =
    subst (λ (z : Decl). in_order K (z ∷ ds) ≡ true → (fold learn v (z ∷ ds)).holds (at x i) ≡ table (fold learn v (z ∷ ds)) (within i) rows) e (macro_head K x size rows ds v i) h
macro_says K x size rows i (decl.Macro y z q ∷ ds) v h (inr m) = macro_says (y ∷ K) x size rows i ds (learn v (decl.Macro y z q)) (later K (used_by_rows q) y (in_order (y ∷ K) ds) h) m
macro_says K x size rows i (decl.Function y z q ∷ ds) v h (inr m) = macro_says (y ∷ K) x size rows i ds (learn v (decl.Function y z q)) (later K (used_by_cases q) y (in_order (y ∷ K) ds) h) m
macro_says K x size rows i (d ∷ ds) v h (inr m) = macro_says K x size rows i ds v h m

function_head : (K : List Name) (x : Name) (size : Option Amount) (cases : List Case) (ds : List Decl) (v : View) (i : ℕ) → in_order K (decl.Function x size cases ∷ ds) ≡ true
    → (fold learn v (decl.Function x size cases ∷ ds)).gives (at x i) ≡ values_given (fold learn v (decl.Function x size cases ∷ ds)) (within i) cases
function_head K x size cases ds v i h =
    let u = learn v (decl.Function x size cases) in
    let all = keeps K (decl.Function x size cases ∷ ds) v h in
    let next = keeps (x ∷ K) ds u (later K (used_by_cases cases) x (in_order (x ∷ K) ds) h) in
    next.gives (at x i) (in_first x K)
    ∙ choose_true (same x x) (values_given v (within i) cases) (v.gives (at x i)) (name_itself x)
    ∙ values_same K v (fold learn u ds).holds (fold learn u ds).gives (λ j k. sym (all.holds j k)) (λ j k. sym (all.gives j k)) (within i) cases (known_used K (used_by_cases cases) x (in_order (x ∷ K) ds) h)
    ∙ ap (λ z. values_given z (within i) cases) (sym (same_rest (decl.Function x size cases ∷ ds) v))

function_says : (K : List Name) (x : Name) (size : Option Amount) (cases : List Case) (i : ℕ) (ds : List Decl) (v : View) → in_order K ds ≡ true → IsOne (decl.Function x size cases) ds
    → (fold learn v ds).gives (at x i) ≡ values_given (fold learn v ds) (within i) cases
function_says K x size cases i [] v h m = absurd m
function_says K x size cases i (d ∷ ds) v h (inl e) =
    subst (λ (z : Decl). in_order K (z ∷ ds) ≡ true → (fold learn v (z ∷ ds)).gives (at x i) ≡ values_given (fold learn v (z ∷ ds)) (within i) cases) e (function_head K x size cases ds v i) h
function_says K x size cases i (decl.Macro y z q ∷ ds) v h (inr m) = function_says (y ∷ K) x size cases i ds (learn v (decl.Macro y z q)) (later K (used_by_rows q) y (in_order (y ∷ K) ds) h) m
function_says K x size cases i (decl.Function y z q ∷ ds) v h (inr m) = function_says (y ∷ K) x size cases i ds (learn v (decl.Function y z q)) (later K (used_by_cases q) y (in_order (y ∷ K) ds) h) m
function_says K x size cases i (d ∷ ds) v h (inr m) = function_says K x size cases i ds v h m

-- The laws.

pub macros_are_their_tables : MacrosAreTheirTables
macros_are_their_tables s w h r m size rows one = macro_says [] m.name size rows (index_number (view s w).names r m.index) s.decls (bare s w) h one

-- a function gives the values of its cases with a true guard
pub functions_give_their_cases : FunctionsGiveTheirCases
functions_give_their_cases s w h name i size cases one = function_says [] name size cases i s.decls (bare s w) h one

any_value : (v : View) (r : Indices) (relation : Relation) (n : ℤ) (cases : List Case)
    → list_any (λ x. compare relation x n) (values_given v r cases) ≡ list_any (compares_so v r relation n) cases
any_value v r relation n [] = refl
any_value v r relation n (c ∷ cases) = by_guard (guard v r c.guard) (any_value v r relation n cases)
  where
    by_guard : (b : Bool) → list_any (λ x. compare relation x n) (values_given v r cases) ≡ list_any (compares_so v r relation n) cases
        → list_any (λ x. compare relation x n) ((if b then sum v r c.value ∷ [] else []) ++ values_given v r cases)
        ≡ ((b && compare relation (sum v r c.value) n) || list_any (compares_so v r relation n) cases)
    by_guard true e = ap (λ b. compare relation (sum v r c.value) n || b) e
    by_guard false e = e

pub functions_are_their_cases : FunctionsAreTheirCases
functions_are_their_cases s w h r f size cases relation right one =
    let i = index_number (view s w).names r f.index in
    ap (λ xs. list_any (λ x. compare relation x (sum (view s w) r right)) xs) (functions_give_their_cases s w h f.name i size cases one)
    ∙ any_value (view s w) (within i) relation (sum (view s w) r right) cases
