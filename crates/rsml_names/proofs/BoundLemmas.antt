-- Variables by their names and their places, and those of declarations one after another.
use Rattle.std.proofs.Common.{◌≡◌, ℕ, suc, ◌+◌, Bool, true, false, cond, List, [], ◌∷◌, ◌++◌, length, map, Option, Some, None, refl, ap, ◌∙◌, slice_get, arith}
use Rattle.std.specs.Option.{option_map, option_and_then}
use Rattle.std.specs.List.{position_from, find, flat_map}
use Rattle.std.proofs.lemmas.List.{append-nil, map-append}
use Rattle.std.proofs.lemmas.List.Folds.{flat_map-map}
use Rattle.std.proofs.lemmas.Grind.{flat_map-append}
use Rattle.rsml_syntax.specs.declared.syntax.Guard.{Guard}
use Rattle.rsml_syntax.specs.declared.syntax.Row.{Row}
use Rattle.rsml_syntax.specs.grammar.Written.{rows_of, variable_of, variables_in}
use Rattle.rsml_syntax.specs.text.Names.{Name}
use Rattle.rsml_syntax.specs.declared.syntax.Decl.{Decl}
use Rattle.rsml_syntax.specs.rules.Globals.{Known, known_values, known_by, values_of, names_of, globals}
use Rattle.rsml_syntax.specs.rules.Scopes.{Variable, variable_at, variables, variables_of_part}
use Rattle.rsml_syntax.specs.grammar.Parts.{declared}
use Rattle.rsml_names.specs.Bound.{joined, of_phrase, of_rows, of_guard, variables_from}
use Rattle.rsml_names.proofs.NamesLemmas.{placed_later}

-- one more name with its place is one more variable
pub joined_push : (names : List Name) (places : List ℕ) (name : Name) (place : ℕ) → length names ≡ length places → joined (names ++ name ∷ []) (places ++ place ∷ []) ≡ joined names places ++ variable_at place name ∷ []
joined_push [] [] name place h = refl
joined_push (n ∷ ns) (p ∷ ps) name place h = ap (λ (vs : List Variable). variable_at p n ∷ vs) (joined_push ns ps name place cc)
joined_push [] (p ∷ ps) name place h = cc
joined_push (n ∷ ns) [] name place h = cc

-- the place of the first variable that passes is that of the first name that passes
pub first_passing : (t : Name → Bool) (names : List Name) (places : List ℕ) → length names ≡ length places →
    option_and_then (slice_get places) (position_from t 0 names) ≡ option_map (λ (v : Variable). v.place) (find (λ (v : Variable). t v.name) (joined names places))
first_passing t [] [] h = refl
first_passing t (n ∷ ns) (p ∷ ps) h = by (t n) (first_passing t ns ps cc)
  where
    rest : Option Variable
    rest = find (λ (v : Variable). t v.name) (joined ns ps)

    later : (o : Option ℕ) → option_and_then (slice_get (p ∷ ps)) (option_map suc o) ≡ option_and_then (slice_get ps) o
    later None = refl
    later (Some i) = refl

    by : (b : Bool) → option_and_then (slice_get ps) (position_from t 0 ns) ≡ option_map (λ (v : Variable). v.place) rest →
        option_and_then (slice_get (p ∷ ps)) (cond b (Some 0) (position_from t (0 + 1) ns)) ≡ option_map (λ (v : Variable). v.place) (cond b (Some (variable_at p n)) rest)
    by true k = refl
    by false k = ap (λ (o : Option ℕ). option_and_then (slice_get (p ∷ ps)) o) (placed_later t 0 ns) ∙ later (position_from t 0 ns) ∙ k
first_passing t [] (p ∷ ps) h = cc
first_passing t (n ∷ ns) [] h = cc

-- THE VARIABLES OF A DECLARATION

abbrev of_row : Row → List Name
of_row row = variable_of row.phrase

-- the variables of rows
of_table : (place : ℕ) (rows : List Row) → map (variable_at place) (flat_map of_row rows) ≡ of_rows place rows
of_table place [] = refl
of_table place (row ∷ rows) =
    map-append (variable_at place) (of_row row) (flat_map of_row rows)
    ∙ ap (λ (vs : List Variable). of_phrase place row.phrase ++ vs) (of_table place rows)

-- the variables of one table alone
pub of_macro : (place : ℕ) (rows : List Row) → map (variable_at place) (flat_map of_row (rows ++ [])) ≡ of_rows place rows
of_macro place rows =
    ap (λ (rs : List Row). map (variable_at place) (flat_map of_row rs)) (append-nil rows)
    ∙ of_table place rows

-- the variables of guards
of_guards : (place : ℕ) (guards : List Guard) → map (variable_at place) (flat_map of_row (flat_map rows_of guards)) ≡ flat_map (of_guard place) guards
of_guards place [] = refl
of_guards place (g ∷ gs) =
    let rest = flat_map of_row (flat_map rows_of gs) in
    ap (λ (ns : List Name). map (variable_at place) ns) (flat_map-append of_row (rows_of g) (flat_map rows_of gs))
    ∙ map-append (variable_at place) (flat_map of_row (rows_of g)) rest
    ∙ ap (λ (vs : List Variable). vs ++ map (variable_at place) rest) (of_table place (rows_of g))
    ∙ ap (λ (vs : List Variable). of_guard place g ++ vs) (of_guards place gs)

-- the variables of cases, of a function or of a send, by their guards
pub of_cases : {A : Type 0} (guard : A → Guard) (place : ℕ) (cases : List A) →
    map (variable_at place) (flat_map of_row (flat_map rows_of (map guard cases))) ≡ flat_map (λ (c : A). of_guard place (guard c)) cases
of_cases guard place cases = of_guards place (map guard cases) ∙ flat_map-map (of_guard place) guard cases

-- THE VARIABLES OF GLOBAL NAMES

-- the values of an enumeration have none
of_values : (d : Decl) (place i : ℕ) (values : List Name) (rest : List Known) →
    variables_from place (known_values d i values ++ rest) ≡ variables_from (place + length values) rest
of_values d place i [] rest = ap (λ (p : ℕ). variables_from p rest) (omega arith)
of_values d place i (v ∷ vs) rest =
    of_values d (place + 1) (i + 1) vs rest ∙ ap (λ (p : ℕ). variables_from p rest) (omega arith)

-- the variables of declarations, by their global names
of_known : (place : ℕ) (decls : List Decl) → variables_from place (flat_map known_by decls) ≡ flat_map variables_of_part (declared place decls)
of_known place [] = refl
of_known place (d ∷ ds) =
    ap (λ (vs : List Variable). map (variable_at place) (variables_in d) ++ vs)
    (of_values d (place + 1) 0 (values_of d) (flat_map known_by ds)
    ∙ ap (λ (p : ℕ). variables_from p (flat_map known_by ds)) (omega arith)
    ∙ of_known (place + length (names_of d)) ds)

pub of_globals : (decls : List Decl) → variables_from 0 (globals decls).known ≡ variables decls
of_globals decls = of_known 0 decls
