-- Gathering the names that stand after `previous`.
use Rattle.std.proofs.Common.{◌≡◌, ℕ, Option, ◌+◌, ◌<◌, List, [], ◌∷◌, ◌++◌, length, take, get_or, map, flat_map, append_assoc, sym, ap, ◌∙◌}
use Rattle.std.proofs.lemmas.Grind.{flat_map-append}
use Rattle.std.proofs.lemmas.List.{append-nil, take_more}
use Rattle.std.proofs.lemmas.List.Concat.{flat_map_single}
use Rattle.std.proofs.lemmas.List.Folds.{flat_map-map}
use Rattle.rsml_syntax.specs.declared.syntax.Sum.{Sum}
use Rattle.rsml_syntax.specs.declared.syntax.Row.{Row}
use Rattle.rsml_syntax.specs.declared.syntax.Case.{Case}
use Rattle.rsml_syntax.specs.declared.syntax.SendCase.{SendCase}
use Rattle.rsml_syntax.specs.declared.syntax.Amount.{Amount}
use Rattle.rsml_syntax.specs.declared.syntax.Decl.TheVariants as decl
use Rattle.rsml_syntax.specs.text.Names.{Name}
use Rattle.rsml_syntax.specs.grammar.Written.{sums_of_row, sums_of_guard}
use Rattle.rsml_names.specs.PreviousNames.{previous_in, gathered, sums_of_declaration, case_guards, case_values, send_guards, send_answers}

pub gathered_none : (names : List Name) → gathered names [] ≡ names
unfolding gathered
gathered_none names = append-nil names

pub gathered_one : (names : List Name) (sum : Sum) → gathered names (sum ∷ []) ≡ names ++ previous_in sum
unfolding gathered
gathered_one names sum = ap (λ l. names ++ l) (append-nil (previous_in sum))

pub gathered_twice : (names : List Name) (xs ys : List Sum) → gathered (gathered names xs) ys ≡ gathered names (xs ++ ys)
unfolding gathered
gathered_twice names xs ys =
    append_assoc names (flat_map previous_in xs) (flat_map previous_in ys)
    ∙ ap (λ l. names ++ l) (sym (flat_map-append previous_in xs ys))

-- the items before a place, and the one at it
pub flat_map_turn : {A B : Type 0} (f : A → List B) (xs : List A) (i : ℕ) (x : A) → i < length xs → x ≡ get_or xs i x →
    flat_map f (take (i + 1) xs) ≡ flat_map f (take i xs) ++ f x
flat_map_turn f xs i x h e =
    ap (λ ys. flat_map f ys) (take_more xs i x h ∙ ap (λ y. take i xs ++ y ∷ []) (sym e))
    ∙ flat_map-append f (take i xs) (x ∷ [])
    ∙ ap (λ l. flat_map f (take i xs) ++ l) (append-nil (f x))

-- a loop's turn
pub gathered_turn : {A : Type 0} (names before after : List Name) (f : A → List Sum) (xs : List A) (i : ℕ) (x : A) → i < length xs → x ≡ get_or xs i x →
    before ≡ gathered names (flat_map f (take i xs)) → after ≡ gathered before (f x) → after ≡ gathered names (flat_map f (take (i + 1) xs))
gathered_turn names before after f xs i x h e p q =
    q ∙ ap (λ (ns : List Name). gathered ns (f x)) p ∙ gathered_twice names (flat_map f (take i xs)) (f x)
    ∙ ap (λ (ss : List Sum). gathered names ss) (sym (flat_map_turn f xs i x h e))

-- the sums of declarations
pub macro_sums : (name : Name) (size : Option Amount) (rows : List Row) → sums_of_declaration (decl.Macro name size rows) ≡ flat_map sums_of_row rows
macro_sums name size rows = append-nil (flat_map sums_of_row rows ++ []) ∙ append-nil (flat_map sums_of_row rows)

pub function_sums : (name : Name) (size : Option Amount) (cases : List Case) → sums_of_declaration (decl.Function name size cases) ≡ case_guards cases ++ case_values cases
function_sums name size cases =
    ap (λ (ss : List Sum). ss ++ map (λ (c : Case). c.value) cases) (flat_map-map sums_of_guard (λ (c : Case). c.guard) cases)
    ∙ ap (λ (ss : List Sum). case_guards cases ++ ss) (sym (flat_map_single (λ (c : Case). c.value) cases))

pub send_sums : (name : Name) (size : Option Amount) (fields : List Name) (cases : List SendCase) → sums_of_declaration (decl.Send name size fields cases) ≡ send_guards cases ++ send_answers cases
send_sums name size fields cases =
    ap (λ (ss : List Sum). ss ++ send_answers cases) (flat_map-map sums_of_guard (λ (c : SendCase). c.guard) cases)
