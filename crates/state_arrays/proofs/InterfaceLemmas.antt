-- The macros, functions and receives that declarations make.
use Rattle.std.proofs.Common.{◌≡◌, ℕ, List, [], ◌∷◌, ◌++◌, map, flat_map, refl, ap, ◌∙◌}
use Rattle.std.proofs.lemmas.List.{map-append}
use Rattle.rsml_syntax.specs.declared.syntax.Decl.{Decl}
use Rattle.rsml_syntax.specs.declared.syntax.Decl.TheVariants as decl
use Rattle.rsml_syntax.specs.declared.syntax.Row.{Row}
use Rattle.rsml_syntax.specs.declared.syntax.Case.{Case}
use Rattle.rsml_syntax.specs.declared.syntax.Mention.{Mention}
use Rattle.rsml_syntax.specs.text.Names.{Name}
use Rattle.rsml_syntax.specs.rules.Globals.{Globals, indices}
use Rattle.rsml_meaning.specs.Words.{Instance, at}
use Rattle.rsml_meaning.specs.Interfaces.{Definition, macro_table, function_cases, new_function, definitions_of, ReceiveInstance, new_receive, receives_of}
use Rattle.state_arrays.specs.Made.{definitions_made, receives_made}
use Rattle.state_arrays.specs.Places.{defined}

macros_at : (name : Name) (rows : List Row) (is : List ℕ) → map defined (map (λ i. macro_table (at name i) rows) is) ≡ map (at name) is
macros_at name rows [] = refl
macros_at name rows (i ∷ is) = ap (λ (xs : List Instance). at name i ∷ xs) (macros_at name rows is)

functions_at : (name : Name) (cases : List Case) (is : List ℕ) → map defined (map function_cases (map (new_function name cases) is)) ≡ map (at name) is
functions_at name cases [] = refl
functions_at name cases (i ∷ is) = ap (λ (xs : List Instance). at name i ∷ xs) (functions_at name cases is)

receives_at : (g : Globals) (name : Name) (inputs : List Mention) (raised : Mention) (is : List ℕ) → map (λ r. r.receive) (map (new_receive g name inputs raised) is) ≡ map (at name) is
receives_at g name inputs raised [] = refl
receives_at g name inputs raised (i ∷ is) = ap (λ (xs : List Instance). at name i ∷ xs) (receives_at g name inputs raised is)

decl_defined : (g : Globals) (d : Decl) → map defined (definitions_of g d) ≡ definitions_made g d
decl_defined g (decl.Macro name size rows) = macros_at name rows (indices g size)
decl_defined g (decl.Function name size cases) = functions_at name cases (indices g size)
decl_defined g (decl.Enumeration name values) = refl
decl_defined g (decl.Range name low high) = refl
decl_defined g (decl.Constant name value) = refl
decl_defined g (decl.Input name size kind initial) = refl
decl_defined g (decl.Event name size) = refl
decl_defined g (decl.Send name size fields cases) = refl
decl_defined g (decl.Receive name size inputs raised) = refl

decl_received : (g : Globals) (d : Decl) → map (λ r. r.receive) (receives_of g d) ≡ receives_made g d
decl_received g (decl.Receive name size inputs raised) = receives_at g name inputs raised (indices g size)
decl_received g (decl.Enumeration name values) = refl
decl_received g (decl.Range name low high) = refl
decl_received g (decl.Constant name value) = refl
decl_received g (decl.Input name size kind initial) = refl
decl_received g (decl.Event name size) = refl
decl_received g (decl.Send name size fields cases) = refl
decl_received g (decl.Macro name size rows) = refl
decl_received g (decl.Function name size cases) = refl

pub all_defined : (g : Globals) (ds : List Decl) → map defined (flat_map (definitions_of g) ds) ≡ flat_map (definitions_made g) ds
all_defined g [] = refl
all_defined g (d ∷ ds) =
    map-append defined (definitions_of g d) (flat_map (definitions_of g) ds)
    ∙ ap (λ (xs : List Instance). xs ++ map defined (flat_map (definitions_of g) ds)) (decl_defined g d)
    ∙ ap (λ (xs : List Instance). definitions_made g d ++ xs) (all_defined g ds)

pub all_received : (g : Globals) (ds : List Decl) → map (λ r. r.receive) (flat_map (receives_of g) ds) ≡ flat_map (receives_made g) ds
all_received g [] = refl
all_received g (d ∷ ds) =
    map-append (λ (r : ReceiveInstance). r.receive) (receives_of g d) (flat_map (receives_of g) ds)
    ∙ ap (λ (xs : List Instance). xs ++ map (λ r. r.receive) (flat_map (receives_of g) ds)) (decl_received g d)
    ∙ ap (λ (xs : List Instance). receives_made g d ++ xs) (all_received g ds)
