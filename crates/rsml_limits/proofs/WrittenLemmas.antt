-- The rows of declarations, by what they stand in.
use Rattle.std.proofs.Common.{◌≡◌, List, Option}
use Rattle.std.specs.Prelude.{flat_map}
use Rattle.std.proofs.lemmas.List.{append-nil}
use Rattle.std.proofs.lemmas.List.Folds.{flat_map-map}
use Rattle.rsml_syntax.specs.declared.syntax.Amount.{Amount}
use Rattle.rsml_syntax.specs.declared.syntax.Row.{Row}
use Rattle.rsml_syntax.specs.declared.syntax.Case.{Case}
use Rattle.rsml_syntax.specs.declared.syntax.SendCase.{SendCase}
use Rattle.rsml_syntax.specs.declared.syntax.Decl.TheVariants as decl
use Rattle.rsml_syntax.specs.text.Names.{Name}
use Rattle.rsml_syntax.specs.grammar.Written.{rows_of, rows_in}

pub rows_in_macro : (name : Name) (size : Option Amount) (rows : List Row) → rows_in (decl.Macro name size rows) ≡ rows
rows_in_macro name size rows = append-nil rows

pub rows_in_function : (name : Name) (size : Option Amount) (cases : List Case) → rows_in (decl.Function name size cases) ≡ flat_map (λ c. rows_of c.guard) cases
rows_in_function name size cases = flat_map-map rows_of (λ c. c.guard) cases

pub rows_in_send : (name : Name) (size : Option Amount) (fields : List Name) (cases : List SendCase) → rows_in (decl.Send name size fields cases) ≡ flat_map (λ c. rows_of c.guard) cases
rows_in_send name size fields cases = flat_map-map rows_of (λ c. c.guard) cases
