-- Macros and functions that are declared once, and used only after that.
use Rattle.std.specs.Prelude.{Bool, true, not, ◌&&◌, List, [], ◌∷◌, flat_map, IsTrue}
use Rattle.std.specs.List.{list_all}
use Rattle.rsml_syntax.specs.declared.syntax.Spec.{Spec}
use Rattle.rsml_syntax.specs.declared.syntax.Decl.{Decl}
use Rattle.rsml_syntax.specs.declared.syntax.Decl.TheVariants as decl
use Rattle.rsml_syntax.specs.declared.syntax.Simple.{Simple}
use Rattle.rsml_syntax.specs.declared.syntax.Simple.TheVariants as simples
use Rattle.rsml_syntax.specs.declared.syntax.Row.{Row}
use Rattle.rsml_syntax.specs.declared.syntax.Case.{Case}
use Rattle.rsml_syntax.specs.text.Names.{Name, is_in}
use Rattle.rsml_syntax.specs.grammar.Written.{simple_of, rows_of}

-- the macro or function that is named
abbrev pub used_by_simple : Simple → List Name
used_by_simple (simples.Macro m) = m.name ∷ []
used_by_simple (simples.Function f relation right) = f.name ∷ []
used_by_simple _ = []

-- those that are named in rows
abbrev pub used_by_rows : List Row → List Name
used_by_rows rows = flat_map (λ row. used_by_simple (simple_of row.phrase)) rows

-- those that are named in guards of cases
abbrev pub used_by_cases : List Case → List Name
used_by_cases cases = flat_map (λ c. used_by_rows (rows_of c.guard)) cases

-- these names are all known, and this one is not
abbrev pub may_declare : List Name → Name → List Name → Bool
may_declare known name used = list_all (λ x. is_in x known) used && not (is_in name known)

-- each declaration of a macro or a function uses such names alone as are declared before it, and its own name is not one of them
abbrev pub in_order : List Name → List Decl → Bool
in_order known [] = true
in_order known (decl.Macro name size rows ∷ ds) = may_declare known name (used_by_rows rows) && in_order (name ∷ known) ds
in_order known (decl.Function name size cases ∷ ds) = may_declare known name (used_by_cases cases) && in_order (name ∷ known) ds
in_order known (d ∷ ds) = in_order known ds

-- macros and functions have names of their own, and are used after their declaration alone
abbrev pub IsInOrder : Spec → Type 0
IsInOrder s = IsTrue (in_order [] s.decls)
