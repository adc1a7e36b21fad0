-- The owner of tables and sums: a macro, a function, a send, or the source of a transition. There S7, S8 and S16 are shown.
use Rattle.std.specs.Prelude.{ℕ, Bool, true, false, not, ◌&&◌, ◌||◌, ◌==◌, List, [], ◌∷◌, ◌++◌, length, nat_lt, nat_le}
use Rattle.std.specs.List.{list_any, list_all}
use Rattle.rsml_syntax.specs.declared.syntax.Sum.{Sum}
use Rattle.rsml_syntax.specs.declared.syntax.Row.{Row}
use Rattle.rsml_syntax.specs.declared.syntax.Guard.{Guard}
use Rattle.rsml_syntax.specs.declared.syntax.Guard.TheVariants as guards
use Rattle.rsml_syntax.specs.text.Names.{Name}
use Rattle.rsml_syntax.specs.rules.Globals.{Globals}
use Rattle.rsml_syntax.specs.rules.Breaches.{Breach, breach}
use Rattle.rsml_syntax.specs.grammar.Written.{rows_of, simple_of, sums_of_row}
use Rattle.rsml_syntax.specs.rules.Kinds.{kinds_match, has_kind}

-- a count of 1 to the highest
abbrev pub is_count : ℕ → ℕ → Bool
is_count highest n = nat_le 1 n && nat_le n highest

-- S7: the kinds in a guard are right
abbrev pub guard_kinds_match : Globals → Guard → Bool
guard_kinds_match g guard = list_all (λ row. kinds_match g (simple_of row.phrase)) (rows_of guard)

-- S8: a table has 1 to 64 rows with 1 to 32 cells each, all as many
abbrev pub is_table : List Row → Bool
is_table [] = false
is_table (row ∷ rows) =
    is_count 64 (length (row ∷ rows)) && (is_count 32 (length row.cells) && list_all (λ r. length r.cells == length row.cells) rows)

-- S8: the table of a guard is one
abbrev pub guard_is_table : Guard → Bool
guard_is_table guards.Always = true
guard_is_table (guards.Table rows) = is_table rows

-- S16: a sum has more than 8 terms
abbrev pub is_long : Sum → Bool
is_long sum = nat_lt 8 (length sum.terms)

-- S16: a guard has a sum of more than 8 terms
abbrev pub guard_is_long : Guard → Bool
guard_is_long guard = list_any (λ row. list_any is_long (sums_of_row row)) (rows_of guard)

-- an owner with these guards, and these sums beside them
abbrev pub owner : Globals → Name → List Guard → List Sum → List Breach
owner g name guards sums =
    breach 7 name (not (list_all (guard_kinds_match g) guards && list_all (has_kind g) sums))
    ++ (breach 8 name (not (list_all guard_is_table guards))
    ++ breach 16 name (list_any guard_is_long guards || list_any is_long sums))
