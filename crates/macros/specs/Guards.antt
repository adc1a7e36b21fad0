-- Guards: those of a definition, their shape, and the phrases that they name.
use Rattle.std.specs.Prelude.{ℕ, List, [], ◌∷◌, map, Option, Some, None, ⊤}
use Rattle.and_or_tables.specs.Shape.{IsTable, PhrasesBelow}
use Rattle.and_or_tables.specs.declared.ground.GroundTable.{GroundTable}
use Rattle.rsml_ground.specs.declared.definitions.GroundGuard.{GroundGuard}
use Rattle.rsml_ground.specs.declared.definitions.GroundGuard.TheVariants as guards
use Rattle.rsml_ground.specs.declared.definitions.Definition.{Definition}
use Rattle.rsml_ground.specs.declared.definitions.Definition.TheVariants as definition

-- the guard that is this table, or is always true
abbrev pub guard_of : Option GroundTable → GroundGuard
guard_of None = guards.Always
guard_of (Some table) = guards.Table table

-- a table has 1 to 64 rows with 1 to 32 cells each, all as many
abbrev pub HasShape : GroundGuard → Type 0
HasShape guards.Always = ⊤
HasShape (guards.Table table) = IsTable table

-- the guard names phrases below the count alone
abbrev pub GuardBelow : ℕ → GroundGuard → Type 0
GuardBelow count guards.Always = ⊤
GuardBelow count (guards.Table table) = PhrasesBelow count table

-- the numbers of the phrases that a guard names
abbrev pub phrases_of : GroundGuard → List ℕ
phrases_of guards.Always = []
phrases_of (guards.Table table) = map (λ row. row.phrase) table.rows

-- the guards of a definition: a macro's table, or those of a function's cases
abbrev pub guards_of : Definition → List GroundGuard
guards_of (definition.Macro table) = guards.Table table ∷ []
guards_of (definition.Function cases) = map (λ c. c.guard) cases
