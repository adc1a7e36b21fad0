-- What sums, phrases, tables and guards say in a world.
use Rattle.std.specs.Prelude.{◌≡◌, ℕ, Bool, true, false, ◌⊎◌, List, [], ◌∷◌, map, Some, None, if◌then◌else◌, ℤ, pos, neg_ℤ, ◌+ℤ◌, fold, flat_map}
use Rattle.std.specs.Option.{option_map_or}
use Rattle.std.specs.List.{list_any, list_all}
use Rattle.rsml_syntax.specs.declared.syntax.Spec.{Spec}
use Rattle.rsml_syntax.specs.declared.world.World.{World}
use Rattle.rsml_syntax.specs.declared.syntax.Decl.{Decl}
use Rattle.rsml_syntax.specs.declared.syntax.Decl.TheVariants as decl
use Rattle.rsml_syntax.specs.declared.syntax.Mention.{Mention}
use Rattle.rsml_syntax.specs.declared.syntax.Operand.{Operand}
use Rattle.rsml_syntax.specs.declared.syntax.Operand.TheVariants as operands
use Rattle.rsml_syntax.specs.declared.syntax.Term.{Term}
use Rattle.rsml_syntax.specs.declared.syntax.Sum.{Sum}
use Rattle.rsml_syntax.specs.declared.syntax.Simple.{Simple}
use Rattle.rsml_syntax.specs.declared.syntax.Simple.TheVariants as simples
use Rattle.rsml_syntax.specs.declared.syntax.Phrase.{Phrase}
use Rattle.rsml_syntax.specs.declared.syntax.Phrase.TheVariants as phrases
use Rattle.rsml_syntax.specs.declared.syntax.Row.{Row}
use Rattle.rsml_syntax.specs.declared.syntax.Guard.{Guard}
use Rattle.rsml_syntax.specs.declared.syntax.Guard.TheVariants as guards
use Rattle.rsml_syntax.specs.declared.syntax.Case.{Case}
use Rattle.rsml_syntax.specs.text.Names.{Name, same}
use Rattle.rsml_syntax.specs.limits.Comparisons.{Indices, index_number}
use Rattle.rsml_syntax.specs.rules.Globals.{Globals, meaning, number, indices}
use Rattle.rsml_syntax.specs.rules.Relations.{compare}
use Rattle.rsml_syntax.specs.rules.Tables.{TableRow, table_truth}
use Rattle.rsml_syntax.specs.rules.Uses.{is_input}
use Rattle.rsml_meaning.specs.Words.{Instance, at, Path, IsOne}
use Rattle.rsml_meaning.specs.Instances.{globals_of}
use Rattle.rsml_meaning.specs.Worlds.{cell}
use Rattle.rsml_meaning.specs.Active.{active}

-- What can be asked of a world: which paths are active, the number of an input, its previous number, which macros are
-- true, and which values a function gives, those of its cases with a true guard.
pub record View : Type 0 where
  pub names : Globals
  pub is_active : Path → Bool
  pub input : Instance → ℤ
  pub previous : Instance → ℤ
  pub holds : Instance → Bool
  pub gives : Instance → List ℤ

-- inside the instance with this index, and in no quantifier
abbrev pub within : ℕ → Indices
within i = record { this = i; variable = None }

-- inside a quantifier, at this value of its variable
abbrev pub quantified : Indices → Name → ℕ → Indices
quantified r name i = record r { variable = Some (name, i) }

-- the instance that is mentioned
abbrev pub instance : Globals → Indices → Mention → Instance
instance g r m = at m.name (index_number g r m.index)

-- Sums.

-- the number of an input's cell, of a constant, or of an enumeration's value
abbrev pub mentioned : View → Indices → Mention → ℤ
mentioned v r m = elim (option_map_or is_input (meaning v.names m.name) false) [ true ↦ v.input (instance v.names r m) | false ↦ number v.names m.name ]

-- the number of an operand
abbrev pub operand : View → Indices → Operand → ℤ
operand v r (operands.Number n) = pos n
operand v r (operands.Mention m) = mentioned v r m
operand v r (operands.Previous m) = v.previous (instance v.names r m)

-- the number of a term, with its sign
abbrev pub term : View → Indices → Term → ℤ
term v r t = if t.minus then neg_ℤ (operand v r t.operand) else operand v r t.operand

-- the sum of the signed terms
abbrev pub sum : View → Indices → Sum → ℤ
sum v r x = fold (λ a t. a +ℤ term v r t) (pos 0) x.terms

-- Phrases.

-- the truth of a phrase without a quantifier
abbrev pub simple : View → Indices → Simple → Bool
simple v r (simples.In path) = v.is_active (map (instance v.names r) path)
simple v r (simples.Macro m) = v.holds (instance v.names r m)
simple v r (simples.Compare left relation right) = compare relation (sum v r left) (sum v r right)
simple v r (simples.Function f relation right) = list_any (λ x. compare relation x (sum v r right)) (v.gives (instance v.names r f))

-- the truth of a phrase: `some` and `every` go over the values of their variable
abbrev pub phrase : View → Indices → Phrase → Bool
phrase v r (phrases.Plain body) = simple v r body
phrase v r (phrases.Any name bound body) = list_any (λ i. simple v (quantified r name i) body) (indices v.names (Some bound))
phrase v r (phrases.Every name bound body) = list_all (λ i. simple v (quantified r name i) body) (indices v.names (Some bound))

-- Tables and guards.

-- the truth of a row's phrase, and its cells
abbrev pub row_truth : View → Indices → Row → TableRow
row_truth v r row = (phrase v r row.phrase, row.cells)

-- the truth of a table
abbrev pub table : View → Indices → List Row → Bool
table v r rows = table_truth (map (row_truth v r) rows)

-- the truth of a guard
abbrev pub guard : View → Indices → Guard → Bool
guard v r guards.Always = true
guard v r (guards.Table rows) = table v r rows

-- the values of the cases with a true guard
abbrev pub values_given : View → Indices → List Case → List ℤ
values_given v r cases = flat_map (λ c. if guard v r c.guard then sum v r c.value ∷ [] else []) cases

-- Macros and functions: each is read by what is declared before it. What this comes to, where each has a name of its own
-- and is used after its declaration alone (the laws): a phrase that names a macro is the truth of that instance's table, and
-- a function gives the values of its cases with a true guard, in the same view.

-- what a view says after one more declaration
abbrev pub learn : View → Decl → View
learn v (decl.Macro name size rows) = record v { holds = λ i. elim (same name i.name) [ true ↦ table v (within i.index) rows | false ↦ v.holds i ] }
learn v (decl.Function name size cases) = record v { gives = λ i. elim (same name i.name) [ true ↦ values_given v (within i.index) cases | false ↦ v.gives i ] }
learn v _ = v

-- a world before any macro and function
abbrev pub bare : Spec → World → View
bare s w = record { names = globals_of s; is_active = active s w; input = cell s w false; previous = cell s w true; holds = λ i. false; gives = λ i. [] }

-- what can be asked of a world of a specification
abbrev pub view : Spec → World → View
view s w = fold learn (bare s w) s.decls

-- the value of a function instance: that of some case with a true guard, or 0 where no guard is true
abbrev pub Gives : View → Instance → ℤ → Type 0
Gives v f x = IsOne x (v.gives f) ⊎ ((v.gives f ≡ []) × (x ≡ pos 0))
