-- All that judging looks at, with what makes it quick: the children of states by name, and the kinds of first cases.
use Rattle.std.specs.Prelude.{◌≡◌, ℕ, List, [], ◌∷◌, map, Option, Some, None}
use Rattle.rsml_syntax.specs.declared.syntax.Case.{Case}
use Rattle.rsml_syntax.specs.rules.Globals.{Globals}
use Rattle.rsml_syntax.specs.rules.Kinds.{Kind, Numbers, Values, cases_of, sum_kind}
use Rattle.rsml_syntax.specs.rules.Scopes.{NameTables}
use Rattle.rsml_names.specs.Kin.{Family, Holds}
use Rattle.rsml_rules.specs.declared.breaches.lowest.Breach.{Breach as Found}
use Rattle.rsml_rules.specs.declared.breaches.kinds.Kind.{Kind as Seen}
use Rattle.rsml_rules.specs.declared.breaches.kinds.Kind.TheVariants as seen
use Rattle.rsml_rules.specs.declared.breaches.kinds.FirstKind.{FirstKind}
use Rattle.rsml_rules.specs.declared.breaches.kinds.FirstKind.TheVariants as first
use Rattle.rsml_syntax.specs.rules.Breaches.{Breach}

-- the kind that was found
abbrev pub kind_of : Seen → Kind
kind_of seen.Numbers = Numbers
kind_of (seen.Values name) = Values name.now

-- the kind of a first case, if it has one, where there is a case
abbrev pub first_of : FirstKind → Option (Option Kind)
first_of first.NoCase = None
first_of (first.Case None) = Some None
first_of (first.Case (Some kind)) = Some (Some (kind_of kind))

-- the kind of the first of these cases
abbrev pub first_kind : Globals → List Case → Option (Option Kind)
first_kind g [] = None
first_kind g (c ∷ _) = Some (sum_kind g c.value)

-- those of all global names
abbrev pub first_kinds : Globals → List (Option (Option Kind))
first_kinds g = map (λ k. first_kind g (cases_of k)) g.known

pub record Set : Type 0 where
  pub tables : NameTables
  pub families : List Family
  pub top : ℕ
  pub first_kinds : List (Option (Option Kind))

-- the families are those of the states, and the kinds those of the functions
pub record IsSet (x : Set) : Type 0 where
  pub top : Holds x.families x.top x.tables.children
  pub first_kinds : x.first_kinds ≡ first_kinds x.tables.globals

-- the breach that was found
abbrev pub breach_of : Found → Breach
breach_of found = record { rule = found.rule; shown = found.name }
