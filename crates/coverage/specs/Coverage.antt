-- How often transitions and cases of sends react in rounds, and how often each column of their tables is true then.
use Rattle.std.specs.Prelude.{ℕ, Bool, ◌&&◌, List, [], map, count_by}
use Rattle.rsml_syntax.specs.declared.syntax.Cell.{Cell}
use Rattle.rsml_syntax.specs.declared.syntax.Guard.{Guard}
use Rattle.rsml_syntax.specs.declared.syntax.Guard.TheVariants as guards
use Rattle.rsml_syntax.specs.declared.syntax.Spec.{Spec}
use Rattle.rsml_syntax.specs.limits.Comparisons.{Indices}
use Rattle.rsml_syntax.specs.rules.Tables.{TableRow, column, below}
use Rattle.rsml_meaning.specs.Words.{Instance, has}
use Rattle.rsml_meaning.specs.Truth.{View, row_truth, view, within}
use Rattle.rsml_meaning.specs.Transitions.{TransitionInstance, transitions, is_enabled}
use Rattle.rsml_meaning.specs.Interfaces.{SendCaseInstance, send_cases, is_sending}
use Rattle.rsml_meaning.specs.Steps.{Round}
use Rattle.and_or_tables.specs.Shape.{columns}

-- What answers to an event: a transition, or a case of a send. Its event, the indices of its instance, its guard, and whether it is
-- enabled but for the event.
pub record Reacting : Type 0 where
  pub event : Instance
  pub indices : Indices
  pub guard : Guard
  pub enabled : View → Bool

abbrev pub of_transition : TransitionInstance → Reacting
of_transition t = record { event = t.event; indices = within t.this; guard = t.guard; enabled = λ v. is_enabled v t }

abbrev pub of_case : SendCaseInstance → Reacting
of_case c = record { event = c.event; indices = within c.send.index; guard = c.guard; enabled = λ v. is_sending v c }

-- a round takes the transition, or asks for the send: its event is present, and it is enabled in the world before the round
abbrev pub reacts : Spec → Reacting → Round → Bool
reacts s x r = has r.present x.event && x.enabled (view s r.world)

-- the rows of a guard's table, each with its truth; `always` has none
abbrev pub rows_of : View → Indices → Guard → List TableRow
rows_of v r guards.Always = []
rows_of v r (guards.Table rows) = map (row_truth v r) rows

-- the column at a place is true in the world before such a round
abbrev pub shows : Spec → Reacting → ℕ → Round → Bool
shows s x place r = reacts s x r && column (rows_of (view s r.world) x.indices x.guard) place

-- the cells of the rows of a guard's table; `always` has none
abbrev pub cells_in : Guard → List (List Cell)
cells_in guards.Always = []
cells_in (guards.Table rows) = map (λ row. row.cells) rows

-- how many columns its table has
abbrev pub columns_in : Guard → ℕ
columns_in g = columns (cells_in g)

-- In how many rounds something reacts, and in how many of these each column of its table is true.
pub record Covered : Type 0 where
  pub count : ℕ
  pub columns : List ℕ

-- that of these rounds
abbrev pub covered : Spec → List Round → Reacting → Covered
covered s rs x = record { count = count_by (reacts s x) rs; columns = map (λ place. count_by (shows s x place) rs) (below (columns_in x.guard)) }

-- What is covered of each transition and of each case of a send of a specification, at their places.
pub record Coverage : Type 0 where
  pub spec : Spec
  pub transitions : List Covered
  pub send_cases : List Covered

-- what these rounds cover
abbrev pub coverage : Spec → List Round → Coverage
coverage s rs = record {
  spec = s;
  transitions = map (λ t. covered s rs (of_transition t)) (transitions s);
  send_cases = map (λ c. covered s rs (of_case c)) (send_cases s);
}
