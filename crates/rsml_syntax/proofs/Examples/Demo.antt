-- The specification of `demo N` keeps all rules and limits.
use Rattle.std.specs.Prelude.{◌≡◌, ℕ, Bool, true, ◌&&◌, [], ◌∷◌, Some, None, is_none, refl}
use Rattle.std.specs.List.{list_all}
use Rattle.rsml_syntax.specs.declared.syntax.Spec.{Spec}
use Rattle.rsml_syntax.specs.declared.syntax.Relation.TheVariants as relations
use Rattle.rsml_syntax.specs.declared.syntax.Body.{Basic}
use Rattle.rsml_syntax.specs.rules.Rules.{broken_rule}
use Rattle.rsml_syntax.specs.limits.Limits.{total, over, states_at, transitions_at, cells_at, rows_at, thresholds_and_keys}
use Rattle.rsml_syntax.proofs.Examples.Writing.{up_to, plus, plain, by, this, name, single, in_state, holds, compare, row, some, every, table, range, from, input, event, macro, receive, state, array, all, one, move, stay, specification, numbers, num}

-- the specification of `demo N`
abbrev pub demo : ℕ → Spec
demo n =
    specification "Demo"
    (range "Level" (plus 0) (plus 999)
    ∷ input "Depth" (Some (up_to n)) "Level" (from (plus 0))
    ∷ event "Go" None
    ∷ macro "Full" None (every "k" (up_to n) (in_state (plain "Plant" ∷ by "Unit" "k" ∷ plain "On" ∷ [])) "T" ∷ [])
    ∷ macro "High" None (some "k" (up_to n) (compare (single (name (by "Depth" "k"))) relations.GreaterEqual (num 500)) "T" ∷ [])
    ∷ receive "Load" (Some (up_to n)) (this "Depth" ∷ []) (plain "Go")
    ∷ [])
    "Plant"
    (all
    (array "Unit" (up_to n) (one "Off" (state "Off" Basic ∷ state "On" Basic ∷ []) []
    (move "Off" ("On" ∷ []) (plain "Go") (table (row (compare (single (name (this "Depth"))) relations.GreaterEqual (num 500)) "T" ∷ [])) []
    ∷ stay "Off" (plain "Go") (table (row (compare (single (name (this "Depth"))) relations.GreaterEqual (num 500)) "F" ∷ [])) []
    ∷ move "On" ("Off" ∷ []) (plain "Go") (table (row (holds (plain "Full")) "T." ∷ row (holds (plain "High")) ".F" ∷ [])) []
    ∷ stay "On" (plain "Go") (table (row (holds (plain "Full")) "F" ∷ row (holds (plain "High")) "T" ∷ [])) []
    ∷ []))
    ∷ []))

abbrev pub is_kept : Spec → Bool
is_kept s = is_none (broken_rule s) && is_none (over s)

-- it keeps all rules and limits for each N from 1 to 64
pub demos_are_kept : list_all (λ n. is_kept (demo n)) (numbers 64) ≡ true
demos_are_kept = refl

-- its counts for 64

state_instances_of_demo : total states_at (demo 64) ≡ 193
state_instances_of_demo = refl

ground_transitions_of_demo : total transitions_at (demo 64) ≡ 256
ground_transitions_of_demo = refl

cells_of_demo : total (cells_at (demo 64)) (demo 64) ≡ 64
cells_of_demo = refl

-- 64 in each of two macros, and 64 times 6 in the units
ground_rows_of_demo : total rows_at (demo 64) ≡ 512
ground_rows_of_demo = refl

-- 500 of each cell
thresholds_of_demo : thresholds_and_keys (demo 64) ≡ 64
thresholds_of_demo = refl
