-- The truths of the rows of tables in a world.
use Rattle.std.specs.Prelude.{ℕ, Bool, List, [], map, slice_get}
use Rattle.std.specs.Option.{option_map_or}
use Rattle.std.specs.Simd.Lanes.{mask_l}
use Rattle.rsml_syntax.specs.declared.syntax.Spec.{Spec}
use Rattle.rsml_syntax.specs.declared.syntax.Case.{Case}
use Rattle.rsml_syntax.specs.declared.syntax.Guard.{Guard}
use Rattle.rsml_syntax.specs.declared.syntax.Guard.TheVariants as guards
use Rattle.rsml_syntax.specs.declared.world.World.{World}
use Rattle.rsml_syntax.specs.limits.Comparisons.{Indices}
use Rattle.rsml_meaning.specs.Words.{item_of}
use Rattle.rsml_meaning.specs.Truth.{View, phrase, view, within}
use Rattle.rsml_meaning.specs.Transitions.{transitions}
use Rattle.rsml_meaning.specs.Interfaces.{Definition, macro_table, function_cases, definitions, send_cases}
use Rattle.ground_groups.specs.declared.group.Member.{Member}
use Rattle.ground_groups.specs.declared.group.Member.TheVariants as members

-- the truths of the rows of a guard's table, in order; `always` has none
abbrev pub guard_rows : View → Indices → Guard → List Bool
guard_rows v r guards.Always = []
guard_rows v r (guards.Table rows) = map (λ row. phrase v r row.phrase) rows

-- those of the case at a place of a function instance; a macro has no cases
abbrev pub case_rows : View → Definition → ℕ → List Bool
case_rows v (function_cases f) place = option_map_or (λ (c : ℕ × Case). guard_rows v (within f.function.index) (item_of c).guard) (slice_get f.cases place) []
case_rows v (macro_table i rows) place = []

-- those of a transition, of a case of a send, or of a case of a function, by its numbers, in a world; none where there is no such member
abbrev pub member_rows : Spec → World → Member → List Bool
member_rows s w (members.Transition k) = option_map_or (λ t. guard_rows (view s w) (within t.this) t.guard) (slice_get (transitions s) k) []
member_rows s w (members.SendCase k) = option_map_or (λ c. guard_rows (view s w) (within c.send.index) c.guard) (slice_get (send_cases s) k) []
member_rows s w (members.FunctionCase f place) = option_map_or (λ d. case_rows (view s w) d place) (slice_get (definitions s) f) []

-- the number whose bit k, counted from 0, is the truth at place k
abbrev pub bits_of : List Bool → ℕ
bits_of truths = mask_l truths
