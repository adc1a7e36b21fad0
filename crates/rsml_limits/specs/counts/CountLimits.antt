-- The limits L1 to L6, which count what is written, apart from L7.
use Rattle.std.specs.Prelude.{List, [], ◌∷◌}
use Rattle.rsml_syntax.specs.limits.Limits.{Limit, limit, total, states_at, transitions_at, events_at, cells_at, definitions_at, rows_at, thresholds_and_keys}
use Rattle.rsml_limits.specs.declared.counts.counted.Counted.{Counted}
use Rattle.rsml_limits.specs.declared.counts.counted.Counted.TheVariants as kinds

-- the limit of each count
abbrev pub limit_of : Counted → Limit
limit_of kinds.States = limit 1 (total states_at) 4096
limit_of kinds.Transitions = limit 2 (total transitions_at) 8192
limit_of kinds.Events = limit 3 (total events_at) 1024
limit_of kinds.Cells = limit 4 (λ s. total (cells_at s) s) 1024
limit_of kinds.Definitions = limit 5 (total definitions_at) 8192
limit_of kinds.Rows = limit 6 (total rows_at) 65536

-- L1 to L6
abbrev pub count_limits : List Limit
count_limits =
    limit_of kinds.States
    ∷ limit_of kinds.Transitions
    ∷ limit_of kinds.Events
    ∷ limit_of kinds.Cells
    ∷ limit_of kinds.Definitions
    ∷ limit_of kinds.Rows
    ∷ []

-- L7
abbrev pub threshold_limit : Limit
threshold_limit = limit 7 thresholds_and_keys 2048
