-- How many refusals a report has.
use Rattle.std.specs.Prelude.{ℕ, ◌+◌, Bool, true, false, List, filter, length}
use Rattle.event_graph.specs.declared.clash.Clash.{Clash}
use Rattle.finding_texts.specs.declared.verdict.Verdict.{Verdict}
use Rattle.finding_texts.specs.declared.verdict.Verdict.TheVariants as verdicts

-- the group is not sound
abbrev pub is_found : Verdict → Bool
is_found verdicts.Sound = false
is_found (verdicts.Missing w) = true
is_found (verdicts.Double w) = true

-- the events that loop, the clashes, and the groups that are not sound
abbrev pub refusals_of : List ℕ → List Clash → List Verdict → ℕ
refusals_of loops clashes found = length loops + (length clashes + length (filter is_found found))
