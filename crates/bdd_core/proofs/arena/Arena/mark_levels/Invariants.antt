use Rattle.std.proofs.Common.{◌≡◌, ◌≤◌, ◌+◌, length}
use Rattle.bdd_core.proofs.SupportLemmas.{SetsLevels}
use Rattle.bdd_core.proofs.arena.Arena.mark_levels.Given as goal

abbrev pub invariant-loop-at : goal.invariant-loop-at
invariant-loop-at l = SetsLevels l.self l.fn.f l.at l.marks-inside.seen.items l.levels × (length l.marks-inside.seen.items ≡ l.fn.marks) × (l.at ≤ l.fn.f + 1)

abbrev pub decreases-loop-at : goal.decreases-loop-at
decreases-loop-at l = l.at
