use Rattle.std.proofs.Common.{◌-◌, length}
use Rattle.settled_worlds.proofs.VisitLemmas.{Walks}
use Rattle.settled_worlds.proofs.striking.used_levels.Given as goal

abbrev pub invariant-loop-place : goal.invariant-loop-place
invariant-loop-place l = Walks l.arena l.fn.f l.place l.seen.keys l.used.items

abbrev pub decreases-loop-place : goal.decreases-loop-place
decreases-loop-place l = length l.arena.nodes - l.place
