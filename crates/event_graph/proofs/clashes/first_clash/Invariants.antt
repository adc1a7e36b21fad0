use Rattle.std.proofs.Common.{◌≡◌, ◌+◌}
use Rattle.event_graph.specs.Rounds.{IsRound}
use Rattle.event_graph.proofs.ClashLemmas.{NoneUpTo}
use Rattle.event_graph.proofs.clashes.first_clash.Given as goal

abbrev pub invariant-loop-round : goal.invariant-loop-round
invariant-loop-round l =
    (l.rounds.graph ≡ l.graph)
    × IsRound l.rounds l.event (l.round + 1)
    × NoneUpTo l.graph l.event l.round
