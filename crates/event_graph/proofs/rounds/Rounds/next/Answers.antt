use Rattle.std.proofs.Common.{subst, sym}
use Rattle.event_graph.specs.Rounds.{Round, IsRound}
use Rattle.event_graph.proofs.LengthLemmas.{leads_below}
use Rattle.event_graph.proofs.RoundLemmas.{next_round_is}
use Rattle.event_graph.proofs.rounds.Rounds.next.Goals as goal

pub invariant_of-self : goal.invariant_of-self
invariant_of-self c = λ f h.
    let led = c.followers-self-inside.ensures.some f h in
    leads_below c.self.inside.graph.now c.count.ensures.graph led.0 f led.2

pub returns-clause-round : goal.returns-clause-round
returns-clause-round c = λ x n l is.
    next_round_is c.self.inside.graph.now c.self.inside.ends c.followers-self-inside.result x n l c.followers-self-inside.ensures.some c.followers-self-inside.ensures.all
    (subst (λ (r : Round). IsRound r x n) (sym c.self.view_is) is)
