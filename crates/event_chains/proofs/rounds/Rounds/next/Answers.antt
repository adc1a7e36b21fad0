use Rattle.std.proofs.Common.{◌≡◌, ◌+◌, IsTrue, sym, ap, subst}
use Rattle.rsml_syntax.specs.declared.syntax.Spec.{Spec}
use Rattle.rsml_meaning.specs.Chains.{is_external}
use Rattle.event_graph.specs.Graphs.{Graph}
use Rattle.event_graph.specs.Rounds as by_round
use Rattle.event_chains.specs.Rounds.{Round, IsRound}
use Rattle.event_chains.proofs.Numbers.{event_there, external_event}
use Rattle.event_chains.proofs.RoundLemmas.{round_there, round_back}
use Rattle.event_chains.proofs.rounds.Rounds.next.Goals as goal

pub returns-clause-round : goal.returns-clause-round
returns-clause-round c = λ x n t l is.
    let s = c.self.inside.spec.now in
    let g = c.self.inside.rounds.graph in
    let same : c.args.self.now.spec ≡ s = sym (ap (λ (r : Round). r.spec) c.self.view_is) in
    let external = subst (λ (z : Spec). IsTrue (is_external z x)) same t in
    let a = event_there s x (external_event s c.self.invariant.checked x external) in
    let old = round_back s g c.self.invariant.checked c.self.invariant.draws a.0 x a.1 external c.self.inside.rounds.ends n c.graph.ensures.within
    (subst (λ (r : Round). IsRound r x n) (sym c.self.view_is) is) in
    round_there s g c.self.invariant.checked c.self.invariant.draws a.0 x a.1 external c.next.new.self.ends (n + 1)
    (subst (λ (h : Graph). by_round.IsRound (record { graph = h; ends = c.next.new.self.ends }) a.0 (n + 1)) c.next.ensures.graph (c.next.ensures.round a.0 n l old))
