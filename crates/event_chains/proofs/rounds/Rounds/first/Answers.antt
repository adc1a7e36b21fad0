use Rattle.std.proofs.Common.{◌≡◌, IsTrue, sym, ap, subst}
use Rattle.rsml_syntax.specs.declared.syntax.Spec.{Spec}
use Rattle.rsml_meaning.specs.Chains.{is_external}
use Rattle.ground_members.specs.Members.{IsEvent}
use Rattle.event_graph.specs.Graphs.{Graph}
use Rattle.event_graph.specs.Rounds as by_round
use Rattle.event_chains.specs.Rounds.{Round}
use Rattle.event_chains.proofs.RoundLemmas.{round_there}
use Rattle.event_chains.proofs.rounds.Rounds.first.Goals as goal

pub returns-clause-round : goal.returns-clause-round
returns-clause-round c = λ x k t.
    let s = c.self.inside.spec.now in
    let same : c.args.self.now.spec ≡ s = sym (ap (λ (r : Round). r.spec) c.self.view_is) in
    round_there s c.self.inside.rounds.graph c.self.invariant.checked c.self.invariant.draws c.args.event x
    (subst (λ (z : Spec). IsEvent z x c.args.event) same k) (subst (λ (z : Spec). IsTrue (is_external z x)) same t) c.first.new.self.ends 1
    (subst (λ (g : Graph). by_round.IsRound (record { graph = g; ends = c.first.new.self.ends }) c.args.event 1) c.first.ensures.graph c.first.ensures.round)
