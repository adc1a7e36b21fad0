use Rattle.std.proofs.Common.{◌==◌, ◌||◌, ◌∙◌, ap}
use Rattle.event_graph.proofs.RoundLemmas.{first_round_is}
use Rattle.event_graph.proofs.rounds.Rounds.first.Goals as goal

pub returns-clause-round : goal.returns-clause-round
returns-clause-round c =
    first_round_is (record { graph = c.self.inside.graph.now; ends = c.put.new.self }) c.args.event
    (λ e. c.put.ensures e ∙ ap (λ b. b || c.args.event == e) (c.new-ends.ensures e))
