use Rattle.std.proofs.Common.{rules, ◌≡◌, length, ⊎_elim}
use Rattle.std.proofs.lemmas.Bool.{cases_lt}
use Rattle.event_graph.specs.Sets.{has}
use Rattle.event_graph.proofs.BitLemmas.{none_past}
use Rattle.event_graph.proofs.events.Events.next.Goals as goal

pub returns-clause-none : goal.returns-clause-none
unfolding has
returns-clause-none c =
    let long : length c.args.self.now.words ≡ 16 = search rules in
    λ none q l. ⊎_elim (λ m. c.next_below.ensures.none none q l m) (λ past. none_past c.args.self.now.words q long past) (cases_lt q 1024)
