use Rattle.std.proofs.Common.{List, ap, sym, ◌∙◌}
use Rattle.event_graph.specs.declared.events.Events.{Events}
use Rattle.event_graph.specs.Sets.{has_at}
use Rattle.event_chains.proofs.TellLemmas.{reacts_below}
use Rattle.event_chains.proofs.meetings.meet_in_sends.Goals as goal

pub meet_all-requires-clause-within : goal.meet_all-requires-clause-within
meet_all-requires-clause-within c = λ k b h.
    reacts_below c.args.graph.now.count c.args.reactions.now c.requires k b
    (sym (c.in_ok-sets.ensures.sets k b) ∙ ap (λ (xs : List Events). has_at xs k b) (sym c.as_slice.ensures.value) ∙ h)
