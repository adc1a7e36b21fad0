use Rattle.std.proofs.Common.{◌<◌, ◌==◌, ◌&&◌, ◌||◌, [], length, get_or, ap, sym, ◌∙◌, arith}
use Rattle.event_graph.specs.declared.events.Events.{Events}
use Rattle.event_graph.specs.Sets.{has_at}
use Rattle.event_graph.specs.Graphs.{meets}
use Rattle.event_graph.proofs.RowLemmas.{read_is}
use Rattle.event_chains.specs.declared.reaction.Reaction.{Reaction}
use Rattle.event_chains.specs.Reactions.{meet_by}
use Rattle.event_chains.proofs.TellLemmas.{any_turn, drop_at, each_at}
use Rattle.event_chains.proofs.meetings.meet_all.Goals as goal

abbrev none : Events
none = record { words = [] }

abbrev nothing : Reaction
nothing = record { owner = 0; event = 0 }

pub meet_each-requires-clause-within : goal.meet_each-requires-clause-within
meet_each-requires-clause-within c = λ q h.
    let i = c.loop-reaction.reaction-index in
    let r : Reaction = get_or c.args.reactions.now i nothing in
    let below = each_at (λ (x : Reaction). (x.owner < length c.args.sets.now) × (x.event < c.args.graph.now.count)) c.args.reactions.now i nothing c.requires.below c.loop-reaction-test.true in
    let within = c.requires.within r.owner q (sym (read_is c.args.sets.now r.owner none below.0 q) ∙ h) in
    let same = c.loop-reaction.invariant.1 in
    omega (arith, within, same)

pub loop-reaction-preserved : goal.loop-reaction-preserved
loop-reaction-preserved c =
    let i = c.loop-reaction.reaction-index in
    let r : Reaction = get_or c.args.reactions.now i nothing in
    let below = each_at (λ (x : Reaction). (x.owner < length c.args.sets.now) × (x.event < c.args.graph.now.count)) c.args.reactions.now i nothing c.requires.below c.loop-reaction-test.true in (
      λ a b.
          any_turn (λ (x : Reaction). x.event == a && has_at c.args.sets.now x.owner b) c.args.reactions.now i r (meets c.loop-reaction.graph a b) (meets c.meet_each.new.self a b)
          (meets c.args.graph.now a b || meet_by c.args.sets.now c.args.reactions.now a b)
          (drop_at c.args.reactions.now i nothing c.loop-reaction-test.true)
          (c.meet_each.ensures.meets a b ∙ ap (λ t. meets c.loop-reaction.graph a b || (r.event == a && t)) (read_is c.args.sets.now r.owner none below.0 b))
          (c.loop-reaction.invariant.0 a b),
      c.meet_each.ensures.count ∙ c.loop-reaction.invariant.1,
      c.meet_each.ensures.leads ∙ c.loop-reaction.invariant.2,
      c.meet_each.ensures.starts ∙ c.loop-reaction.invariant.3,
    )
