use Rattle.std.proofs.Common.{◌<◌, ◌==◌, ◌&&◌, ◌||◌, List, length, ap, sym, ◌∙◌, arith}
use Rattle.rsml_meaning.specs.Instances.{states}
use Rattle.rsml_meaning.proofs.Lists.{each_one, each_more}
use Rattle.event_graph.specs.declared.events.Events.{Events}
use Rattle.event_graph.specs.Sets.{has_at}
use Rattle.event_graph.specs.Graphs.{meets}
use Rattle.event_graph.proofs.RowLemmas.{has_below}
use Rattle.event_chains.specs.declared.reaction.Reaction.{Reaction}
use Rattle.event_chains.specs.Reactions.{reacts_on_line}
use Rattle.event_chains.proofs.TellLemmas.{line_below, any_alike}
use Rattle.event_chains.proofs.meetings.meet_on_lines.Goals as goal

pub meet_all-requires-clause-within : goal.meet_all-requires-clause-within
meet_all-requires-clause-within c = λ k b h.
    let lines = c.in_ok-lines.lines.items in
    let held = ap (λ (xs : List Events). has_at xs k b) (sym c.as_slice-2.ensures.value) ∙ h in
    let below = has_below lines k b held in
    let there : k < length (states c.args.tree.now) = omega (arith, below, c.in_ok-lines.ensures.long) in
    line_below c.args.tree.now c.args.graph.now.count c.args.reactions.now
    (each_more (λ (r : Reaction). (r.owner < length (states c.args.tree.now)) × (r.event < c.args.graph.now.count)) (λ (r : Reaction). r.event < c.args.graph.now.count) (λ r p. p.1) c.args.reactions.now c.requires)
    k b (sym (c.in_ok-lines.ensures.lines k b there) ∙ held)

pub returns-clause-meets : goal.returns-clause-meets
returns-clause-meets c = λ a b.
    c.meet_all.ensures.meets a b
    ∙ ap (λ t. meets c.args.graph.now a b || t)
    (any_alike (λ (r : Reaction). r.event == a && has_at c.as_slice-2.result.now r.owner b) (λ (r : Reaction). r.event == a && reacts_on_line c.args.tree.now c.args.reactions.now r.owner b) c.args.reactions.now
    (λ r m.
    let below = each_one (λ (r : Reaction). (r.owner < length (states c.args.tree.now)) × (r.event < c.args.graph.now.count)) c.args.reactions.now r c.requires m in
    ap (λ t. r.event == a && t) (ap (λ (xs : List Events). has_at xs r.owner b) c.as_slice-2.ensures.value ∙ c.in_ok-lines.ensures.lines r.owner b below.0)))
