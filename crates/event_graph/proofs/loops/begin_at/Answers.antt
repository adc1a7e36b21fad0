use Rattle.std.proofs.Common.{[], ◌≡◌, ◌||◌, ◌&&◌, true, sym, ap, ◌∙◌}
use Rattle.event_graph.specs.declared.events.Events.{Events}
use Rattle.event_graph.specs.Sets.{has, has_at}
use Rattle.event_graph.proofs.RowLemmas.{read_is}
use Rattle.event_graph.proofs.loops.begin_at.Goals as goal

pub returns : goal.returns
returns c = λ e.
    let held : has c.args.starts.now c.args.start ≡ true = sym c.has.ensures ∙ c.if-not-has.false in
    let blank : Events = record { words = [] } in
    c.join.ensures e
    ∙ ap (λ b. has c.args.begun.now e || b) (read_is c.args.sets.now c.args.start blank c.requires.set e)
    ∙ ap (λ b. has c.args.begun.now e || (b && has_at c.args.sets.now c.args.start e)) (sym held)
