use Rattle.std.proofs.Common.{◌≡◌, ◌<◌, ◌∙◌, [], None, length, sym, subst, arith}
use Rattle.std.proofs.lemmas.Option.{unwrap_or-slice_get}
use Rattle.event_graph.specs.Chains.{IsLengthAnswer}
use Rattle.event_graph.specs.Ended.{length_at}
use Rattle.event_graph.proofs.ClashLemmas.{not_both, set_below}
use Rattle.event_graph.proofs.RowLemmas.{read_is}
use Rattle.event_graph.proofs.clashes.clash_of.Goals as goal

pub returns-in-None-clause-start : goal.returns-in-None-clause-start
returns-in-None-clause-start c = λ _ long n e f clash.
    let g = c.args.graph.now in
    let none : length_at c.args.lengths.now c.args.event ≡ None = unwrap_or-slice_get c.args.lengths.now c.args.event None ∙ c.in-None.is in
    absurd (not_both g c.args.event long (subst (IsLengthAnswer g c.args.event) none (c.requires.lengths.right c.args.event c.requires.event)))

pub clash_within-requires-clause-all : goal.clash_within-requires-clause-all
clash_within-requires-clause-all c = λ q l.
    let there : c.args.event < length c.args.sets.now = omega (arith, c.requires.event, c.requires.sets.long) in
    read_is c.args.sets.now c.args.event (record { words = [] }) there q ∙ c.requires.sets.all c.args.event q l

pub clash_within-requires-clause-only : goal.clash_within-requires-clause-only
clash_within-requires-clause-only c = λ q h.
    let there : c.args.event < length c.args.sets.now = omega (arith, c.requires.event, c.requires.sets.long) in
    set_below c.args.graph.now c.count.ensures.graph c.args.sets.now c.requires.sets c.args.event q (sym (read_is c.args.sets.now c.args.event (record { words = [] }) there q) ∙ h)
