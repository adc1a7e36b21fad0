use Rattle.std.proofs.Common.{◌≡◌, true, sym, ap, ◌∙◌}
use Rattle.event_graph.specs.Graphs.{Graph, starts}
use Rattle.event_chains.proofs.ChainLemmas.{length_agrees}
use Rattle.event_chains.proofs.FirstClashes.{answer_agrees}
use Rattle.event_chains.proofs.answers.external.Goals as goal

pub returns : goal.returns
returns c = λ e k.
    let s = c.args.checked.now in
    let g = c.args.chains.now in
    let start : starts g c.args.event ≡ true = ap (λ (h : Graph). starts h c.args.event) (sym c.graph.ensures) ∙ sym c.is_start.ensures ∙ c.if-not-is_start.false in
    let external = sym (c.requires.draws.starts_are c.args.event e k) ∙ start in (
      external,
      record {
        event = k;
        length = length_agrees s g c.spec.ensures.checked c.requires.draws c.args.event e k external c.length.result c.length.ensures.answer;
        clash = answer_agrees s g c.spec.ensures.checked c.requires.draws c.args.event e k external c.clash.result (c.clash.ensures.start start);
      },
    )
