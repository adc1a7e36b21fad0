use Rattle.std.proofs.Common.{◌≡◌, ◌<◌, None, Option, ℕ, length, unwrap_or, refl, ap, subst, arith}
use Rattle.std.proofs.lemmas.Option.{slice_get_read}
use Rattle.event_graph.specs.Graphs.{Graph}
use Rattle.event_graph.specs.Chains.{IsLengthAnswer}
use Rattle.event_graph.specs.Ended.{length_at}
use Rattle.event_graph.proofs.ClashLemmas.{endless_none}
use Rattle.event_graph.proofs.chains.Chains.length.Goals as goal

pub returns-clause-endless : goal.returns-clause-endless
returns-clause-endless c =
    let e = c.args.event in
    let g = c.self.inside.graph in
    let found = c.index.result.now in
    let lengths = c.self.inside.answers.lengths.items in
    let same = ap (λ (z : Graph). z.count) c.self.view_is in
    let long = c.self.invariant.of_chains.long in
    let below : e < g.count = omega (arith, c.requires, same) in
    let read : length_at lengths e ≡ found =
    ap (λ (o : Option (Option ℕ)). unwrap_or o None) (slice_get_read lengths (length lengths) e found refl (omega (arith, below, long)) c.index.ensures) in
    endless_none c.args.self.now e found
    (subst (λ (z : Graph). IsLengthAnswer z e found) c.self.view_is (subst (IsLengthAnswer g e) read (c.self.invariant.of_chains.right e below)))
