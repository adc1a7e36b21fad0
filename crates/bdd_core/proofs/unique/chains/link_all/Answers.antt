use Rattle.std.proofs.Common.{◌≡◌, sym, ap, subst, ◌∙◌, arith, length}
use Rattle.std.proofs.lemmas.List.{length-map}
use Rattle.bdd_core.specs.Chains.{node_of, AreLinked}
use Rattle.bdd_core.proofs.unique.chains.link_all.Goals as goal

pub returns-clause-linked : goal.returns-clause-linked
returns-clause-linked c =
    let same : length c.loop-place.entries.items ≡ length c.args.entries.now.items =
    sym (length-map c.loop-place.entries.items node_of) ∙ ap length c.loop-place.invariant.0 ∙ length-map c.args.entries.now.items node_of in
    let end : c.loop-place.place ≡ length c.loop-place.entries.items = omega (arith, same, c.len-place-end.ensures) in
    subst (AreLinked c.loop-place.entries.items c.loop-place.heads.items (length c.args.heads.now.items)) end c.loop-place.invariant.2
