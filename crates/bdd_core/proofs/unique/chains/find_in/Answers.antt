-- Each round goes on to the next place of the bucket.
use Rattle.std.proofs.Common.{◌<◌, sym, subst, length, get_or, arith}
use Rattle.bdd_core.specs.Chains.{node_of, entry_at}
use Rattle.bdd_core.proofs.ChainLemmas.{IsAhead, ahead-start, ahead-next, other_node}
use Rattle.bdd_core.proofs.unique.chains.find_in.Goals as goal

pub loop-at-init : goal.loop-at-init
loop-at-init c =
    subst (λ b. IsAhead c.args.entries.now (length c.args.heads.now) c.args.node (get_or c.args.heads.now b 0)) (sym c.bucket.ensures.is)
    (ahead-start c.args.entries.now c.args.heads.now c.args.node c.requires (subst (λ b. b < length c.args.heads.now) c.bucket.ensures.is c.bucket.ensures.within))

pub loop-at-preserved : goal.loop-at-preserved
loop-at-preserved c =
    (ahead-next c.args.entries.now c.args.heads.now c.args.node c.loop-at.at c.requires c.loop-at.invariant (omega (arith, c.loop-at-test.true))
    (other_node (node_of (entry_at c.args.entries.now c.loop-at.at)) c.args.node c.eq.result c.eq.ensures c.if-eq.false)).1

pub loop-at-smaller : goal.loop-at-smaller
loop-at-smaller c =
    (ahead-next c.args.entries.now c.args.heads.now c.args.node c.loop-at.at c.requires c.loop-at.invariant (omega (arith, c.loop-at-test.true))
    (other_node (node_of (entry_at c.args.entries.now c.loop-at.at)) c.args.node c.eq.result c.eq.ensures c.if-eq.false)).0
