use Rattle.settled_worlds.proofs.PathLemmas.{low_ref, high_ref}
use Rattle.settled_worlds.proofs.paths.push_children.Goals as goal

pub returns-in_ok-push_step-2 : goal.returns-in_ok-push_step-2
returns-in_ok-push_step-2 c =
    let d = c.args.arena.now in
    let node = c.in_Some-node.node in
    c.in_ok-push_step-2.ensures.steps d
    (c.in_ok-push_step.ensures.steps d c.requires.steps (low_ref d c.args.function node c.requires.function c.in_Some-node.ensures.node))
    (high_ref d c.args.function node c.requires.function c.in_Some-node.ensures.node)
