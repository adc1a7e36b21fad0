use Rattle.std.proofs.Common.{◌+◌, length, ap, ◌∙◌, length-append, ◌∷◌, []}
use Rattle.state_tree.specs.nodes.Numbers.{paths}
use Rattle.state_tree.proofs.Spans.{ends_push}
use Rattle.state_tree.proofs.ends.ends.Goals as goal

pub loop-node-preserved : goal.loop-node-preserved
loop-node-preserved c =
    let es = c.loop-node.ends.items in
    let n = c.loop-node.node in
    let e = c.end_of.result in
    record {
      many = ap length c.in_ok-push.ensures.items ∙ length-append es (e ∷ []) ∙ ap (λ k. k + 1) c.loop-node.invariant.many;
      each = rw c.in_ok-push.ensures.items (ends_push (paths c.args.nodes.now) es n e c.loop-node.invariant.many c.loop-node.invariant.each c.end_of.ensures);
    }
