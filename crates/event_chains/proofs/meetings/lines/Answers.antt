use Rattle.std.proofs.Common.{rules}
use Rattle.event_chains.proofs.TellLemmas.{lines_turn, line_is}
use Rattle.event_chains.proofs.meetings.lines.Goals as goal

pub loop-node-preserved : goal.loop-node-preserved
loop-node-preserved c = (
  search rules,
  λ k b l.
      lines_turn c.args.tree.now c.args.reactions.now c.loop-node.lines.items c.push.new.self.items c.line.result c.loop-node.node c.loop-node.invariant.0 c.in_ok-push.ensures.items
      c.loop-node.invariant.1
      (line_is c.args.tree.now c.args.reactions.now c.args.sets.now c.line.result c.loop-node.node c.requires.sets c.requires.below c.line.ensures.some c.line.ensures.all) k b l,
)
