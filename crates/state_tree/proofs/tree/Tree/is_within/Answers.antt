use Rattle.std.proofs.Common.{subst}
use Rattle.rsml_syntax.specs.declared.syntax.Spec.{Spec}
use Rattle.rsml_meaning.specs.Instances.{states}
use Rattle.state_tree.specs.nodes.Numbers.{paths}
use Rattle.state_tree.specs.Tables.{AreEnds}
use Rattle.state_tree.proofs.Walks.{within_so, within_not, end_at, end_there}
use Rattle.state_tree.proofs.tree.Tree.is_within.Goals as goal

pub returns-then-outer-node : goal.returns-then-outer-node
returns-then-outer-node c =
    let s = c.args.self.now in
    let es = c.self.inside.ends.items in
    let e = c.index.result.now in
    let ends = subst (λ (t : Spec). AreEnds (paths (states t)) es) c.self.view_is c.self.invariant.ends in
    within_so s es c.args.outer c.args.node e ends c.requires.outer c.requires.node (end_at s es c.args.outer e ends c.requires.outer c.index.ensures) c.if-outer-node.true

pub returns-else-outer-node : goal.returns-else-outer-node
returns-else-outer-node c =
    let s = c.args.self.now in
    let es = c.self.inside.ends.items in
    let ends = subst (λ (t : Spec). AreEnds (paths (states t)) es) c.self.view_is c.self.invariant.ends in
    let r = end_there s es c.args.outer ends c.requires.outer in
    within_not s es c.args.outer c.args.node r.0 ends c.requires.outer c.requires.node r.1 c.if-outer-node.false
