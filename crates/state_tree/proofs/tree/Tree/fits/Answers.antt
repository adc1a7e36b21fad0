use Rattle.std.proofs.Common.{length, get_or, arith, ◌∙◌}
use Rattle.rsml_meaning.specs.Instances.{components}
use Rattle.rsml_meaning.specs.Worlds.{is_choice}
use Rattle.state_tree.proofs.Fitting.{asked_no, asked_yes, from_item, from_number, not_below, is_below}
use Rattle.state_tree.proofs.Lists.{within_get}
use Rattle.state_tree.proofs.tree.Tree.fits.Goals as goal

pub returns-then-choice-children : goal.returns-then-choice-children
returns-then-choice-children c =
    let xs = components c.args.self.now in
    let ys = c.args.choices.now in
    let i = c.loop-component.component in
    let at = within_get xs i (omega (arith, c.loop-component.invariant.0, c.loop-component-test.true)) in
    asked_no is_choice xs ys i at.0 (get_or ys i 0) (from_item xs i at.0 at.1) (from_number ys i c.loop-component-test.true)
    (not_below (get_or ys i 0) c.children.result (length at.0.children) (c.children.ensures at.0 at.1) c.if-choice-children.true)
    ∙ c.loop-component.invariant.1

pub loop-component-preserved : goal.loop-component-preserved
loop-component-preserved c =
    let xs = components c.args.self.now in
    let ys = c.args.choices.now in
    let i = c.loop-component.component in
    let at = within_get xs i (omega (arith, c.loop-component.invariant.0, c.loop-component-test.true)) in (
      c.loop-component.invariant.0,
      asked_yes is_choice xs ys i at.0 (get_or ys i 0) (from_item xs i at.0 at.1) (from_number ys i c.loop-component-test.true)
          (is_below (get_or ys i 0) c.children.result (length at.0.children) (c.children.ensures at.0 at.1) c.if-choice-children.false)
          ∙ c.loop-component.invariant.1,
    )
