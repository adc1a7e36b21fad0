use Rattle.std.proofs.Common.{sym, ap, ◌∙◌}
use Rattle.std.specs.Option.{option_copied}
use Rattle.state_arrays.proofs.WalkLemmas.{walk_ends, walk_fails, walk_goes}
use Rattle.state_arrays.proofs.paths.Paths.node.Goals as goal

pub returns-in_err-get-clause-place : goal.returns-in_err-get-clause-place
returns-in_err-get-clause-place c =
    c.from_residual.ensures
    ∙ walk_fails c.self.inside.nodes c.args.self.now c.self.invariant.tree c.self.view_is c.args.path.now.steps c.as_slice-step-items.result.now c.as_slice-step-items.ensures
    c.loop-step.step-index c.loop-step.node c.loop-step.invariant c.step-item.result c.bytes.result.now c.loop-step-test.true c.step-item.is c.bytes.ensures
    (sym (c.self.invariant.numbers (record { parent = c.loop-step.node; name = c.bytes.result; index = c.step-item.result.index })) ∙ sym c.get.ensures.value ∙ ap (λ o. option_copied o) c.in_err-get.was)

pub loop-step-preserved : goal.loop-step-preserved
loop-step-preserved c =
    walk_goes c.self.inside.nodes c.args.self.now c.self.invariant.tree c.self.view_is c.args.path.now.steps c.as_slice-step-items.result.now c.as_slice-step-items.ensures
    c.loop-step.step-index c.loop-step.node c.loop-step.invariant c.step-item.result c.bytes.result.now c.loop-step-test.true c.step-item.is c.bytes.ensures c.in_ok-get.field-0.now
    (sym (c.self.invariant.numbers (record { parent = c.loop-step.node; name = c.bytes.result; index = c.step-item.result.index })) ∙ sym c.get.ensures.value ∙ ap (λ o. option_copied o) c.in_ok-get.was)

pub returns-clause-place : goal.returns-clause-place
returns-clause-place c =
    walk_ends c.self.inside.nodes c.args.self.now c.self.invariant.tree c.self.view_is c.args.path.now.steps c.as_slice-step-items.result.now c.as_slice-step-items.ensures
    c.loop-step.step-index c.loop-step.node c.loop-step.invariant c.loop-step-test.false
