use Rattle.std.proofs.Common.{◌++◌, ◌∷◌, [], take, sym, ap, ◌∙◌}
use Rattle.rsml_meaning.specs.Words.{at}
use Rattle.std.proofs.lemmas.List.{take_more}
use Rattle.state_arrays.proofs.paths.copied.Goals as goal

pub loop-step-preserved : goal.loop-step-preserved
loop-step-preserved c =
    c.in_ok-push.ensures.ok
    ∙ ap (λ xs. xs ++ (at c.in_ok-new.field-0 c.step.inside.index ∷ [])) c.loop-step.invariant
    ∙ ap (λ n. take c.loop-step.step-index c.args.steps.now ++ (at n c.step.inside.index ∷ [])) (c.in_ok-new.ensures ∙ c.bytes.ensures)
    ∙ ap (λ x. take c.loop-step.step-index c.args.steps.now ++ (x ∷ [])) (c.step.view_is ∙ c.step-item.is)
    ∙ sym (take_more c.args.steps.now c.loop-step.step-index c.step-item.result c.loop-step-test.true)
