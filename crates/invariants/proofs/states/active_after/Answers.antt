use Rattle.std.proofs.Common.{true, take, refl, ◌∙◌, subst}
use Rattle.std.proofs.lemmas.List.{take_all}
use Rattle.rsml_syntax.specs.declared.syntax.Spec.{Spec}
use Rattle.rsml_ground.specs.Choices.{TellActivity}
use Rattle.guard_encode.proofs.StepLemmas.{keeps_on}
use Rattle.invariants.proofs.StateLemmas.{active_told, chosen_after, chosen_more}
use Rattle.invariants.proofs.ToldLemmas.{no_calls, of_tells}
use Rattle.invariants.proofs.states.active_after.Goals as goal

pub loop-choice-init : goal.loop-choice-init
loop-choice-init c = record {
  keeps = no_calls c.args.encoder.now;
  told = of_tells c.args.machine.now.base.spec c.args.encoder.now (λ w. true) c.constant-active.result c.constant-active.ensures;
}

pub loop-choice-preserved : goal.loop-choice-preserved
loop-choice-preserved c = record {
  keeps = keeps_on c.args.encoder.now c.loop-choice.encoder c.and.new.self c.loop-choice.invariant.keeps
      (keeps_on c.loop-choice.encoder c.chosen_after.new.encoder c.and.new.self c.in_ok-chosen.ensures.keeps c.in_ok-active.ensures.keeps);
  told = chosen_more c.args.machine.now c.loop-choice.encoder c.chosen_after.new.encoder c.and.new.self c.args.moves.now c.as_slice-around.result.now c.loop-choice.choice-index _ _ c.loop-choice.active
      c.in_ok-chosen.chosen c.in_ok-active.active c.loop-choice-test.true refl c.in_ok-chosen.ensures.keeps c.in_ok-active.ensures.answer c.loop-choice.invariant.told c.in_ok-chosen.ensures.answer;
}

pub returns-clause-answer : goal.returns-clause-answer
returns-clause-answer c =
    let m = c.args.machine.now in
    active_told m c.loop-choice.encoder c.args.moves.now c.args.node c.in_ok-choices.choices.items (take c.loop-choice.choice-index c.as_slice-around.result.now) c.loop-choice.active c.requires.moves
    (subst (λ (t : Spec). TellActivity t c.args.node c.in_ok-choices.choices.items) c.tree.ensures c.in_ok-choices.ensures.active)
    (take_all c.loop-choice.choice-index c.as_slice-around.result.now c.loop-choice-test.false ∙ c.as_slice-around.ensures.value) c.loop-choice.invariant.told
