use Rattle.std.proofs.Common.{◌<◌, Bool, length, take, fold, get_or, refl, sym, subst}
use Rattle.std.proofs.lemmas.List.{take_all}
use Rattle.rsml_syntax.specs.declared.world.World.{World}
use Rattle.rsml_meaning.specs.Instances.{components}
use Rattle.rsml_ground.specs.Choices.{is_chosen}
use Rattle.elaborate.specs.Machine.{GroundMachine}
use Rattle.guard_encode.proofs.StepLemmas.{keeps_on}
use Rattle.micro_step.proofs.MicroLemmas.{world_choices}
use Rattle.invariants.specs.Moves.{in_turn}
use Rattle.invariants.proofs.GiftLemmas.{all_turns, stays_so, told_turn}
use Rattle.invariants.proofs.ToldLemmas.{of_tells}
use Rattle.invariants.proofs.choices.chosen_after.Goals as goal

pub choice-requires : goal.choice-requires
choice-requires c = subst (λ (m : GroundMachine). c.args.choice.now.component < length (components m.base.spec)) (sym c.requires.machine) c.requires.component

pub loop-number-init : goal.loop-number-init
loop-number-init c = record {
  keeps = c.in_ok-chosen.ensures.keeps;
  fit = world_choices c.args.machine.now.base.spec c.in_ok-room.room c.in_ok-room.ensures.world;
  told = of_tells c.args.machine.now.base.spec c.choice.new.self (λ w. is_chosen w.choices c.args.choice.now) c.in_ok-chosen.chosen c.in_ok-chosen.ensures.answer;
}

pub after_transition-requires-clause-stays : goal.after_transition-requires-clause-stays
after_transition-requires-clause-stays c =
    stays_so c.args.machine.now c.args.choice.now (get_or c.args.moves.now c.loop-number.number-index 0) c.requires.component
    c.loop-number.room.choices c.has_after-stays.new.choices c.other_than-other.result c.has_after-stays.result c.has_after-comes.result c.loop-number.invariant.fit c.has_after-stays.ensures.fit
    c.other_than-other.ensures c.has_after-stays.ensures.has c.has_after-comes.ensures.has

pub loop-number-preserved : goal.loop-number-preserved
loop-number-preserved c =
    let m = c.args.machine.now in
    let k = get_or c.args.moves.now c.loop-number.number-index 0 in
    let told : World → Bool = λ w. is_chosen (fold (in_turn m w) w.choices (take c.loop-number.number-index c.args.moves.now)) c.args.choice.now in
    record {
      keeps = keeps_on c.args.encoder.now c.loop-number.encoder c.after_transition.new.encoder c.loop-number.invariant.keeps c.in_ok-chosen-2.ensures.keeps;
      fit = c.has_after-comes.ensures.fit;
      told = told_turn m c.args.choice.now k c.requires.component c.after_transition.new.encoder c.args.moves.now c.loop-number.number-index c.loop-number.room.choices c.has_after-stays.new.choices
          c.other_than-other.result c.has_after-stays.result c.has_after-comes.result c.in_ok-chosen-2.chosen c.loop-number-test.true refl c.loop-number.invariant.fit c.has_after-stays.ensures.fit
          c.other_than-other.ensures c.has_after-stays.ensures.has c.has_after-comes.ensures.has (c.in_ok-chosen-2.ensures.answer told c.loop-number.invariant.told);
    }

pub returns-clause-answer : goal.returns-clause-answer
returns-clause-answer c =
    all_turns c.args.machine.now c.loop-number.encoder c.args.choice.now c.args.moves.now (take c.loop-number.number-index c.args.moves.now) c.loop-number.chosen
    (take_all c.loop-number.number-index c.args.moves.now c.loop-number-test.false) c.loop-number.invariant.told
