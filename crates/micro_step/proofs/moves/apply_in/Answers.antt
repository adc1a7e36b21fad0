use Rattle.std.proofs.Common.{◌<◌, ◌+◌, List, ℕ, drop, fold, length, refl, sym, ap, ◌∙◌}
use Rattle.micro_step.specs.Numbers.{after_number, picked}
use Rattle.micro_step.proofs.LoopLemmas.{picked_more, picked_below, no_rest}
use Rattle.micro_step.proofs.MachineLemmas.{moves_are}
use Rattle.micro_step.proofs.MicroLemmas.{world_choices}
use Rattle.micro_step.proofs.moves.apply_in.Goals as goal

pub loop-place-init : goal.loop-place-init
loop-place-init c = record { fit = world_choices c.args.machine.now.base.spec c.args.world.now c.requires.world; cells = refl; whole = refl }

pub enter-requires-clause-transition : goal.enter-requires-clause-transition
enter-requires-clause-transition c =
    picked_below (λ k. k < length c.args.machine.now.transitions) c.args.taken.now c.args.order.now c.loop-place.place-index c.requires.taken c.requires.order c.loop-place-test.true

pub loop-place-preserved : goal.loop-place-preserved
loop-place-preserved c =
    let m = c.args.machine.now in
    let i = c.loop-place.place-index in
    record {
      fit = c.enter.ensures.fit;
      cells = c.loop-place.invariant.cells;
      whole = ap (λ (ns : List ℕ). fold (after_number m) ns (picked c.args.taken.now (drop (i + 1) c.args.order.now))) c.enter.ensures.entered
          ∙ picked_more (after_number m) c.loop-place.world.choices c.args.taken.now c.args.order.now i c.loop-place-test.true
          ∙ c.loop-place.invariant.whole;
    }

pub returns-clause-entered : goal.returns-clause-entered
returns-clause-entered c = λ us z.
    let m = c.args.machine.now in
    ap (λ (ps : List ℕ). fold (after_number m) c.loop-place.world.choices (picked c.args.taken.now ps)) (sym (no_rest c.args.order.now c.loop-place.place-index c.loop-place-test.false))
    ∙ c.loop-place.invariant.whole
    ∙ moves_are m c.law.ensures us (picked c.args.taken.now c.args.order.now) c.args.world.now.choices z

pub returns-clause-one : goal.returns-clause-one
returns-clause-one c = λ ts us choices z y p are apart outcomes.
    returns-clause-entered c us y
    ∙ c.order_does_not_matter.ensures c.args.machine.now.base.spec c.args.world.now ts us choices are apart p outcomes
