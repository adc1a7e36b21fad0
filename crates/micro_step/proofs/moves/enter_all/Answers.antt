use Rattle.std.proofs.Common.{◌<◌, ◌+◌, List, ℕ, drop, fold, get_or, length, refl, sym, ap, ◌∙◌}
use Rattle.micro_step.specs.Numbers.{after_number}
use Rattle.micro_step.proofs.LoopLemmas.{each_at, entered_more, no_rest}
use Rattle.micro_step.proofs.moves.enter_all.Goals as goal

pub loop-transition-init : goal.loop-transition-init
loop-transition-init c = record { fit = c.requires.fit; whole = refl }

pub enter-requires-clause-transition : goal.enter-requires-clause-transition
enter-requires-clause-transition c =
    each_at (λ k. k < length c.args.machine.now.transitions) c.args.taken.now c.loop-transition.transition-index (get_or c.args.taken.now c.loop-transition.transition-index 0) c.requires.taken c.loop-transition-test.true refl

pub loop-transition-preserved : goal.loop-transition-preserved
loop-transition-preserved c =
    let m = c.args.machine.now in
    let ks = c.args.taken.now in
    let i = c.loop-transition.transition-index in
    record {
      fit = c.enter.ensures.fit;
      whole = ap (λ (ns : List ℕ). fold (after_number m) ns (drop (i + 1) ks)) c.enter.ensures.entered
          ∙ entered_more (after_number m) c.loop-transition.choices ks i (get_or ks i 0) c.loop-transition-test.true refl
          ∙ c.loop-transition.invariant.whole;
    }

pub returns : goal.returns
returns c =
    let m = c.args.machine.now in
    ap (fold (after_number m) c.loop-transition.choices) (sym (no_rest c.args.taken.now c.loop-transition.transition-index c.loop-transition-test.false))
    ∙ c.loop-transition.invariant.whole
