use Rattle.std.proofs.Common.{◌||◌, ◌<◌, length, List, ℕ, get_or, refl, sym, ap, ◌∙◌}
use Rattle.std.proofs.lemmas.List.{take_all}
use Rattle.micro_step.specs.Numbers.{raised_at}
use Rattle.micro_step.specs.Places.{passes}
use Rattle.micro_step.specs.Rising.{among}
use Rattle.micro_step.proofs.LoopLemmas.{each_at, raised_more}
use Rattle.micro_step.proofs.raising.raise_all.Goals as goal

pub loop-transition-init : goal.loop-transition-init
loop-transition-init c = c.clear.ensures

pub raise_by-requires : goal.raise_by-requires
raise_by-requires c =
    each_at (λ k. k < length c.args.machine.now.transitions) c.args.taken.now c.loop-transition.transition-index (get_or c.args.taken.now c.loop-transition.transition-index 0) c.requires c.loop-transition-test.true refl

pub loop-transition-preserved : goal.loop-transition-preserved
loop-transition-preserved c = λ q.
    let m = c.args.machine.now in
    let i = c.loop-transition.transition-index in
    let k = get_or c.args.taken.now i 0 in
    c.raise_by.ensures q
    ∙ ap (λ b. b || passes (λ x. among x.raises q) m.transitions k) (c.loop-transition.invariant q)
    ∙ sym (raised_more m c.args.taken.now i k q c.loop-transition-test.true refl)

pub returns : goal.returns
returns c = λ q.
    c.loop-transition.invariant q
    ∙ ap (λ (ns : List ℕ). raised_at c.args.machine.now ns q) (take_all c.loop-transition.transition-index c.args.taken.now c.loop-transition-test.false)
