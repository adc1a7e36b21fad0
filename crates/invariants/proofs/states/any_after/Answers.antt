use Rattle.std.proofs.Common.{Bool, false, get_or, refl, take, subst}
use Rattle.std.proofs.lemmas.List.{take_all}
use Rattle.std.specs.List.{list_any}
use Rattle.rsml_syntax.specs.declared.world.World.{World}
use Rattle.guard_encode.proofs.StepLemmas.{keeps_on}
use Rattle.invariants.specs.Told.{TellsOf, active_after}
use Rattle.invariants.proofs.StateLemmas.{any_more}
use Rattle.invariants.proofs.ToldLemmas.{no_calls, of_tells, tells_or, tells_on}
use Rattle.invariants.proofs.states.any_after.Goals as goal

pub loop-node-init : goal.loop-node-init
loop-node-init c = record {
  keeps = no_calls c.args.encoder.now;
  told = of_tells c.args.machine.now.base.spec c.args.encoder.now (λ w. false) c.constant-any.result c.constant-any.ensures;
}

pub loop-node-preserved : goal.loop-node-preserved
loop-node-preserved c =
    let m = c.args.machine.now in
    let s = m.base.spec in
    let old = c.loop-node.encoder in
    let seen = c.active_after.new.encoder in
    let new = c.or.new.self in
    let i = c.loop-node.node-index in
    let x = get_or c.args.nodes.now i 0 in
    let before : World → Bool = λ w. list_any (active_after m c.args.moves.now w) (take i c.args.nodes.now) in
    record {
      keeps = keeps_on c.args.encoder.now old new c.loop-node.invariant.keeps (keeps_on old seen new c.in_ok-active.ensures.keeps c.in_ok-any.ensures.keeps);
      told = any_more s new (active_after m c.args.moves.now) c.args.nodes.now i x 0 c.in_ok-any.any c.loop-node-test.true refl
          (tells_or s seen new before (λ w. active_after m c.args.moves.now w x) c.loop-node.any c.in_ok-active.active c.in_ok-any.any c.in_ok-any.ensures.answer
          (tells_on s old seen before c.loop-node.any c.in_ok-active.ensures.keeps c.loop-node.invariant.told) c.in_ok-active.ensures.answer);
    }

pub returns-clause-answer : goal.returns-clause-answer
returns-clause-answer c =
    let m = c.args.machine.now in
    subst (λ ns. TellsOf m.base.spec c.loop-node.encoder (λ w. list_any (active_after m c.args.moves.now w) ns) c.loop-node.any)
    (take_all c.loop-node.node-index c.args.nodes.now c.loop-node-test.false) c.loop-node.invariant.told
