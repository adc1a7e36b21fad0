use Rattle.std.proofs.Common.{◌≡◌, ◌<◌, Bool, length, sym, ap, subst, take, get_or, refl, List, ℕ}
use Rattle.std.specs.List.{list_any}
use Rattle.std.proofs.lemmas.List.{take_all}
use Rattle.rsml_syntax.specs.declared.world.World.{World}
use Rattle.rsml_meaning.specs.Instances.{states}
use Rattle.rsml_ground.specs.Truths.{is_active}
use Rattle.elaborate.specs.Machine.{GroundMachine}
use Rattle.guard_encode.specs.Encoding.{Tells}
use Rattle.guard_encode.proofs.StepLemmas.{keeps_on}
use Rattle.guard_encode.proofs.ConditionLemmas.{state_more}
use Rattle.guard_encode.proofs.encoder.Encoder.some_active.Goals as goal

pub active-active-requires : goal.active-active-requires
active-active-requires c =
    subst (λ (m : GroundMachine). get_or c.args.nodes.now c.loop-node.node-index 0 < length (states m.base.spec)) (sym c.loop-node.invariant.keeps.machine)
    (c.requires c.loop-node.node-index 0 c.loop-node-test.true)

pub loop-node-preserved : goal.loop-node-preserved
loop-node-preserved c =
    let node = get_or c.args.nodes.now c.loop-node.node-index 0 in
    let s = c.args.self.now.machine.base.spec in
    let t = c.loop-node.self.machine.base.spec in
    let before : World → Bool = λ w. list_any (is_active s w) (take c.loop-node.node-index c.args.nodes.now) in
    record {
      keeps = keeps_on c.args.self.now c.loop-node.self c.or.new.self c.loop-node.invariant.keeps c.in_ok-out.ensures.keeps;
      told = state_more c.or.new.self s t c.args.nodes.now c.loop-node.node-index node c.in_ok-out.out c.loop-node-test.true refl (ap (λ (m : GroundMachine). m.base.spec) c.loop-node.invariant.keeps.machine)
          (c.in_ok-out.ensures.answer before (λ w. is_active t w node) c.loop-node.invariant.told c.active-active.ensures);
    }

pub returns-clause-answer : goal.returns-clause-answer
returns-clause-answer c =
    let all : take c.loop-node.node-index c.args.nodes.now ≡ c.args.nodes.now = take_all c.loop-node.node-index c.args.nodes.now c.loop-node-test.false in
    subst (λ (m : GroundMachine). Tells c.loop-node.self (λ w. list_any (is_active m.base.spec w) c.args.nodes.now) c.loop-node.out) (sym c.loop-node.invariant.keeps.machine)
    (subst (λ (ns : List ℕ). Tells c.loop-node.self (λ w. list_any (is_active c.args.self.now.machine.base.spec w) ns) c.loop-node.out) all c.loop-node.invariant.told)
