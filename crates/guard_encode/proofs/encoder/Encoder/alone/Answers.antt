use Rattle.std.proofs.Common.{◌≡◌, ◌<◌, Bool, not, length, sym, ◌∙◌, subst}
use Rattle.std.specs.List.{list_any}
use Rattle.std.proofs.lemmas.Result.{IfOk-weaker}
use Rattle.rsml_syntax.specs.declared.world.World.{World}
use Rattle.rsml_meaning.specs.Instances.{states}
use Rattle.rsml_ground.specs.Truths.{is_active}
use Rattle.elaborate.specs.Machine.{GroundMachine}
use Rattle.guard_encode.proofs.StepLemmas.{keeps_on}
use Rattle.guard_encode.proofs.ConditionLemmas.{alone_told}
use Rattle.guard_encode.proofs.encoder.Encoder.alone.Goals as goal

pub active-active-requires : goal.active-active-requires
active-active-requires c =
    let same : c.not.new.self.machine ≡ c.args.self.now.machine = c.in_ok-none.ensures.keeps.machine ∙ c.in_ok-other.ensures.keeps.machine in
    subst (λ (m : GroundMachine). c.args.state < length (states m.base.spec)) (sym same) c.requires.state

pub returns-clause-keeps : goal.returns-clause-keeps
returns-clause-keeps c =
    keeps_on c.args.self.now c.not.new.self c.and.new.self
    (keeps_on c.args.self.now c.some_active.new.self c.not.new.self c.in_ok-other.ensures.keeps c.in_ok-none.ensures.keeps) c.and.ensures.keeps

pub returns-clause-answer : goal.returns-clause-answer
returns-clause-answer c =
    let a = c.some_active.new.self.machine in
    let b = c.not.new.self.machine in
    let other : World → Bool = λ w. list_any (is_active a.base.spec w) c.args.others.now in
    let active : World → Bool = λ w. is_active b.base.spec w c.args.state in
    IfOk-weaker c.and.result _ _
    (λ r h. alone_told c.and.new.self a b c.and.new.self.machine c.args.state r c.args.others.now c.in_ok-none.ensures.keeps.machine c.and.ensures.keeps.machine
    (h active (λ w. not (other w)) c.active-active.ensures (c.in_ok-none.ensures.answer other c.in_ok-other.ensures.answer)))
    c.and.ensures.answer
