use Rattle.std.proofs.Common.{Bool, sym, ◌∙◌, subst}
use Rattle.std.proofs.lemmas.Result.{IfOk-weaker}
use Rattle.rsml_syntax.specs.declared.world.World.{World}
use Rattle.ground_groups.specs.declared.group.Member.TheVariants as members
use Rattle.elaborate.specs.Machine.{GroundMachine}
use Rattle.elaborate.specs.Enabled.{enabled_at}
use Rattle.guard_encode.specs.Encoding.{IsMember, Tells}
use Rattle.guard_encode.proofs.StepLemmas.{keeps_on}
use Rattle.invariants.proofs.GiftLemmas.{told_given, told_kept, transition_member}
use Rattle.invariants.proofs.ToldLemmas.{of_tells, ref_on, tells_ite, tells_on}
use Rattle.invariants.proofs.choices.after_transition.Goals as goal

pub returns-then-stays-comes-clause-answer : goal.returns-then-stays-comes-clause-answer
returns-then-stays-comes-clause-answer c = λ told h.
    told_kept c.args.machine.now c.args.encoder.now c.args.number c.args.stays c.args.comes told c.args.before c.if-stays-comes.true c.requires.stays h

pub enabled-requires : goal.enabled-requires
enabled-requires c =
    subst (λ (m : GroundMachine). IsMember m (members.Transition c.args.number)) (sym c.requires.machine) (transition_member c.args.machine.now c.law.ensures c.args.number c.requires.number)

pub ite-requires-clause-h_ref : goal.ite-requires-clause-h_ref
ite-requires-clause-h_ref c = ref_on c.args.encoder.now c.enabled.new.self c.args.before c.in_ok-enabled.ensures.keeps c.requires.before

pub returns-clause-keeps : goal.returns-clause-keeps
returns-clause-keeps c = keeps_on c.args.encoder.now c.enabled.new.self c.ite.new.self c.in_ok-enabled.ensures.keeps c.ite.ensures.keeps

pub returns-clause-answer : goal.returns-clause-answer
returns-clause-answer c =
    let m = c.args.machine.now in
    let s = m.base.spec in
    let a = c.args.encoder.now in
    let b = c.enabled.new.self in
    let d = c.ite.new.self in
    let on : World → Bool = λ w. enabled_at m w (members.Transition c.args.number) in
    let told_on = of_tells s b on c.in_ok-enabled.enabled
    (subst (λ (n : GroundMachine). Tells b (λ w. enabled_at n w (members.Transition c.args.number)) c.in_ok-enabled.enabled) (c.in_ok-enabled.ensures.keeps.machine ∙ c.requires.machine) c.in_ok-enabled.ensures.answer) in
    let always = of_tells s b (λ w. c.args.stays) c.constant-always.result c.constant-always.ensures in
    IfOk-weaker c.ite.result _ _
    (λ r h told x. told_given m d c.args.number c.args.stays c.args.comes told r c.if-stays-comes.false
    (tells_ite s b d on (λ w. c.args.stays) told c.in_ok-enabled.enabled c.constant-always.result c.args.before r h told_on always (tells_on s a b told c.args.before c.in_ok-enabled.ensures.keeps x)))
    c.ite.ensures.answer
