use Rattle.std.proofs.Common.{Bool, not, ◌&&◌}
use Rattle.std.proofs.lemmas.Result.{IfOk-weaker}
use Rattle.rsml_syntax.specs.declared.world.World.{World}
use Rattle.guard_encode.proofs.StepLemmas.{keeps_on}
use Rattle.invariants.specs.Told.{all_at}
use Rattle.invariants.proofs.ToldLemmas.{all_on, ref_on, refs_on, tells_and, tells_decided, tells_not, tells_on}
use Rattle.invariants.proofs.asking.turns_false.Goals as goal

pub and-requires-clause-g_ref : goal.and-requires-clause-g_ref
and-requires-clause-g_ref c = ref_on c.args.encoder.now c.not.new.self c.args.before c.in_ok-never.ensures.keeps c.requires.before

pub and_all-requires-clause-others : goal.and_all-requires-clause-others
and_all-requires-clause-others c =
    refs_on c.args.encoder.now c.and.new.self c.args.claims.now (keeps_on c.args.encoder.now c.not.new.self c.and.new.self c.in_ok-never.ensures.keeps c.in_ok-turned.ensures.keeps) c.requires.claims

pub returns-clause-keeps : goal.returns-clause-keeps
returns-clause-keeps c =
    keeps_on c.args.encoder.now c.and_all.new.encoder c.decided.new.self
    (keeps_on c.args.encoder.now c.and.new.self c.and_all.new.encoder (keeps_on c.args.encoder.now c.not.new.self c.and.new.self c.in_ok-never.ensures.keeps c.in_ok-turned.ensures.keeps) c.in_ok-all.ensures.keeps)
    c.decided.ensures.keeps

pub returns-clause-answer : goal.returns-clause-answer
returns-clause-answer c =
    let a = c.args.encoder.now in
    let b = c.not.new.self in
    let d = c.and.new.self in
    let e = c.and_all.new.encoder in
    IfOk-weaker c.decided.result _ _
    (λ r h s one other truths x y z.
    let never : World → Bool = λ w. not (other w) in
    let turned : World → Bool = λ w. never w && one w in
    tells_decided s e c.decided.new.self (λ w. turned w && all_at truths w) c.in_ok-all.all r h
    (c.in_ok-all.ensures.answer s turned truths
    (tells_and s b d never one c.in_ok-never.never c.args.before c.in_ok-turned.turned c.in_ok-turned.ensures.answer
    (tells_not s a b other c.args.after c.in_ok-never.never c.in_ok-never.ensures.answer y) (tells_on s a b one c.args.before c.in_ok-never.ensures.keeps x))
    (all_on s a d (λ (t : World → Bool) w. t w) truths c.args.claims.now (keeps_on a b d c.in_ok-never.ensures.keeps c.in_ok-turned.ensures.keeps) z)))
    c.decided.ensures.answer
