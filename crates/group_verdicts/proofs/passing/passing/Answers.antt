use Rattle.std.proofs.Common.{Bool, ◌&&◌}
use Rattle.rsml_syntax.specs.declared.world.World.{World}
use Rattle.guard_encode.proofs.FindLemmas.{found_on}
use Rattle.guard_encode.proofs.StepLemmas.{keeps_on, told_on}
use Rattle.group_verdicts.proofs.Keeping.{some_decided, some_on, some_pass}
use Rattle.group_verdicts.proofs.passing.passing.Goals as goal

pub returns-then-branch-clause-answer : goal.returns-then-branch-clause-answer
returns-then-branch-clause-answer c = λ passes test truth found some.
    let a = c.args.encoder.now in
    let b = c.and.new.self in
    let d = c.all_pass.new.encoder in
    let ab = c.in_ok-both.ensures.keeps in
    let bd = c.in_ok-all_pass.ensures.keeps in (
      found_on b d (λ w. truth w && passes w) c.in_ok-both.both bd (c.in_ok-both.ensures.found truth passes found test),
      some_pass d.machine.base.spec truth passes
          (c.in_ok-all_pass.ensures.answer c.if-branch.true passes (told_on a b passes c.args.test ab test) truth (found_on a b truth c.args.f ab found))
          (some_on a d truth (keeps_on a b d ab bd) some),
    )

pub returns-then-is_false-clause-answer : goal.returns-then-is_false-clause-answer
returns-then-is_false-clause-answer c = λ passes test truth found some.
    let both : World → Bool = λ w. truth w && passes w in
    (c.in_ok-decided.ensures.found both
    (found_on c.and.new.self c.all_pass.new.encoder both c.in_ok-both.both c.in_ok-all_pass.ensures.keeps (c.in_ok-both.ensures.found truth passes found test))).none.0
    (c.is_false.ensures.0 c.if-is_false.true)

pub returns-clause-answer : goal.returns-clause-answer
returns-clause-answer c = λ passes test truth found some.
    let both : World → Bool = λ w. truth w && passes w in
    let d = c.all_pass.new.encoder in
    let there = found_on c.and.new.self d both c.in_ok-both.both c.in_ok-all_pass.ensures.keeps (c.in_ok-both.ensures.found truth passes found test) in (
      found_on d c.decided.new.self both c.in_ok-both.both c.in_ok-decided.ensures.keeps there,
      some_decided c.decided.new.self both c.in_ok-decided.decided c.is_false.result (c.in_ok-decided.ensures.found both there).none c.is_false.ensures c.if-is_false.false,
    )
