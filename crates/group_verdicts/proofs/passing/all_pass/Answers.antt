use Rattle.std.proofs.Common.{◌&&◌, not, sym, true≢false}
use Rattle.guard_encode.proofs.FindLemmas.{found_on}
use Rattle.group_verdicts.proofs.passing.all_pass.Goals as goal

pub returns-then-not-is_false-clause-answer : goal.returns-then-not-is_false-clause-answer
returns-then-not-is_false-clause-answer c = λ all. absurd (true≢false (sym all))

pub returns-clause-answer : goal.returns-clause-answer
returns-clause-answer c = λ all passes test truth found.
    (c.in_ok-decided.ensures.found (λ w. truth w && not (passes w))
    (c.in_ok-others.ensures.found truth (λ w. not (passes w)) (found_on c.args.encoder.now c.not.new.self truth c.args.f c.in_ok-fails.ensures.keeps found)
    (c.in_ok-fails.ensures.answer passes test))).none.0 (c.is_false-2.ensures.0 all)
