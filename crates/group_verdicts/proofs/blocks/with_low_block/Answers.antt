use Rattle.std.proofs.Common.{◌≡◌, ◌++◌, List, Option, IfSome, ℕ, take, drop, ◌-◌, sym, ap, ◌∙◌, subst, ℤ, arith}
use Rattle.std.specs.Ordering.{int_cmp}
use Rattle.std.specs.Cmp.Lexicographic.{slice_cmp}
use Rattle.elaborate.specs.Machine.{GroundMachine}
use Rattle.guard_encode.proofs.StepLemmas.{keeps_on}
use Rattle.group_verdicts.specs.Narrowing.{lows}
use Rattle.group_verdicts.specs.Finding.{NarrowedLow, NarrowedOn}
use Rattle.group_verdicts.proofs.BlockSteps.{on_again, on_block, on_still}
use Rattle.group_verdicts.proofs.Keeping.{spec_of}
use Rattle.group_verdicts.proofs.blocks.with_low_block.Goals as goal

pub returns-in_ok-push_lows-in-Some-clause-answer : goal.returns-in_ok-push_lows-in-Some-clause-answer
returns-in_ok-push_lows-in-Some-clause-answer c =
    let a = c.args.encoder.now in
    let b = c.low_block.new.encoder in
    let d = c.with_exact.new.self in
    let s = a.machine.base.spec in
    let xs = c.args.numbers.now in
    let from = c.len-from.result in
    let keeps = keeps_on a b d c.in_ok-rest.ensures.keeps c.in_ok-known-in-Some.ensures.keeps in
    let own : c.worlds.result.now ≡ s =
    spec_of d c.machine.result.now c.worlds.result.now c.worlds.ensures c.machine.ensures ∙ ap (λ (m : GroundMachine). m.base.spec) keeps.machine in
    let pushed : c.push_lows.new.numbers ≡ xs ++ lows s from c.args.end =
    c.in_ok-push_lows-in-Some.ensures ∙ (λ i. xs ++ lows (own i) (sym c.len-from.ensures i) c.args.end) in
    subst (λ (ys : List ℤ). NarrowedOn a d c.args.read.now xs ys c.args.f c.in_ok-known-in-Some.known) (sym pushed)
    (on_again a b d c.args.read.now xs (xs ++ lows s from c.args.end) c.args.f c.in-Some.rest c.in_ok-known-in-Some.known c.in_ok-known-in-Some.ensures.keeps
    (on_block a b c.args.read.now xs from c.args.end c.args.f c.in-Some.rest c.in_ok-rest.ensures.keeps (sym c.len-from.ensures) (omega arith) c.requires.end
    (subst (λ (found : Option ℕ). IfSome found (NarrowedLow a b c.args.read.now (slice_cmp int_cmp) (λ w. take (c.args.end - from) (drop from w.cells)) (lows s from c.args.end) c.args.f))
    c.in-Some.is c.in_ok-rest.ensures.answer))
    c.in_ok-known-in-Some.ensures.answer)

pub returns-in-None-clause-answer : goal.returns-in-None-clause-answer
returns-in-None-clause-answer c =
    on_still c.args.encoder.now c.low_block.new.encoder c.args.read.now c.args.numbers.now c.args.f c.in_ok-rest.ensures.keeps
