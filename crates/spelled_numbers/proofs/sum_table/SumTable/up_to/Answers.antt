use Rattle.std.proofs.Common.{◌≡◌, arith, pos, ◌+ℤ◌, ◌<ℤ◌, drop}
use Rattle.std.proofs.lemmas.Int.{ints}
use Rattle.std.proofs.lemmas.Result.{IfOk-weaker}
use Rattle.spelled_numbers.specs.Steps.{taken_off, IsAtMost}
use Rattle.spelled_numbers.proofs.StepLemmas.{taken_most}
use Rattle.spelled_numbers.proofs.SignLemmas.{within_room, no_room, IsUpTo}
use Rattle.spelled_numbers.proofs.sum_table.SumTable.up_to.Goals as goal

pub room_for-requires-clause-small : goal.room_for-requires-clause-small
room_for-requires-clause-small c = omega (arith, c.off_of.ensures, taken_most c.args.terms.now, c.requires.small)

pub returns-in-None-clause-answer : goal.returns-in-None-clause-answer
returns-in-None-clause-answer c =
    let below : (c.args.bound +ℤ pos (taken_off c.args.terms.now)) <ℤ pos 0 = omega (arith, ints, c.off_of.ensures, c.in-None.ensures, c.ranges.bound) in
    no_room c.args.arena.now c.args.terms.now c.args.bound c.constant.result below c.constant.ensures

pub returns-in-Some-clause-answer : goal.returns-in-Some-clause-answer
returns-in-Some-clause-answer c =
    let is : pos c.in-Some.room ≡ c.args.bound +ℤ pos (taken_off c.args.terms.now) = omega (arith, ints, c.off_of.ensures, c.in-Some.ensures, c.ranges.bound) in
    IfOk-weaker c.build.result (IsAtMost c.build.new.arena (drop 0 c.args.terms.now) c.in-Some.room) (IsUpTo c.build.new.arena c.args.terms.now c.args.bound)
    (λ r h. within_room c.build.new.arena c.args.terms.now c.args.bound c.in-Some.room r is h)
    c.build.ensures.answer
