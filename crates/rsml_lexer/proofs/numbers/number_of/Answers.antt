use Rattle.std.proofs.Common.{arith}
use Rattle.rsml_lexer.proofs.ReadingLemmas.{big_later}
use Rattle.rsml_lexer.proofs.numbers.number_of.Goals as goal

pub returns-then-number-gt-GREATEST : goal.returns-then-number-gt-GREATEST
returns-then-number-gt-GREATEST c =
    big_later c.args.digits.now c.loop-digit.digit-index c.loop-digit.number c.loop-digit-test.true c.loop-digit.invariant.value (omega (arith, c.if-number-gt-GREATEST.true, c.from.ensures))
