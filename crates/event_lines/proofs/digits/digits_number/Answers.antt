use Rattle.std.proofs.Common.{◌≡◌, ◌≤◌, false, length, sym, ◌∙◌, arith}
use Rattle.std.specs.Prelude.{◌==◌}
use Rattle.event_lines.proofs.DigitLemmas.{digit_turn, digits_are, digits_end}
use Rattle.event_lines.proofs.digits.digits_number.Goals as goal

pub loop-digit-preserved : goal.loop-digit-preserved
loop-digit-preserved c = record {
  digits = digit_turn c.args.text.now c.loop-digit.digit-index c.loop-digit.number _ _ (omega arith)
      (sym c.is_ascii_digit.ensures.value ∙ c.if-not-is_ascii_digit.false) (omega arith) c.loop-digit.invariant.digits;
  small = omega arith;
}

pub returns : goal.returns
returns c =
    let some : false ≡ (length c.args.text.now == 0) = cc in
    let all : length c.args.text.now ≤ c.loop-digit.digit-index = omega arith in
    sym (digits_are c.args.text.now some ∙ sym c.loop-digit.invariant.digits ∙ digits_end c.args.text.now c.loop-digit.digit-index c.loop-digit.number all c.loop-digit.invariant.small)
