use Rattle.std.proofs.Common.{◌≡◌, ℕ, ◌+◌, ◌*◌, ◌≤◌, false, length, sym, ap, ◌∙◌, arith}
use Rattle.std.specs.Prelude.{◌==◌}
use Rattle.rsml.specs.Counts.{most}
use Rattle.rsml.proofs.CountLemmas.{digit_turn, digits_are, digits_end}
use Rattle.rsml.proofs.counts.number_of.Goals as goal

pub loop-digit-preserved : goal.loop-digit-preserved
loop-digit-preserved c = record {
  digits = digit_turn c.args.word.now c.loop-digit.digit-index c.loop-digit.number _ _ (omega arith)
      (sym c.is_ascii_digit.ensures.value ∙ c.if-not-is_ascii_digit.false) (c.at_most_100-number.ensures ∙ ap (λ (d : ℕ). most (c.loop-digit.number * 10 + d)) c.from.ensures) c.loop-digit.invariant.digits;
  small = omega arith;
}

pub returns : goal.returns
returns c =
    let some : false ≡ (length c.args.word.now == 0) = cc in
    let all : length c.args.word.now ≤ c.loop-digit.digit-index = omega arith in
    sym (digits_are c.args.word.now some ∙ sym c.loop-digit.invariant.digits ∙ digits_end c.args.word.now c.loop-digit.digit-index c.loop-digit.number all c.loop-digit.invariant.small)
