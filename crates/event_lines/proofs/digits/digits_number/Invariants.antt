use Rattle.std.proofs.Common.{◌≡◌, ◌<◌, ◌^◌, drop}
use Rattle.event_lines.proofs.DigitLemmas.{more_digits}
use Rattle.event_lines.proofs.digits.digits_number.Given as goal

abbrev pub invariant-loop-digit : goal.invariant-loop-digit
invariant-loop-digit l = record {
  digits : more_digits l.number (drop l.digit-index l.text) ≡ more_digits 0 l.text;
  small : l.number < 2 ^ 64;
}
