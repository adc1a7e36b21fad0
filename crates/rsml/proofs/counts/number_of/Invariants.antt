use Rattle.std.proofs.Common.{◌≡◌, ◌≤◌, drop}
use Rattle.rsml.proofs.CountLemmas.{more_digits}
use Rattle.rsml.proofs.counts.number_of.Given as goal

abbrev pub invariant-loop-digit : goal.invariant-loop-digit
invariant-loop-digit l = record {
  digits : more_digits l.number (drop l.digit-index l.word) ≡ more_digits 0 l.word;
  small : l.number ≤ 100;
}
