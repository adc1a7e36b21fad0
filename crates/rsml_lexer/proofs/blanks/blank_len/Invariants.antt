use Rattle.std.proofs.Common.{◌≡◌, ◌≤◌, ◌-◌, length, drop}
use Rattle.rsml_syntax.specs.helpers.Scanning.{after_blanks}
use Rattle.rsml_lexer.proofs.blanks.blank_len.Given as goal

abbrev pub invariant-loop-at : goal.invariant-loop-at
invariant-loop-at l = record {
  within : l.at ≤ length l.bytes;
  skipped : after_blanks (drop l.at l.bytes) ≡ after_blanks l.bytes;
}

abbrev pub decreases-loop-at : goal.decreases-loop-at
decreases-loop-at l = length l.bytes - l.at
