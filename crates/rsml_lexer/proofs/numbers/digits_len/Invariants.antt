use Rattle.std.proofs.Common.{◌≡◌, ◌≤◌, ◌-◌, ◌++◌, length, take, drop}
use Rattle.rsml_syntax.specs.text.Characters.{digits_at}
use Rattle.rsml_lexer.proofs.numbers.digits_len.Given as goal

abbrev pub invariant-loop-len : goal.invariant-loop-len
invariant-loop-len l = record {
  within : l.len ≤ length l.bytes;
  passed : digits_at l.bytes ≡ take l.len l.bytes ++ digits_at (drop l.len l.bytes);
}

abbrev pub decreases-loop-len : goal.decreases-loop-len
decreases-loop-len l = length l.bytes - l.len
