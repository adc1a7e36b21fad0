use Rattle.std.proofs.Common.{◌≡◌, ◌≤◌, ◌-◌, ◌++◌, length, take, drop}
use Rattle.rsml_syntax.specs.text.Characters.{passing}
use Rattle.rsml_syntax.specs.helpers.Scanning.{after_passing}
use Rattle.rsml_lexer.specs.Bytes.{is_ascii_continuing}
use Rattle.rsml_lexer.proofs.names.ascii_len.Given as goal

abbrev pub invariant-loop-len : goal.invariant-loop-len
invariant-loop-len l = record {
  within : l.len ≤ length l.bytes;
  passed : passing is_ascii_continuing l.bytes ≡ take l.len l.bytes ++ passing is_ascii_continuing (drop l.len l.bytes);
  left : after_passing is_ascii_continuing l.bytes ≡ after_passing is_ascii_continuing (drop l.len l.bytes);
}

abbrev pub decreases-loop-len : goal.decreases-loop-len
decreases-loop-len l = length l.bytes - l.len
