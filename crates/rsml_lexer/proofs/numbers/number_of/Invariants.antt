use Rattle.std.proofs.Common.{◌≡◌, ◌≤◌, drop}
use Rattle.rsml_syntax.specs.text.Characters.{digits_value, digits_value_from}
use Rattle.rsml_syntax.specs.text.Tokens.{greatest_number}
use Rattle.rsml_lexer.proofs.numbers.number_of.Given as goal

abbrev pub invariant-loop-digit : goal.invariant-loop-digit
invariant-loop-digit l = record {
  small : l.number ≤ greatest_number;
  value : digits_value l.digits ≡ digits_value_from l.number (drop l.digit-index l.digits);
}
