use Rattle.std.specs.Str.Iter.{chars_rest}
use Rattle.rsml_lexer.proofs.TextLemmas.{Passed}
use Rattle.rsml_lexer.proofs.names.any_len.Given as goal

abbrev pub invariant-loop-character : goal.invariant-loop-character
invariant-loop-character l = record {
  can_next : (goal.iterator-loop-character).can_next l.character-iterator;
  is_finite : (goal.iterator-loop-character).is_finite l.character-iterator;
  passed : Passed l.text (chars_rest l.character-iterator) l.len;
}
