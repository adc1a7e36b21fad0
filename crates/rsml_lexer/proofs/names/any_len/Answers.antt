use Rattle.std.proofs.Common.{ℕ, ◌+◌, sym, ◌∙◌, subst}
use Rattle.std.specs.Str.Iter.{chars_rest}
use Rattle.rsml_lexer.proofs.TextLemmas.{Passed, more_passed, passed_front, empty_stops, other_stops}
use Rattle.rsml_lexer.proofs.names.any_len.Goals as goal

pub loop-character-preserved : goal.loop-character-preserved
loop-character-preserved c = record {
  can_next = tt;
  is_finite = tt;
  passed = subst (λ (n : ℕ). Passed c.args.text.now (chars_rest c.next.new.self) (c.loop-character.len + n)) (sym c.len_utf8-len.ensures.value)
      (more_passed c.args.text.now (chars_rest c.loop-character.character-iterator) (chars_rest c.next.new.self) c.loop-character.len c.in-Some.character
      c.loop-character.invariant.passed c.in-Some.ensures.steps.0 (sym c.is_xid_continue.ensures.value ∙ c.if-not-is_xid_continue.false));
}

pub returns-in-None-clause-front : goal.returns-in-None-clause-front
returns-in-None-clause-front c =
    passed_front c.args.text.now (chars_rest c.loop-character.character-iterator) c.loop-character.len c.utf8.text c.loop-character.invariant.passed
    (empty_stops (chars_rest c.loop-character.character-iterator) c.in-None.ensures.steps.0.0)

pub returns-then-not-is_xid_continue-clause-front : goal.returns-then-not-is_xid_continue-clause-front
returns-then-not-is_xid_continue-clause-front c =
    passed_front c.args.text.now (chars_rest c.loop-character.character-iterator) c.loop-character.len c.utf8.text c.loop-character.invariant.passed
    (other_stops (chars_rest c.loop-character.character-iterator) (chars_rest c.next.new.self) c.in-Some.character c.in-Some.ensures.steps.0 (sym c.is_xid_continue.ensures.value ∙ c.if-not-is_xid_continue.true))
