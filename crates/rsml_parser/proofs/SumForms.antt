-- The laws of reading sums and relations.
use Rattle.std.proofs.Common.{◌≡◌, ℕ, Bool, true, false, List, [], ◌∷◌, Ok, refl, ◌∙◌}
use Rattle.std.specs.Prelude.{if◌then◌else◌, IsTrue}
use Rattle.rsml_syntax.specs.grammar.Grammar as put
use Rattle.rsml_syntax.specs.text.Tokens.{Tokens}
use Rattle.rsml_syntax.specs.grammar.WellFormed.{has_items, sum_has_items}
use Rattle.rsml_syntax.specs.declared.token.Mark.TheVariants as marks
use Rattle.rsml_syntax.specs.declared.token.Token.{Token}
use Rattle.rsml_syntax.specs.declared.token.Token.TheVariants as token
use Rattle.rsml_syntax.specs.declared.token.Word.TheVariants as words
use Rattle.rsml_syntax.specs.declared.syntax.Operand.{Operand}
use Rattle.rsml_syntax.specs.declared.syntax.Operand.TheVariants as operands
use Rattle.rsml_syntax.specs.declared.syntax.Relation.{Relation}
use Rattle.rsml_syntax.specs.declared.syntax.Relation.TheVariants as relations
use Rattle.rsml_syntax.specs.declared.syntax.Sum.{Sum}
use Rattle.rsml_syntax.specs.declared.syntax.Term.{Term}
use Rattle.rsml_parser.specs.Parsers.{◌>>=◌, and_then, pure, first, sees_mark, word, mark, number, many, and_more}
use Rattle.rsml_parser.specs.Sums.{operand, first_term, is_sign, sign, later_term, sum, relation}
use Rattle.rsml_parser.proofs.Outcomes.{then_ok}
use Rattle.rsml_parser.proofs.Forms.{form_bind, form_pure, form_as, form_if}
use Rattle.rsml_parser.proofs.Leaves.{form_word, form_number}
use Rattle.rsml_parser.proofs.Lists.{Item, item_first, item_if, item_as}
use Rattle.rsml_parser.proofs.MentionForms.{form_minus, minus_again, form_mention, mention_again}
use Rattle.rsml_parser.proofs.SpelledLists.{many_again}
use Rattle.rsml_parser.proofs.Spelling.{Writes, Reads, any, any_item, all_any, mark_for, reads_many}

pub form_operand : Writes operand put.operand
form_operand =
    form_if (form_as (form_bind form_number (λ n. form_pure (operands.Number n))) (λ k x rest us s. rw (s.before, s.later.1, s.later.0) refl))
    (form_if (form_as (form_bind (form_bind (form_word words.Previous) (λ _. form_mention)) (λ m. form_pure (operands.Previous m)))
    (λ k x rest us s. rw (s.before.before, s.before.later, s.later.1, s.later.0) refl))
    (form_as (form_bind form_mention (λ m. form_pure (operands.Mention m))) (λ k x rest us s. rw (s.before, s.later.1, s.later.0) refl)))

operand_again : (o : Operand) (rest : Tokens) → sees_mark marks.OpenBracket rest ≡ false → operand (put.operand o rest) ≡ Ok (o, rest)
unfolding and_then number word
operand_again (operands.Number n) rest free = refl
operand_again (operands.Previous m) rest free = rw (mention_again m rest free) refl
operand_again (operands.Mention m) rest free = rw (mention_again m rest free) refl

no_minus : (o : Operand) (rest : Tokens) → sees_mark marks.Minus (put.operand o rest) ≡ false
no_minus (operands.Number n) rest = refl
no_minus (operands.Previous m) rest = refl
no_minus (operands.Mention m) rest = refl

form_first_term : Writes first_term put.first_term
form_first_term = form_as (form_bind form_minus (λ m. form_bind form_operand (λ o. form_pure (record { minus = m; operand = o }))))
    (λ k x rest us s. rw (s.before, s.later.before, s.later.later.1, s.later.later.0) refl)

first_term_again : (t : Term) (rest : Tokens) → sees_mark marks.OpenBracket rest ≡ false → first_term (put.first_term t rest) ≡ Ok (t, rest)
unfolding and_then
first_term_again t rest free = rw (minus_again t.minus (put.operand t.operand rest) (no_minus t.operand rest), operand_again t.operand rest free) refl

item_sign : Item sign (λ _ m rest us. us ≡ put.mark (if m then marks.Minus else marks.Plus) rest)
item_sign = item_if (item_as (mark_for marks.Plus false) (λ k x rest us s. rw (s.0, s.1) refl)) (item_as (mark_for marks.Minus true) (λ k x rest us s. rw (s.0, s.1) refl))

sign_again : (m : Bool) (rest : Tokens) → sign (put.mark (if m then marks.Minus else marks.Plus) rest) ≡ Ok (m, rest)
unfolding and_then mark
sign_again true rest = refl
sign_again false rest = refl

item_later_term : Item later_term (λ _ t rest us. us ≡ put.later_term t rest)
item_later_term = item_as (item_first item_sign (λ m. form_bind form_operand (λ o. form_pure (record { minus = m; operand = o }))))
    (λ k x rest us s. rw (s.before, s.later.before, s.later.later.1, s.later.later.0) refl)

later_term_again : (t : Term) (rest : Tokens) → sees_mark marks.OpenBracket rest ≡ false → later_term (put.later_term t rest) ≡ Ok (t, rest)
unfolding and_then
later_term_again t rest free = rw (sign_again t.minus (put.operand t.operand rest), operand_again t.operand rest free) refl

starts_with_sign : (t : Term) (rest : Tokens) → first is_sign (put.later_term t rest) ≡ true
starts_with_sign t rest = at t.minus
  where
    at : (m : Bool) → first is_sign (put.mark (if m then marks.Minus else marks.Plus) (put.operand t.operand rest)) ≡ true
    at true = refl
    at false = refl

no_bracket : (t : Term) (rest : Tokens) → sees_mark marks.OpenBracket (put.later_term t rest) ≡ false
no_bracket t rest = at t.minus
  where
    at : (m : Bool) → sees_mark marks.OpenBracket (put.mark (if m then marks.Minus else marks.Plus) (put.operand t.operand rest)) ≡ false
    at true = refl
    at false = refl

pub form_sum : Reads sum put.sum sum_has_items
unfolding and_more
form_sum = form_as (form_bind form_first_term (λ t. form_bind (form_bind (reads_many is_sign (any_item item_later_term)) (λ ts. form_pure (t ∷ ts))) (λ ts. form_pure (record { terms = ts }))))
    (λ k x rest us s. let l = s.later.before in rw (s.before, l.before.0, l.later.1, s.later.later.1, s.later.later.0, l.later.0) (refl, refl))

pub form_relation : Writes relation put.relation
form_relation = form_if (is marks.Equal relations.Equal refl) (form_if (is marks.NotEqual relations.NotEqual refl) (form_if (is marks.Less relations.Less refl)
    (form_if (is marks.LessEqual relations.LessEqual refl) (form_if (is marks.Greater relations.Greater refl) (is marks.GreaterEqual relations.GreaterEqual refl)))))
  where
    is : (m : _) (r : Relation) → m ≡ put.relation_mark r → Writes (mark m >>= (λ _. pure r)) put.relation
    is m r e = form_as (mark_for m r).form (λ k x rest us s. rw (s.0, s.1, e) refl)

pub relation_again : (r : Relation) (rest : Tokens) → relation (put.relation r rest) ≡ Ok (r, rest)
unfolding and_then mark
relation_again relations.Equal rest = refl
relation_again relations.NotEqual rest = refl
relation_again relations.Less rest = refl
relation_again relations.LessEqual rest = refl
relation_again relations.Greater rest = refl
relation_again relations.GreaterEqual rest = refl

-- what comes after a sum does not go on with it
pub record Ends (rest : Tokens) : Type 0 where
  pub bracket : sees_mark marks.OpenBracket rest ≡ false
  pub sign : first is_sign rest ≡ false

pub sum_again : (s : Sum) (rest : Tokens) → IsTrue (sum_has_items s) → Ends rest → sum (put.sum s rest) ≡ Ok (s, rest)
unfolding and_more
sum_again s rest good free = at s.terms good
  where
    at : (ts : List Term) → IsTrue (sum_has_items (record { terms = ts })) → sum (put.terms ts rest) ≡ Ok ((let s : Sum = record { terms = ts } in s), rest)
    at [] good = absurd cc
    at (t ∷ ts) good =
        let more = put.each put.later_term ts rest in
        then_ok (first_term (put.first_term t more)) (λ t. and_more (first is_sign) later_term (t ∷ []) >>= (λ ts. pure (record { terms = ts }))) t more (first_term_again t more (after ts))
        ∙ then_ok (and_more (first is_sign) later_term (t ∷ []) more) (λ ts. pure (record { terms = ts })) (t ∷ ts) rest
        (then_ok (many (first is_sign) later_term more) (λ ts. pure (t ∷ ts)) ts rest (many_again is_sign later_term put.later_term any (λ r. sees_mark marks.OpenBracket r ≡ false) (λ t r good free. later_term_again t r free) (λ t r good. starts_with_sign t r) (λ t r good. no_bracket t r)
        item_later_term.shrinks ts rest (all_any ts) free.bracket free.sign))
      where
        after : (ts : List Term) → sees_mark marks.OpenBracket (put.each put.later_term ts rest) ≡ false
        after [] = free.bracket
        after (t ∷ ts) = no_bracket t (put.each put.later_term ts rest)

-- what the test says of the tokens with which a sum begins
pub record BeginsSums (test : Token → Bool) (b : Bool) : Type 0 where
  pub minus : test (token.Mark marks.Minus) ≡ b
  pub number : (n : ℕ) → test (token.Number n) ≡ b
  pub name : (n : List ℕ) → test (token.Name n) ≡ b
  pub previous : test (token.Word words.Previous) ≡ b

pub sum_begins : (test : Token → Bool) (b : Bool) → BeginsSums test b → (s : Sum) (rest : Tokens) → IsTrue (sum_has_items s) → first test (put.sum s rest) ≡ b
sum_begins test b is s rest good = at s.terms good
  where
    with_operand : (m : Bool) (o : Operand) (more : Tokens) → first test (put.minus m (put.operand o more)) ≡ b
    with_operand true o more = is.minus
    with_operand false (operands.Number n) more = is.number n
    with_operand false (operands.Mention m) more = is.name m.name
    with_operand false (operands.Previous m) more = is.previous

    at : (ts : List Term) → IsTrue (has_items ts) → first test (put.terms ts rest) ≡ b
    at [] good = absurd cc
    at (t ∷ ts) good = with_operand t.minus t.operand (put.each put.later_term ts rest)
