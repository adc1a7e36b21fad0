-- The laws of reading the cases of functions and sends.
use Rattle.std.proofs.Common.{◌≡◌, true, false, Ok, refl, ◌∙◌}
use Rattle.std.specs.Prelude.{IsTrue}
use Rattle.rsml_syntax.specs.grammar.Grammar as put
use Rattle.rsml_syntax.specs.text.Tokens.{Tokens}
use Rattle.rsml_syntax.specs.grammar.WellFormed.{sum_has_items, guard_has_items, case_has_items, value_has_items, answer_has_items, send_case_has_items}
use Rattle.rsml_syntax.specs.declared.token.Mark.TheVariants as marks
use Rattle.rsml_syntax.specs.declared.token.Word.TheVariants as words
use Rattle.rsml_syntax.specs.declared.syntax.Answer.{Answer}
use Rattle.rsml_syntax.specs.declared.syntax.Answer.TheVariants as answers
use Rattle.rsml_syntax.specs.declared.syntax.Case.{Case}
use Rattle.rsml_syntax.specs.declared.syntax.SendCase.{SendCase}
use Rattle.rsml_syntax.specs.declared.syntax.Value.{Value}
use Rattle.rsml_syntax.specs.declared.syntax.Value.TheVariants as values
use Rattle.rsml_parser.specs.Declarations.{case_of, value, answer, send_case}
use Rattle.rsml_parser.specs.Parsers.{and_then, pure, first, sees_mark, sees_word, is_not, word, mark, in_parentheses}
use Rattle.rsml_parser.specs.Sums.{sum}
use Rattle.rsml_parser.proofs.Outcomes.{takes_second, then_ok}
use Rattle.rsml_parser.proofs.Forms.{form_bind, form_pure, form_as, form_if}
use Rattle.rsml_parser.proofs.Leaves.{form_word}
use Rattle.rsml_parser.proofs.Lists.{item_word, item_mark, item_later, item_as}
use Rattle.rsml_parser.proofs.MentionForms.{form_mention, mention_again}
use Rattle.rsml_parser.proofs.SpelledLists.{in_parentheses_again}
use Rattle.rsml_parser.proofs.Spelling.{Reads, ReadsItem, both, halves, word_for, mark_for, in_parens, reads_in_parentheses}
use Rattle.rsml_parser.proofs.SumForms.{Ends, sum_begins, form_sum, sum_again}
use Rattle.rsml_parser.proofs.TableForms.{form_when_guard, when_guard_again}
use Rattle.rsml_syntax.specs.grammar.Layout.{is_mark, is_the_word}

-- Functions.

pub item_case : ReadsItem case_of put.case_of case_has_items
item_case = item_as (item_later form_sum (λ v. item_later form_when_guard (λ g. mark_for marks.Semicolon (record { value = v; guard = g }))))
    (λ k x rest us s. let l = s.later in rw (s.before.0, l.before.0, l.later.0, l.later.1) (refl, both (sum_has_items s.got) (guard_has_items l.got) s.before.1 l.before.1))

pub case_again : (c : Case) (rest : Tokens) → IsTrue (case_has_items c) → case_of (put.case_of c rest) ≡ Ok (c, rest)
unfolding and_then mark
case_again c rest good =
    let is = halves (sum_has_items c.value) (guard_has_items c.guard) good in
    let more = put.mark marks.Semicolon rest in
    rw (sum_again c.value (put.when_guard c.guard more) is.0 (record { bracket = refl; sign = refl }), when_guard_again c.guard more is.1) refl

pub case_begins : (c : Case) (rest : Tokens) → IsTrue (case_has_items c) → first (is_not marks.CloseBrace) (put.case_of c rest) ≡ true
case_begins c rest good =
    sum_begins (is_not marks.CloseBrace) true (record { minus = refl; number = λ n. refl; name = λ n. refl; previous = refl }) c.value (put.when_guard c.guard (put.mark marks.Semicolon rest))
    (halves (sum_has_items c.value) (guard_has_items c.guard) good).0

-- Sends.

form_value : Reads value put.value value_has_items
form_value = form_if (form_as (form_bind (form_bind (form_word words.Function) (λ _. form_mention)) (λ f. form_pure (values.Function f))) (λ k x rest us s. rw (s.before.before, s.before.later, s.later.1, s.later.0) (refl, refl)))
    (form_as (form_bind form_sum (λ v. form_pure (values.Sum v))) (λ k x rest us s. rw (s.before.0, s.later.1, s.later.0) (refl, s.before.1)))

value_again : (v : Value) (rest : Tokens) → IsTrue (value_has_items v) → Ends rest → value (put.value v rest) ≡ Ok (v, rest)
unfolding and_then word
value_again (values.Function f) rest good ends = rw (mention_again f rest ends.bracket) refl
value_again (values.Sum s) rest good ends =
    takes_second (sees_word words.Function (put.sum s rest)) _ _ (sum_begins (is_the_word words.Function) false (record { minus = refl; number = λ n. refl; name = λ n. refl; previous = refl }) s rest good)
    ∙ then_ok (sum (put.sum s rest)) (λ s. pure (values.Sum s)) s rest (sum_again s rest good ends)

value_begins : (v : Value) (rest : Tokens) → IsTrue (value_has_items v) → sees_mark marks.CloseParen (put.value v rest) ≡ false
value_begins (values.Function f) rest good = refl
value_begins (values.Sum s) rest good = sum_begins (is_mark marks.CloseParen) false (record { minus = refl; number = λ n. refl; name = λ n. refl; previous = refl }) s rest good

form_answer : Reads answer put.answer answer_has_items
form_answer = form_if (form_as (word_for words.Quiet answers.Quiet).form (λ k x rest us s. rw (s.0, s.1) (refl, refl)))
    (form_as (form_bind (reads_in_parentheses form_value) (λ vs. form_pure (answers.Values vs))) (λ k x rest us s. rw (s.before.0, s.later.1, s.later.0) (refl, s.before.1)))

answer_again : (a : Answer) (rest : Tokens) → IsTrue (answer_has_items a) → answer (put.answer a rest) ≡ Ok (a, rest)
unfolding and_then word
answer_again answers.Quiet rest good = refl
answer_again (answers.Values vs) rest good =
    then_ok (in_parentheses value (in_parens put.value vs rest)) (λ vs. pure (answers.Values vs)) vs rest
    (in_parentheses_again value put.value value_has_items Ends value_again value_begins (λ _. record { bracket = refl; sign = refl }) (λ _. record { bracket = refl; sign = refl })
    (item_mark marks.Comma (λ _. form_value)).shrinks vs rest good)

pub item_send_case : ReadsItem send_case put.send_case send_case_has_items
item_send_case = item_as (item_word words.On (λ _. form_bind form_mention (λ m. form_bind form_when_guard (λ g. form_bind form_answer (λ a. (mark_for marks.Semicolon (record { trigger = m; guard = g; answer = a })).form)))))
    (λ k x rest us s. let g = s.later.later in let a = g.later in
    rw (s.before, s.later.before, g.before.0, a.before.0, a.later.0, a.later.1) (refl, both (guard_has_items g.got) (answer_has_items a.got) g.before.1 a.before.1))

pub send_case_again : (c : SendCase) (rest : Tokens) → IsTrue (send_case_has_items c) → send_case (put.send_case c rest) ≡ Ok (c, rest)
unfolding and_then word mark
send_case_again c rest good =
    let is = halves (guard_has_items c.guard) (answer_has_items c.answer) good in
    let end = put.mark marks.Semicolon rest in
    rw (mention_again c.trigger (put.when_guard c.guard (put.answer c.answer end)) refl, when_guard_again c.guard (put.answer c.answer end) is.0, answer_again c.answer end is.1) refl
