-- The laws of reading phrases.
use Rattle.std.proofs.Common.{◌≡◌, true, false, List, [], Ok, refl, ◌∙◌}
use Rattle.std.specs.Prelude.{IsTrue}
use Rattle.std.specs.List.{list_all}
use Rattle.rsml_syntax.specs.grammar.Grammar as put
use Rattle.rsml_syntax.specs.grammar.Layout.{is_the_word}
use Rattle.rsml_syntax.specs.text.Tokens.{Tokens}
use Rattle.rsml_syntax.specs.grammar.WellFormed.{has_items, sum_has_items, simple_has_items, phrase_has_items}
use Rattle.rsml_syntax.specs.declared.token.Mark.TheVariants as marks
use Rattle.rsml_syntax.specs.declared.token.Word.{Word}
use Rattle.rsml_syntax.specs.declared.token.Word.TheVariants as words
use Rattle.rsml_syntax.specs.declared.syntax.Mention.{Mention}
use Rattle.rsml_syntax.specs.declared.syntax.Phrase.{Phrase}
use Rattle.rsml_syntax.specs.declared.syntax.Phrase.TheVariants as phrases
use Rattle.rsml_syntax.specs.declared.syntax.Relation.{Relation}
use Rattle.rsml_syntax.specs.declared.syntax.Relation.TheVariants as relations
use Rattle.rsml_syntax.specs.declared.syntax.Simple.{Simple}
use Rattle.rsml_syntax.specs.declared.syntax.Simple.TheVariants as simples
use Rattle.rsml_syntax.specs.declared.syntax.Sum.{Sum}
use Rattle.rsml_parser.specs.Mentions.{mention}
use Rattle.rsml_parser.specs.Phrases.{path, of_macro, of_function, comparison, simple, quantified, phrase}
use Rattle.rsml_parser.specs.Parsers.{and_then, pure, first, is_not, sees_mark, sees_word, word, mark, name}
use Rattle.rsml_parser.proofs.Outcomes.{takes_second, then_ok}
use Rattle.rsml_parser.proofs.Forms.{form_bind, form_pure, form_as, form_if}
use Rattle.rsml_parser.proofs.Leaves.{form_word, form_mark, form_name}
use Rattle.rsml_parser.proofs.MentionForms.{form_amount, amount_again, form_mention, mention_again}
use Rattle.rsml_parser.proofs.Lists.{item_mark}
use Rattle.rsml_parser.proofs.SpelledLists.{separated_again}
use Rattle.rsml_parser.proofs.Spelling.{Reads, reads_any, both, halves, all_any, any, reads_separated}
use Rattle.rsml_parser.proofs.SumForms.{Ends, sum_begins, form_sum, sum_again, form_relation, relation_again}

form_path : Reads path put.simple simple_has_items
form_path = form_as (form_bind (form_bind (form_word words.In) (λ _. reads_separated marks.Dot (reads_any form_mention))) (λ p. form_pure (simples.In p)))
    (λ k x rest us s. rw (s.before.before, s.before.later.0, s.later.1, s.later.0) (refl, (halves (has_items s.got) (list_all any s.got) s.before.later.1).0))

form_of_macro : Reads of_macro put.simple simple_has_items
form_of_macro = form_as (form_bind (form_bind (form_word words.Macro) (λ _. form_mention)) (λ m. form_pure (simples.Macro m)))
    (λ k x rest us s. rw (s.before.before, s.before.later, s.later.1, s.later.0) (refl, refl))

form_of_function : Reads of_function put.simple simple_has_items
form_of_function = form_as (form_bind (form_word words.Function) (λ _. form_bind form_mention (λ f. form_bind form_relation (λ r. form_bind form_sum (λ s. form_pure (simples.Function f r s))))))
    (λ k x rest us s. let l = s.later.later.later in
    rw (s.before, s.later.before, s.later.later.before, l.before.0, l.later.1, l.later.0) (refl, l.before.1))

form_comparison : Reads comparison put.simple simple_has_items
form_comparison = form_as (form_bind form_sum (λ l. form_bind form_relation (λ r. form_bind form_sum (λ s. form_pure (simples.Compare l r s)))))
    (λ k x rest us s. let l = s.later.later in
    rw (s.before.0, s.later.before, l.before.0, l.later.1, l.later.0) (refl, both (sum_has_items s.got) (sum_has_items l.got) s.before.1 l.before.1))

pub form_simple : Reads simple put.simple simple_has_items
form_simple = form_if form_path (form_if form_of_macro (form_if form_of_function form_comparison))

form_quantified : Reads quantified (λ q rest. put.name q.0 (put.word words.Of (put.amount q.1 (put.mark marks.Colon (put.simple q.2 rest))))) (λ q. simple_has_items q.2)
form_quantified = form_as
    (form_bind form_name (λ v. form_bind (form_word words.Of) (λ _. form_bind form_amount (λ b. form_bind (form_mark marks.Colon) (λ _. form_bind form_simple (λ s. form_pure (v, b, s)))))))
    (λ k x rest us s. let b = s.later.later in let p = b.later.later in
    rw (s.before, s.later.before, b.before, b.later.before, p.before.0, p.later.1, p.later.0) (refl, p.before.1))

pub form_phrase : Reads phrase put.phrase phrase_has_items
form_phrase = form_if (form_as (form_bind (form_bind (form_word words.Any) (λ _. form_quantified)) (λ q. form_pure (phrases.Any q.0 q.1 q.2))) (λ k x rest us s. rw (s.before.before, s.before.later.0, s.later.1, s.later.0) (refl, s.before.later.1)))
    (form_if (form_as (form_bind (form_bind (form_word words.Every) (λ _. form_quantified)) (λ q. form_pure (phrases.Every q.0 q.1 q.2))) (λ k x rest us s. rw (s.before.before, s.before.later.0, s.later.1, s.later.0) (refl, s.before.later.1)))
    (form_as (form_bind form_simple (λ s. form_pure (phrases.Plain s))) (λ k x rest us s. rw (s.before.0, s.later.1, s.later.0) (refl, s.before.1))))

-- What is spelled is read again: a phrase stands before a bar.

abbrev bar : Tokens → Tokens
bar rest = put.mark marks.Bar rest

-- a sum begins with none of the words that begin other phrases
not_a_sum : (w : Word) → sees_word w (put.word words.Previous []) ≡ false → (s : Sum) (rest : Tokens) → IsTrue (sum_has_items s) → sees_word w (put.sum s rest) ≡ false
not_a_sum w p = sum_begins (is_the_word w) false (record { minus = refl; number = λ n. refl; name = λ n. refl; previous = p })

relation_ends : (r : Relation) (rest : Tokens) → Ends (put.relation r rest)
relation_ends relations.Equal rest = record { bracket = refl; sign = refl }
relation_ends relations.NotEqual rest = record { bracket = refl; sign = refl }
relation_ends relations.Less rest = record { bracket = refl; sign = refl }
relation_ends relations.LessEqual rest = record { bracket = refl; sign = refl }
relation_ends relations.Greater rest = record { bracket = refl; sign = refl }
relation_ends relations.GreaterEqual rest = record { bracket = refl; sign = refl }

path_again : (p : List Mention) (rest : Tokens) → IsTrue (has_items p) → path (put.simple (simples.In p) (bar rest)) ≡ Ok (simples.In p, bar rest)
unfolding and_then word
path_again p rest good =
    rw (separated_again marks.Dot mention put.mention any (λ r. sees_mark marks.OpenBracket r ≡ false) (λ m r good free. mention_again m r free) (λ r. refl)
    (item_mark marks.Dot (λ _. form_mention)).shrinks p (bar rest) good (all_any p) refl refl) refl

of_function_again : (f : Mention) (r : Relation) (s : Sum) (rest : Tokens) → IsTrue (sum_has_items s) → of_function (put.simple (simples.Function f r s) (bar rest)) ≡ Ok (simples.Function f r s, bar rest)
unfolding and_then word
of_function_again f r s rest good =
    let more = put.sum s (bar rest) in
    rw (mention_again f (put.relation r more) (relation_ends r more).bracket, relation_again r more, sum_again s (bar rest) good (record { bracket = refl; sign = refl })) refl

comparison_again : (l : Sum) (r : Relation) (s : Sum) (rest : Tokens) → IsTrue (sum_has_items l) → IsTrue (sum_has_items s) → comparison (put.simple (simples.Compare l r s) (bar rest)) ≡ Ok (simples.Compare l r s, bar rest)
unfolding and_then
comparison_again l r s rest left right =
    let more = put.sum s (bar rest) in
    rw (sum_again l (put.relation r more) left (relation_ends r more), relation_again r more, sum_again s (bar rest) right (record { bracket = refl; sign = refl })) refl

simple_again : (s : Simple) (rest : Tokens) → IsTrue (simple_has_items s) → simple (put.simple s (bar rest)) ≡ Ok (s, bar rest)
unfolding and_then word
simple_again (simples.In p) rest good = path_again p rest good
simple_again (simples.Macro m) rest good = rw (mention_again m (bar rest) refl) refl
simple_again (simples.Function f r s) rest good = of_function_again f r s rest good
simple_again (simples.Compare l r s) rest good =
    let ts = put.relation r (put.sum s (bar rest)) in
    let is = halves (sum_has_items l) (sum_has_items s) good in
    takes_second (sees_word words.In (put.sum l ts)) _ _ (not_a_sum words.In refl l ts is.0)
    ∙ takes_second (sees_word words.Macro (put.sum l ts)) _ _ (not_a_sum words.Macro refl l ts is.0)
    ∙ takes_second (sees_word words.Function (put.sum l ts)) _ _ (not_a_sum words.Function refl l ts is.0)
    ∙ comparison_again l r s rest is.0 is.1

no_quantifier : (w : Word) → sees_word w (put.word words.In []) ≡ false → sees_word w (put.word words.Macro []) ≡ false → sees_word w (put.word words.Function []) ≡ false → sees_word w (put.word words.Previous []) ≡ false →
    (s : Simple) (rest : Tokens) → IsTrue (simple_has_items s) → sees_word w (put.simple s rest) ≡ false
no_quantifier w i m f p (simples.In _) rest good = i
no_quantifier w i m f p (simples.Macro _) rest good = m
no_quantifier w i m f p (simples.Function _ _ _) rest good = f
no_quantifier w i m f p (simples.Compare l r s) rest good = not_a_sum w p l (put.relation r (put.sum s rest)) (halves (sum_has_items l) (sum_has_items s) good).0

pub phrase_again : (p : Phrase) (rest : Tokens) → IsTrue (phrase_has_items p) → phrase (put.phrase p (bar rest)) ≡ Ok (p, bar rest)
unfolding and_then word mark name
phrase_again (phrases.Any v b s) rest good = rw (amount_again b (put.mark marks.Colon (put.simple s (bar rest))), simple_again s rest good) refl
phrase_again (phrases.Every v b s) rest good = rw (amount_again b (put.mark marks.Colon (put.simple s (bar rest))), simple_again s rest good) refl
phrase_again (phrases.Plain s) rest good =
    takes_second (sees_word words.Any (put.simple s (bar rest))) _ _ (no_quantifier words.Any refl refl refl refl s (bar rest) good)
    ∙ takes_second (sees_word words.Every (put.simple s (bar rest))) _ _ (no_quantifier words.Every refl refl refl refl s (bar rest) good)
    ∙ then_ok (simple (put.simple s (bar rest))) (λ s. pure (phrases.Plain s)) s (bar rest) (simple_again s rest good)

-- a phrase does not begin with a mark that closes a table
pub phrase_begins : (p : Phrase) (rest : Tokens) → IsTrue (phrase_has_items p) → first (is_not marks.CloseBrace) (put.phrase p rest) ≡ true
phrase_begins (phrases.Any v b s) rest good = refl
phrase_begins (phrases.Every v b s) rest good = refl
phrase_begins (phrases.Plain (simples.In p)) rest good = refl
phrase_begins (phrases.Plain (simples.Macro m)) rest good = refl
phrase_begins (phrases.Plain (simples.Function f r s)) rest good = refl
phrase_begins (phrases.Plain (simples.Compare l r s)) rest good =
    sum_begins (is_not marks.CloseBrace) true (record { minus = refl; number = λ n. refl; name = λ n. refl; previous = refl }) l (put.relation r (put.sum s rest)) (halves (sum_has_items l) (sum_has_items s) good).0
