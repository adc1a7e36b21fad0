-- The laws of reading numbers, sizes and mentions.
use Rattle.std.proofs.Common.{◌≡◌, Bool, true, false, Option, Some, None, Ok, refl, ◌∙◌}
use Rattle.rsml_syntax.specs.grammar.Grammar as put
use Rattle.rsml_syntax.specs.text.Tokens.{Tokens}
use Rattle.rsml_syntax.specs.declared.token.Mark.TheVariants as marks
use Rattle.rsml_syntax.specs.declared.token.Word.TheVariants as words
use Rattle.rsml_syntax.specs.declared.syntax.Amount.{Amount}
use Rattle.rsml_syntax.specs.declared.syntax.Amount.TheVariants as amounts
use Rattle.rsml_syntax.specs.declared.syntax.Index.{Index}
use Rattle.rsml_syntax.specs.declared.syntax.Index.TheVariants as indices
use Rattle.rsml_syntax.specs.declared.syntax.Initial.{Initial}
use Rattle.rsml_syntax.specs.declared.syntax.Initial.TheVariants as initials
use Rattle.rsml_syntax.specs.declared.syntax.Mention.{Mention}
use Rattle.rsml_syntax.specs.declared.syntax.Signed.{Signed}
use Rattle.rsml_parser.specs.Parsers.{and_then, pure, sees_mark, sees_name, word, mark, name, number}
use Rattle.rsml_parser.specs.Mentions.{minus, signed, amount, bracketed_amount, size, index, bracketed_index, indexed, mention, initial}
use Rattle.rsml_parser.proofs.Outcomes.{takes_second, then_ok}
use Rattle.rsml_parser.proofs.Forms.{form_bind, form_pure, form_as, form_if}
use Rattle.rsml_parser.proofs.Leaves.{form_mark, form_name, form_number}
use Rattle.rsml_parser.proofs.Spelling.{Writes, word_for, mark_for}

pub form_minus : Writes minus put.minus
form_minus = form_if (form_as (mark_for marks.Minus true).form (λ k b rest us s. rw (s.0, s.1) refl)) (form_as (form_pure false) (λ k b rest us s. rw (s.1, s.0) refl))

pub minus_again : (b : Bool) (rest : Tokens) → sees_mark marks.Minus rest ≡ false → minus (put.minus b rest) ≡ Ok (b, rest)
unfolding and_then mark
minus_again true rest free = refl
minus_again false rest free = takes_second (sees_mark marks.Minus rest) _ _ free

pub form_signed : Writes signed put.signed
form_signed = form_as (form_bind form_minus (λ m. form_bind form_number (λ n. form_pure (record { minus = m; digits = n }))))
    (λ k x rest us s. rw (s.before, s.later.before, s.later.later.1, s.later.later.0) refl)

pub signed_again : (s : Signed) (rest : Tokens) → signed (put.signed s rest) ≡ Ok (s, rest)
unfolding and_then number
signed_again s rest = rw (minus_again s.minus (put.number s.digits rest) refl) refl

pub form_amount : Writes amount put.amount
form_amount =
    form_if (form_as (form_bind form_number (λ n. form_pure (amounts.Number n))) (λ k x rest us s. rw (s.before, s.later.1, s.later.0) refl))
    (form_as (form_bind form_name (λ n. form_pure (amounts.Name n))) (λ k x rest us s. rw (s.before, s.later.1, s.later.0) refl))

pub amount_again : (a : Amount) (rest : Tokens) → amount (put.amount a rest) ≡ Ok (a, rest)
unfolding and_then name number
amount_again (amounts.Number n) rest = refl
amount_again (amounts.Name n) rest = refl

pub form_bracketed_amount : Writes bracketed_amount (λ a rest. put.size (Some a) rest)
form_bracketed_amount = form_as (form_bind (form_mark marks.OpenBracket) (λ _. form_bind form_amount (λ a. form_bind (form_mark marks.CloseBracket) (λ _. form_pure a))))
    (λ k x rest us s. rw (s.before, s.later.before, s.later.later.before, s.later.later.later.1, s.later.later.later.0) refl)

pub bracketed_amount_again : (a : Amount) (rest : Tokens) → bracketed_amount (put.size (Some a) rest) ≡ Ok (a, rest)
unfolding and_then mark
bracketed_amount_again a rest = rw (amount_again a (put.mark marks.CloseBracket rest)) refl

pub form_size : Writes size put.size
form_size = form_if (form_as (form_bind form_bracketed_amount (λ a. form_pure (Some a))) (λ k x rest us s. rw (s.before, s.later.1, s.later.0) refl))
    (form_as (form_pure None) (λ k x rest us s. rw (s.1, s.0) refl))

pub size_again : (s : Option Amount) (rest : Tokens) → sees_mark marks.OpenBracket rest ≡ false → size (put.size s rest) ≡ Ok (s, rest)
unfolding and_then
size_again None rest free = takes_second (sees_mark marks.OpenBracket rest) _ _ free
size_again (Some a) rest free = rw (bracketed_amount_again a rest) refl

pub form_index : Writes index put.index
form_index =
    form_if (form_as (form_bind form_number (λ n. form_pure (indices.Number n))) (λ k x rest us s. rw (s.before, s.later.1, s.later.0) refl))
    (form_if (form_as (form_bind form_name (λ n. form_pure (indices.Name n))) (λ k x rest us s. rw (s.before, s.later.1, s.later.0) refl))
    (form_as (word_for words.This indices.This).form (λ k x rest us s. rw (s.0, s.1) refl)))

index_again : (i : Index) (rest : Tokens) → index (put.index i rest) ≡ Ok (i, rest)
unfolding and_then word name number
index_again (indices.Number n) rest = refl
index_again (indices.Name n) rest = refl
index_again indices.This rest = refl

pub form_bracketed_index : Writes bracketed_index (λ i rest. put.indexed (Some i) rest)
form_bracketed_index = form_as (form_bind (form_mark marks.OpenBracket) (λ _. form_bind form_index (λ i. form_bind (form_mark marks.CloseBracket) (λ _. form_pure i))))
    (λ k x rest us s. rw (s.before, s.later.before, s.later.later.before, s.later.later.later.1, s.later.later.later.0) refl)

bracketed_index_again : (i : Index) (rest : Tokens) → bracketed_index (put.indexed (Some i) rest) ≡ Ok (i, rest)
unfolding and_then mark
bracketed_index_again i rest = rw (index_again i (put.mark marks.CloseBracket rest)) refl

pub form_indexed : Writes indexed put.indexed
form_indexed = form_if (form_as (form_bind form_bracketed_index (λ i. form_pure (Some i))) (λ k x rest us s. rw (s.before, s.later.1, s.later.0) refl))
    (form_as (form_pure None) (λ k x rest us s. rw (s.1, s.0) refl))

indexed_again : (i : Option Index) (rest : Tokens) → sees_mark marks.OpenBracket rest ≡ false → indexed (put.indexed i rest) ≡ Ok (i, rest)
unfolding and_then
indexed_again None rest free = takes_second (sees_mark marks.OpenBracket rest) _ _ free
indexed_again (Some i) rest free = rw (bracketed_index_again i rest) refl

pub form_mention : Writes mention put.mention
form_mention = form_as (form_bind form_name (λ n. form_bind form_indexed (λ i. form_pure (record { name = n; index = i }))))
    (λ k x rest us s. rw (s.before, s.later.before, s.later.later.1, s.later.later.0) refl)

pub mention_again : (m : Mention) (rest : Tokens) → sees_mark marks.OpenBracket rest ≡ false → mention (put.mention m rest) ≡ Ok (m, rest)
unfolding and_then name
mention_again m rest free = rw (indexed_again m.index rest free) refl

pub form_initial : Writes initial put.initial
form_initial =
    form_if (form_as (form_bind form_name (λ n. form_pure (initials.Name n))) (λ k x rest us s. rw (s.before, s.later.1, s.later.0) refl))
    (form_as (form_bind form_signed (λ n. form_pure (initials.Number n))) (λ k x rest us s. rw (s.before, s.later.1, s.later.0) refl))

no_name : (b : Bool) (rest : Tokens) → sees_name rest ≡ false → sees_name (put.minus b rest) ≡ false
no_name true rest free = refl
no_name false rest free = free

pub initial_again : (i : Initial) (rest : Tokens) → initial (put.initial i rest) ≡ Ok (i, rest)
unfolding and_then name
initial_again (initials.Name n) rest = refl
initial_again (initials.Number s) rest =
    takes_second (sees_name (put.signed s rest)) _ _ (no_name s.minus (put.number s.digits rest) refl)
    ∙ then_ok (signed (put.signed s rest)) (λ s. pure (initials.Number s)) s rest (signed_again s rest)
