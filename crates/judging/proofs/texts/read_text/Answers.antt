use Rattle.std.proofs.Common.{Err, ap, ◌∙◌, rules}
use Rattle.rsml_syntax.specs.declared.edition.Edition.TheVariants as edition
use Rattle.judging.specs.Texts.{AreThemselves}
use Rattle.judging.proofs.TextLemmas.{lexical_unread, texts_read}
use Rattle.judging.proofs.texts.read_text.Goals as goal

pub returns-in-Ok-clause-read : goal.returns-in-Ok-clause-read
returns-in-Ok-clause-read c = texts_read _ c.in-Ok.tokens.items _ c.requires c.in-Ok.ensures.ok (search (rules, c.read_tokens.ensures.read, c.as_slice.ensures.value))

pub returns-in_ok-lexical_fault-in-Err-clause-read : goal.returns-in_ok-lexical_fault-in-Err-clause-read
returns-in_ok-lexical_fault-in-Err-clause-read c =
    lexical_unread edition.Second AreThemselves _ _ _ c.requires (λ f e. c.lex.ensures.fault f (c.in-Err.is ∙ ap Err e)) c.in_ok-lexical_fault-in-Err.ensures
