use Rattle.std.proofs.Common.{List, Err, ap, ◌∙◌, subst, rules}
use Rattle.rsml_syntax.specs.declared.edition.Edition.TheVariants as edition
use Rattle.rsml_syntax.specs.declared.token.Placed.{Placed}
use Rattle.rsml_syntax.specs.text.Renaming.{IsRenamed}
use Rattle.judging.proofs.TextLemmas.{lexical_unread, firsts_read}
use Rattle.judging.proofs.texts.read_first_edition.Goals as goal

pub returns-in_ok-tokens-in-Ok : goal.returns-in_ok-tokens-in-Ok
returns-in_ok-tokens-in-Ok c =
    firsts_read _ c.in-Ok.tokens.items c.in_ok-tokens-in-Ok.tokens.items _ c.requires c.in-Ok.ensures.ok
    (subst (λ (ts : List Placed). IsRenamed ts c.in_ok-tokens-in-Ok.tokens.items) c.as_slice.ensures.value c.in_ok-tokens-in-Ok.ensures.renamed) (search (rules, c.read_tokens.ensures.read, c.as_slice-in-Ok.ensures.value))

pub returns-in_ok-lexical_fault-in-Err : goal.returns-in_ok-lexical_fault-in-Err
returns-in_ok-lexical_fault-in-Err c =
    lexical_unread edition.First IsRenamed _ _ _ c.requires (λ f e. c.lex_edition_1.ensures.fault f (c.in-Err.is ∙ ap Err e)) c.in_ok-lexical_fault-in-Err.ensures
