use Rattle.std.proofs.Common.{◌≤◌, Err, List, length, refl, ap, ◌∙◌, subst, sym, arith}
use Rattle.judging.specs.Texts.{greatest_text}
use Rattle.rsml_syntax.specs.declared.edition.Edition.TheVariants as edition
use Rattle.rsml_syntax.specs.declared.token.Placed.{Placed}
use Rattle.rsml_syntax.specs.text.Lexing.{Lexes}
use Rattle.proving.specs.Outputs as output
use Rattle.proving.specs.Steps.{AreJudged}
use Rattle.proving.proofs.ClaimLemmas.{lexical_unread}
use Rattle.proving.proofs.keeping.kept_claims.Goals as goal

pub returns-in-Ok : goal.returns-in-Ok
returns-in-Ok c = λ s t.
    let short : length c.args.claims.now ≤ greatest_text = let b = c.if-claims-gt-GREATEST_TEXT.false in omega (arith, b) in
    c.tokens_kept.ensures s c.args.claims.now t short
    (subst (λ (ts : List Placed). Lexes edition.Second c.args.claims.now ts) (sym c.as_slice.ensures.value) c.in-Ok.ensures.ok)

pub returns-in_ok-line-in-Err : goal.returns-in_ok-line-in-Err
returns-in_ok-line-in-Err c = λ s t.
    let short : length c.args.claims.now ≤ greatest_text = let b = c.if-claims-gt-GREATEST_TEXT.false in omega (arith, b) in
    subst (AreJudged s c.args.claims.now) (sym c.unfit.ensures)
    (output.unread (lexical_unread c.args.claims.now c.in-Err.error c.in_ok-line-in-Err.line.items short (λ f e. c.lex.ensures.fault f (c.in-Err.is ∙ ap Err e))
    c.in_ok-line-in-Err.ensures) refl)
