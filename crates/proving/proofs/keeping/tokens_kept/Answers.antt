use Rattle.std.proofs.Common.{Err, refl, ap, ◌∙◌, subst, sym}
use Rattle.proving.specs.Outputs as output
use Rattle.proving.specs.Steps.{AreJudged}
use Rattle.proving.proofs.ClaimLemmas.{syntax_unread}
use Rattle.proving.proofs.keeping.tokens_kept.Goals as goal

pub returns-in-Ok : goal.returns-in-Ok
returns-in-Ok c = λ s bytes t short lexes.
    c.claims_kept.ensures s bytes t (record { short = short; tokens = c.args.tokens.now; lexes = lexes; are = c.in-Ok.ensures.ok })

pub returns-in_ok-line-in-Err-Syntax : goal.returns-in_ok-line-in-Err-Syntax
returns-in_ok-line-in-Err-Syntax c = λ s bytes t short lexes.
    let place = c.in-Err-Syntax.token in
    let fault = c.parse_claims.ensures.syntax place (c.in-Err-Syntax.is ∙ ap Err c.in-Err-Syntax.field-0-is) in
    subst (AreJudged s bytes) (sym c.unfit.ensures)
    (output.unread (syntax_unread bytes c.args.tokens.now place c.in_ok-line-in-Err-Syntax.line.items short lexes fault c.in_ok-line-in-Err-Syntax.ensures) refl)
