use Rattle.std.proofs.Common.{Err, ap, ◌∙◌}
use Rattle.judging.proofs.ShortLemmas.{short_tokens}
use Rattle.judging.proofs.TextLemmas.{none_read}
use Rattle.judging.proofs.texts.read_tokens.Goals as goal

pub returns-in_ok-parse_fault-in-Err-clause-read : goal.returns-in_ok-parse_fault-in-Err-clause-read
returns-in_ok-parse_fault-in-Err-clause-read c =
    none_read _ _ _ (λ place e. c.parse.ensures.syntax place (c.in-Err.is ∙ ap Err e)) (λ place e. c.parse.ensures.deep place (c.in-Err.is ∙ ap Err e))
    c.in_ok-parse_fault-in-Err.ensures

pub returns-in-Ok-clause-short : goal.returns-in-Ok-clause-short
returns-in-Ok-clause-short c = short_tokens c.args.tokens.now c.in-Ok.spec c.requires.few c.in-Ok.ensures.ok
