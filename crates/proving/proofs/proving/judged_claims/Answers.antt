use Rattle.std.proofs.Common.{refl, ap, ◌∙◌}
use Rattle.judging.proofs.JudgementLemmas.{refusal}
use Rattle.proving.specs.Outputs as output
use Rattle.proving.specs.ProveText.{of_first}
use Rattle.proving.proofs.proving.judged_claims.Goals as goal

pub certified_claims-requires-clause-certified : goal.certified_claims-requires-clause-certified
certified_claims-requires-clause-certified c = c.in_ok-report.ensures.certified.0 c.if-certified.true

pub returns : goal.returns
returns c =
    output.uncertified c.in_ok-report.field-0.report.text.items
    (refusal c.last_lines_tell_the_verdict.ensures.last_line_is_verdict c.args.checked.now c.in_ok-report.field-0.report.text.items c.spec.ensures.checked.keeps
    (λ certified. let yes = c.in_ok-report.ensures.certified.1 certified in let no = c.if-certified.false in absurd (cc (yes, no))) c.in_ok-report.ensures.text)
    refl (c.in_ok-text.ensures ∙ ap of_first c.as_slice.ensures.value)
