use Rattle.judging.proofs.JudgementLemmas.{certified_judged, refused_judged}
use Rattle.judging.proofs.judging.analyse.Goals as goal

pub returns-then-certified : goal.returns-then-certified
returns-then-certified c =
    certified_judged c.args.checked c.spec.ensures.checked.keeps c.in_ok-report.field-0.report.text c.in_ok-report.field-0.report.certified
    c.in_ok-report.ensures.text c.in_ok-report.ensures.certified c.certified_specifications_are_deterministic.ensures c.last_lines_tell_the_verdict.ensures.last_line_is_verdict
    c.if-certified.true _ c.certificate.ensures

pub returns-else-certified : goal.returns-else-certified
returns-else-certified c =
    refused_judged c.args.checked c.spec.ensures.checked.keeps c.in_ok-report.field-0.report.text c.in_ok-report.field-0.report.certified
    c.in_ok-report.ensures.text c.in_ok-report.ensures.certified c.last_lines_tell_the_verdict.ensures.last_line_is_verdict
    c.if-certified.false _ c.in_ok-report.ensures.verdicts _ c.refusal.ensures
