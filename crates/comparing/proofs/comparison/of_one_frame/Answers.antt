use Rattle.std.proofs.Common.{true, false}
use Rattle.judging.proofs.JudgementLemmas.{refusal}
use Rattle.comparing.proofs.comparison.of_one_frame.Goals as goal

pub by_guards-requires-clause-certified : goal.by_guards-requires-clause-certified
by_guards-requires-clause-certified c = c.in_ok-report.ensures.certified.0 c.if-certified.true

pub returns-else-certified : goal.returns-else-certified
returns-else-certified c = (
  c.requires.frame,
  refusal c.last_lines_tell_the_verdict.ensures.last_line_is_verdict c.args.checked.now c.in_ok-report.field-0.report.text.items c.spec.ensures.checked.keeps
      (λ certified. let yes = c.in_ok-report.ensures.certified.1 certified in let no = c.if-certified.false in absurd (cc (yes, no))) c.in_ok-report.ensures.text,
)
