use Rattle.std.proofs.Common.{ℕ, List, ◌++◌, refl, ap, ◌∙◌}
use Rattle.judging.proofs.JudgementLemmas.{refusal}
use Rattle.proving.specs.Outputs as output
use Rattle.proving.specs.ProveText.{of_first}
use Rattle.proving.proofs.explained.judged_claims.Goals as goal

pub certified_claims-requires-clause-certified : goal.certified_claims-requires-clause-certified
certified_claims-requires-clause-certified c = c.in_ok-report.ensures.certified.0 c.if-certified.true

pub returns : goal.returns
returns c = record {
  report = c.in_ok-text.text.items;
  notes = c.in_ok-notes.notes.items;
  split = c.in_ok-put.ensures.ok ∙ ap (λ (ns : List ℕ). c.in_ok-text.text.items ++ ns) c.as_slice-else-certified-2.ensures.value;
  reported = output.uncertified c.in_ok-report.field-0.report.text.items
      (refusal c.last_lines_tell_the_verdict.ensures.last_line_is_verdict c.args.checked.now c.in_ok-report.field-0.report.text.items c.spec.ensures.checked.keeps
      (λ certified. let yes = c.in_ok-report.ensures.certified.1 certified in let no = c.if-certified.false in absurd (cc (yes, no))) c.in_ok-report.ensures.text)
      refl (c.in_ok-text.ensures ∙ ap of_first c.as_slice-else-certified.ensures.value);
  comments = c.in_ok-notes.ensures;
}
