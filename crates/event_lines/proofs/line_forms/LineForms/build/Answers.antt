use Rattle.std.proofs.Common.{◌∙◌}
use Rattle.event_lines.proofs.FormLemmas.{built}
use Rattle.event_lines.proofs.line_forms.LineForms.build.Goals as goal

pub invariant_of-result : goal.invariant_of-result
invariant_of-result c =
    (c.in_ok-receives.ensures ∙ c.in_ok-owners.ensures ∙ c.as_slice-decls.ensures, built _ _ _ _ c.as_slice-decls.ensures c.in_ok-types.ensures c.in_ok-forms.ensures)
