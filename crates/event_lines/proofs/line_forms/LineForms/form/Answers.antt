use Rattle.event_lines.proofs.FormLemmas.{form_result}
use Rattle.event_lines.proofs.line_forms.LineForms.form.Goals as goal

pub returns : goal.returns
returns c =
    form_result c.self.inside.spec.now c.args.self.now c.args.name.now c.self.inside.receives c.self.inside.types.items c.self.inside.forms.items _ c.in_ok-number.number c.form_at.result
    c.self.view_is c.self.invariant.0 c.self.invariant.1 c.in_ok-number.ensures c.as_slice.ensures.value c.form_at.ensures
