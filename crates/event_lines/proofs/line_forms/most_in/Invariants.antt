use Rattle.std.proofs.Common.{◌≤◌, take}
use Rattle.rsml_meaning.specs.Words.{Each}
use Rattle.event_lines.specs.helpers.Forms.{fields_in}
use Rattle.event_lines.proofs.line_forms.most_in.Given as goal

abbrev pub invariant-loop-form : goal.invariant-loop-form
invariant-loop-form l = Each (λ form. fields_in form ≤ l.most) (take l.form-index l.forms)
