use Rattle.std.proofs.Common.{◌≤◌, length, subst}
use Rattle.rsml_syntax.specs.declared.syntax.Spec.{Spec}
use Rattle.rsml_syntax.specs.rules.Globals.{globals}
use Rattle.rsml_meaning.specs.Words.{Each}
use Rattle.rsml_meaning.specs.Interfaces.{receives}
use Rattle.event_lines.specs.helpers.Forms.{fields_in}
use Rattle.event_lines.proofs.MostLemmas.{most_of_all}
use Rattle.event_lines.proofs.line_forms.LineForms.most_fields.Goals as goal

pub returns : goal.returns
returns c =
    subst (λ (s : Spec). Each (λ x. length x.inputs ≤ c.most_in.result) (receives s)) c.self.view_is
    (most_of_all c.self.inside.types.items (globals c.self.inside.spec.now.decls) c.most_in.result 0 c.self.inside.forms.items c.self.inside.spec.now.decls c.self.invariant.1.forms_are
    (subst (λ fs. Each (λ o. fields_in o ≤ c.most_in.result) fs) c.as_slice.ensures.value c.most_in.ensures))
