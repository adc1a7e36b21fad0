use Rattle.std.proofs.Common.{List, sym, ap, ◌∙◌}
use Rattle.rsml_syntax.specs.declared.syntax.Decl.{Decl}
use Rattle.rsml_syntax.specs.rules.Globals.{globals}
use Rattle.event_lines.proofs.FormLemmas.{are_forms}
use Rattle.event_lines.proofs.building.forms_of.Goals as goal

pub returns : goal.returns
returns c =
    are_forms c.args.owners.now c.args.decls.now _ _ c.requires (c.in_ok-globals.ensures ∙ sym (ap (λ (ds : List Decl). globals ds) c.requires))
    c.in_ok-forms.ensures.are c.in_ok-forms.ensures.within
