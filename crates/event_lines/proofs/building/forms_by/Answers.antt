use Rattle.std.proofs.Common.{◌+◌, length, ap, ◌∙◌}
use Rattle.event_lines.specs.helpers.Declared.{types_of}
use Rattle.event_lines.specs.helpers.Forms.{after}
use Rattle.event_lines.proofs.FormLemmas.{forms_turn, within_turn}
use Rattle.event_lines.proofs.building.forms_by.Goals as goal

pub loop-decl-preserved : goal.loop-decl-preserved
loop-decl-preserved c = record {
  are = forms_turn (types_of c.args.owners.now) c.args.globals.now c.args.decls.now c.loop-decl.decl-index c.loop-decl.first c.after-first.result c.decl-item.result c.in_ok-form.form _ _ _
      c.loop-decl-test.true c.decl-item.is c.in_ok-form.ensures.is (c.after-first.ensures ∙ ap (after c.loop-decl.first) c.as_ref.ensures.value) c.in_ok-push.ensures.items c.loop-decl.invariant.are;
  within = within_turn (length c.args.owners.now + 1) c.in_ok-form.form _ _ c.in_ok-push.ensures.items c.in_ok-form.ensures.within c.loop-decl.invariant.within;
}
