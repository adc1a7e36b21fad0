use Rattle.std.proofs.Common.{◌≡◌, ℕ, ◌≤◌, length, sym, ◌∙◌, subst, arith}
use Rattle.rsml_syntax.specs.declared.syntax.Spec.{Spec}
use Rattle.rsml_meaning.specs.Words.{Each}
use Rattle.rsml_meaning.specs.Interfaces.{receives}
use Rattle.cover_notes.proofs.watch.Watch.new.Goals as goal

pub invariant_of-result : goal.invariant_of-result
invariant_of-result c =
    let values = c.in_ok-values.values in
    let forms = c.in_ok-forms.forms in
    let same : forms ≡ c.args.subject.machine.now.base.spec = c.in_ok-forms.ensures ∙ sym c.requires in
    let size : c.most_fields-fields.result ≡ length values.items = omega (arith, c.in_ok-values.ensures.len, values.ok.0) in
    let room = subst (λ (n : ℕ). Each (λ x. length x.inputs ≤ n) (receives forms)) size c.most_fields-fields.ensures in
    record {
      forms_are = same;
      room = subst (λ (s : Spec). Each (λ x. length x.inputs ≤ length values.items) (receives s)) same room;
      made = c.in_ok-scratch.ensures.made;
      is_world = c.in_ok-world.ensures.world;
    }
