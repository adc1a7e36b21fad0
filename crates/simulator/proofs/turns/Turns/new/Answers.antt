use Rattle.std.proofs.Common.{◌≡◌, ℕ, ◌≤◌, length, sym, ◌∙◌, subst, arith}
use Rattle.rsml_syntax.specs.declared.syntax.Spec.{Spec}
use Rattle.rsml_meaning.specs.Words.{Each}
use Rattle.rsml_meaning.specs.Certified.{Certified}
use Rattle.rsml_meaning.specs.Interfaces.{receives}
use Rattle.simulator.proofs.turns.Turns.new.Goals as goal

pub new-requires-clause-fields : goal.new-requires-clause-fields
new-requires-clause-fields c =
    subst (λ (s : Spec). Each (λ x. length x.inputs ≤ c.most_fields-fields.result) (receives s)) c.in_ok-forms.ensures c.most_fields-fields.ensures

pub invariant_of-result : goal.invariant_of-result
invariant_of-result c =
    let values = c.in_ok-values.values in
    let forms = c.in_ok-forms.forms in
    let same : forms ≡ c.args.machine.now.base.spec = c.in_ok-forms.ensures ∙ sym c.requires.machine in
    let size : c.most_fields-fields.result ≡ length values.items = omega (arith, c.in_ok-values.ensures.len, values.ok.0) in
    let room = subst (λ (n : ℕ). Each (λ x. length x.inputs ≤ n) (receives forms)) size c.most_fields-fields.ensures in
    record {
      running_is = c.in_ok-running.ensures.machine;
      forms_are = same;
      room = subst (λ (s : Spec). Each (λ x. length x.inputs ≤ length values.items) (receives s)) same room;
      certified = subst (λ (s : Spec). Certified s) (sym c.requires.machine) c.requires.certified;
    }
