use Rattle.std.proofs.Common.{◌≡◌, ℕ, List, Some, slice_get, sym, ap, ◌∙◌, subst}
use Rattle.std.specs.Prelude.{decimal}
use Rattle.rsml_syntax.specs.declared.syntax.Spec.{Spec}
use Rattle.rsml_meaning.specs.Transitions.{transitions}
use Rattle.state_tree.proofs.Lists.{beside}
use Rattle.ground_members.specs.Members.{TransitionIs}
use Rattle.text_writer.proofs.WritingLemmas.{followed, alike}
use Rattle.coverage.specs.Text.{column_lines}
use Rattle.coverage.proofs.texts.put_transition.Goals as goal

pub returns : goal.returns
returns g c =
    let m = c.args.machine.now in
    let s = m.base.spec in
    let k = c.args.number in
    let x = c.transition.result.now in
    let t = beside (TransitionIs m.base.phrases s) (transitions s) m.transitions k x c.law.ensures.transitions_are c.transition.ensures in
    let at : slice_get (transitions c.tree.result.now) k ≡ Some t.0 = ap (λ (u : Spec). slice_get (transitions u) k) c.tree.ensures ∙ t.1 in
    let is : TransitionIs m.base.phrases c.tree.result.now t.0 x = subst (λ (u : Spec). TransitionIs m.base.phrases u t.0 x) (sym c.tree.ensures) t.2 in
    let label = c.put_label.ensures m.base.phrases t.0 k at is in
    let count = alike (ap (λ (n : ℕ). decimal n) c.count.ensures) c.put_number.ensures in
    let columns = alike (ap (λ (ns : List ℕ). column_lines ns) c.columns.ensures) c.put_columns.ensures in
    (t.0, t.1, followed (followed (followed c.put.ensures (followed count (followed c.put-2.ensures label))) c.put_line_end.ensures) columns)
