use Rattle.std.proofs.Common.{◌≡◌, ℕ, List, [], Option, Some, slice_get, ap, ◌∙◌}
use Rattle.std.specs.Prelude.{decimal}
use Rattle.std.specs.Option.{option_map_or}
use Rattle.rsml_syntax.specs.declared.syntax.Spec.{Spec}
use Rattle.rsml_meaning.specs.Words.{Instance}
use Rattle.rsml_meaning.specs.Interfaces.{send_cases, sends}
use Rattle.rsml_meaning.specs.Texts.{instance_text, case_label}
use Rattle.state_tree.proofs.Lists.{beside}
use Rattle.ground_members.specs.Members.{SendCaseIs}
use Rattle.text_writer.proofs.WritingLemmas.{followed, alike}
use Rattle.coverage.specs.Text.{column_lines}
use Rattle.coverage.proofs.texts.put_case.Goals as goal

pub returns : goal.returns
returns g c =
    let m = c.args.machine.now in
    let s = m.base.spec in
    let k = c.args.number in
    let x = c.send_case-case.result.now in
    let t = beside (SendCaseIs m.base.phrases s) (send_cases s) m.send_cases k x c.law.ensures.cases_are c.send_case-case.ensures in
    let at : slice_get (sends c.args.texts.now) c.send.result ≡ Some t.0.send =
    ap (λ (u : Spec). slice_get (sends u) c.send.result) c.requires.texts ∙ ap (slice_get (sends s)) c.send.ensures ∙ t.2.send in
    let name = alike (ap (λ (o : Option Instance). option_map_or instance_text o []) at) c.put_send.ensures in
    let label = alike (ap case_label (c.ordinal.ensures ∙ t.2.ordinal)) c.put_case_label.ensures in
    let count = alike (ap (λ (n : ℕ). decimal n) c.count.ensures) c.put_number.ensures in
    let columns = alike (ap (λ (ns : List ℕ). column_lines ns) c.columns.ensures) c.put_columns.ensures in (
      t.0,
      t.1,
      followed (followed (followed c.put.ensures (followed count (followed c.put-2.ensures (followed name (followed c.put-3.ensures label))))) c.put_line_end.ensures) columns,
    )
