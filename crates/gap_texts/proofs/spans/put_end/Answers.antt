use Rattle.std.proofs.Common.{[], ap, ◌∙◌, rules, w64, FitsSigned}
use Rattle.std.proofs.lemmas.Int.{to_z-of_z}
use Rattle.text_writer.proofs.WritingLemmas.{alike, still}
use Rattle.gap_texts.specs.GapText.{cell_row}
use Rattle.gap_texts.proofs.RowLemmas.{like, unlike}
use Rattle.gap_texts.proofs.spans.put_end.Goals as goal

pub returns-then-number-end : goal.returns-then-number-end
returns-then-number-end g c = λ d at.
    let small : FitsSigned w64 c.args.number = search rules in
    let row = cell_row d c.args.relation.now in
    alike (ap row (to_z-of_z w64 c.args.number small) ∙ unlike c.args.number c.args.end [] (row c.args.number) c.if-number-end.true)
    (c.put_row.ensures d at)

pub returns-else-number-end : goal.returns-else-number-end
returns-else-number-end g c = λ d at.
    let small : FitsSigned w64 c.args.number = search rules in
    let fits : FitsSigned w64 c.args.end = search rules in
    alike (like c.args.number c.args.end [] (cell_row d c.args.relation.now c.args.number) small fits c.if-number-end.false)
    (still (g.W.Writer.state c.args.writer.now) (g.W.Writer.text c.args.writer.now))
