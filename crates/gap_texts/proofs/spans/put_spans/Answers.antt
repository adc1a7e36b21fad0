use Rattle.std.proofs.Common.{◌<◌, ◌≤◌, List, pos, length, get_or, flat_map, ap, arith}
use Rattle.std.proofs.lemmas.Option.{slice_get-get_or}
use Rattle.rsml_meaning.specs.Cells.{InputCell, cells}
use Rattle.state_tree.proofs.Lists.{within_get}
use Rattle.text_writer.proofs.WritingLemmas.{alike}
use Rattle.finding_texts.proofs.CellCounts.{few_cells}
use Rattle.finding_texts.proofs.Pairs.{pair_more, all_pairs}
use Rattle.world_columns.specs.declared.column.Span.{Span}
use Rattle.gap_texts.specs.GapText.{span_rows}
use Rattle.gap_texts.proofs.spans.put_spans.Goals as goal

pub overflow_cast-cell : goal.overflow_cast-cell
overflow_cast-cell g c = omega (arith, few_cells c.args.machine.now.base.spec c.law.ensures.grounded.checked)

pub loop-cell-preserved : goal.loop-cell-preserved
loop-cell-preserved g c =
    let s = c.args.machine.now.base.spec in
    let xs = c.args.spans.now in
    let k = c.loop-cell.cell in
    let nothing : Span = record { low = pos 0; high = pos 0 } in
    let x = get_or xs k nothing in
    let test = c.loop-cell-test.true in
    let within : k < length (cells s) = omega arith in
    let d = within_get (cells s) k within in
    pair_more span_rows (cells s) xs k d.0 x d.1 (slice_get-get_or xs k nothing test) c.loop-cell.invariant (c.put_span.ensures d.0 d.1)

pub returns : goal.returns
returns g c =
    let s = c.args.machine.now.base.spec in
    let all : length (cells s) ≤ c.loop-cell.cell = omega arith in
    alike (ap (λ (zs : List (InputCell × Span)). flat_map span_rows zs) (all_pairs c.loop-cell.cell (cells s) c.args.spans.now all)) c.loop-cell.invariant
