use Rattle.std.proofs.Common.{◌<◌, ◌≤◌, List, ℤ, pos, length, get_or, flat_map, ap, arith, rules, w64, FitsSigned}
use Rattle.std.proofs.lemmas.Int.{to_z-of_z}
use Rattle.std.proofs.lemmas.Option.{slice_get-get_or}
use Rattle.rsml_meaning.specs.Cells.{InputCell, cells}
use Rattle.rsml_meaning.specs.Report.{cell_line}
use Rattle.state_tree.proofs.Lists.{within_get}
use Rattle.text_writer.proofs.WritingLemmas.{alike}
use Rattle.finding_texts.proofs.CellCounts.{few_cells}
use Rattle.finding_texts.proofs.Pairs.{pair_more, all_pairs}
use Rattle.finding_texts.proofs.cells.put_cells.Goals as goal

pub overflow_cast-cell : goal.overflow_cast-cell
overflow_cast-cell g c = omega (arith, few_cells c.args.machine.now.base.spec c.law.ensures.grounded.checked)

pub loop-cell-preserved : goal.loop-cell-preserved
loop-cell-preserved g c =
    let s = c.args.machine.now.base.spec in
    let ns = c.args.numbers.now in
    let k = c.loop-cell.cell in
    let l : k < length (cells s) = omega arith in
    let d = within_get (cells s) k l in
    let n = get_or ns k (pos 0) in
    let small : FitsSigned w64 n = search rules in
    pair_more cell_line (cells s) ns k d.0 n d.1 (slice_get-get_or ns k (pos 0) c.loop-cell-test.true) c.loop-cell.invariant
    (alike (ap (λ (z : ℤ). cell_line (d.0, z)) (to_z-of_z w64 n small)) (c.put_cell.ensures d.0 d.1))

pub returns : goal.returns
returns g c =
    let s = c.args.machine.now.base.spec in
    let all : length (cells s) ≤ c.loop-cell.cell = omega arith in
    alike (ap (λ (zs : List (InputCell × ℤ)). flat_map cell_line zs) (all_pairs c.loop-cell.cell (cells s) c.args.numbers.now all)) c.loop-cell.invariant
