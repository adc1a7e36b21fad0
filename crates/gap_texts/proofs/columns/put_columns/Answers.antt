use Rattle.std.proofs.Common.{◌≡◌, ℕ, ◌+◌, List, flat_map, ap, arith}
use Rattle.std.proofs.lemmas.List.{take_all}
use Rattle.rsml_meaning.specs.Words.{numbered}
use Rattle.state_tree.proofs.Lists.{get_item}
use Rattle.text_writer.proofs.WritingLemmas.{alike}
use Rattle.finding_texts.proofs.Pairs.{item_more}
use Rattle.world_columns.specs.declared.column.Column.{Column}
use Rattle.gap_texts.specs.GapText.{column_text}
use Rattle.gap_texts.proofs.RowLemmas.{numbered_long, numbered_there}
use Rattle.gap_texts.proofs.columns.put_columns.Goals as goal

pub put_column-requires-clause-column : goal.put_column-requires-clause-column
put_column-requires-clause-column g c =
    let x = c.index-columns-place.result in
    c.requires.columns c.loop-place.place x (get_item c.args.columns.now c.loop-place.place x c.loop-place-test.true c.index-columns-place.is)

pub loop-place-preserved : goal.loop-place-preserved
loop-place-preserved g c =
    let s = c.args.machine.now.base.spec in
    let cs = c.args.columns.now in
    let k = c.loop-place.place in
    let x = c.index-columns-place.result in
    let there = get_item cs k x c.loop-place-test.true c.index-columns-place.is in
    let number : k + 1 ≡ 1 + k = omega arith in
    item_more (column_text s) (numbered cs) k (1 + k, x) (numbered_there 1 k cs x there) c.loop-place.invariant
    (alike (ap (λ (n : ℕ). column_text s (n, x)) number) c.put_column.ensures)

pub returns : goal.returns
returns g c =
    let cs = c.args.columns.now in
    let long = numbered_long 1 cs in
    let test = c.loop-place-test.false in
    alike (ap (λ (xs : List (ℕ × Column)). flat_map (column_text c.args.machine.now.base.spec) xs) (take_all c.loop-place.place (numbered cs) (omega (arith, long, test))))
    c.loop-place.invariant
