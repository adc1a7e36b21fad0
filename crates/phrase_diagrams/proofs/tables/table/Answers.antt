use Rattle.std.proofs.Common.{◌≡◌, arith}
use Rattle.bdd_core.proofs.StepLemmas.{keeps_trans}
use Rattle.and_or_tables.specs.Shape.{cells_of, columns}
use Rattle.phrase_diagrams.proofs.ColumnLemmas.{column_more, columns_end}
use Rattle.phrase_diagrams.proofs.tables.table.Goals as goal

pub loop-place-preserved : goal.loop-place-preserved
loop-place-preserved c = record {
  keeps = keeps_trans c.args.arena.now c.column_of.new.arena c.or.new.self
      (keeps_trans c.args.arena.now c.loop-place.arena c.column_of.new.arena c.loop-place.invariant.keeps c.column_of.ensures.keeps)
      c.or.ensures.keeps;
  so_far = column_more c.args.arena.now c.loop-place.arena c.column_of.new.arena c.or.new.self c.args.diagrams.now c.as_slice-rows.result.now
      c.loop-place.place c.loop-place.out c.in_ok-here.here c.in_ok-out.out c.requires.diagrams
      c.loop-place.invariant.keeps c.column_of.ensures.keeps c.loop-place.invariant.so_far c.in_ok-here.ensures.answer c.in_ok-out.ensures.answer;
}

pub returns-clause-answer : goal.returns-clause-answer
returns-clause-answer c =
    let end : columns (cells_of c.args.table.now) ≡ c.loop-place.place = omega (arith, c.column_count-place-end.ensures) in
    columns_end c.args.arena.now c.loop-place.arena c.args.diagrams.now c.args.table.now c.as_slice-rows.result.now c.loop-place.place c.loop-place.out
    c.as_slice-rows.ensures end c.loop-place.invariant.so_far
