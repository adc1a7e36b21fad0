use Rattle.std.proofs.Common.{length}
use Rattle.rsml_meaning.specs.Cells.{cells}
use Rattle.rsml_meaning.specs.Truth.{within}
use Rattle.rsml_ground.specs.StandsFor.{RowIs}
use Rattle.phrase_builder.proofs.Growing.{grew_both}
use Rattle.phrase_builder.proofs.Lists.{zip_turn}
use Rattle.phrase_builder.proofs.Standing.{row_stays}
use Rattle.phrase_builder.proofs.tables.ground_rows.Goals as goal

pub loop-row-preserved : goal.loop-row-preserved
loop-row-preserved c =
    let s = c.args.site.now.lookup.now in
    let r = within c.args.site.now.this in
    let old = c.loop-row.phrases in
    let new = c.ground_row.new.phrases in
    record {
      grew = grew_both (length (cells s)) c.args.site.now.definitions.now c.args.phrases.now old new c.loop-row.invariant.grew c.ground_row.ensures.grew;
      are = zip_turn (RowIs old s r) (RowIs new s r) (λ x y. row_stays old new s r x y c.ground_row.ensures.grew.keeps) c.args.rows.now c.loop-row.row-index c.row-item.result c.in_ok-row.row c.loop-row.found c.push.new.self
          c.in_ok-push.ensures.ok c.loop-row-test.true c.row-item.is c.loop-row.invariant.are c.in_ok-row.ensures.is;
    }
