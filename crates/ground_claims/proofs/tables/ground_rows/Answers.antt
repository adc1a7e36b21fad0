use Rattle.ground_claims.specs.StandsFor.{RowIs}
use Rattle.phrase_builder.proofs.Lists.{zip_turn}
use Rattle.ground_claims.proofs.tables.ground_rows.Goals as goal

pub loop-row-preserved : goal.loop-row-preserved
loop-row-preserved c =
    zip_turn (RowIs c.args.lookup.now) (RowIs c.args.lookup.now) (λ x y e. e) c.args.rows.now c.loop-row.row-index c.row-item.result c.in_ok-row.row c.loop-row.found c.push.new.self
    c.in_ok-push.ensures.ok c.loop-row-test.true c.row-item.is c.loop-row.invariant c.in_ok-row.ensures
