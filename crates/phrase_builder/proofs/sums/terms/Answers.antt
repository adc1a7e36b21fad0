use Rattle.std.proofs.Common.{refl}
use Rattle.rsml_ground.specs.StandsFor.{TermIs}
use Rattle.phrase_builder.proofs.Lists.{zip_turn}
use Rattle.phrase_builder.proofs.sums.terms.Goals as goal

pub loop-term-preserved : goal.loop-term-preserved
loop-term-preserved c =
    let is = TermIs c.args.lookup.now c.args.here.now in
    zip_turn is is (λ x y h. h) c.args.terms.now c.loop-term.term-index c.term-item.result _ c.loop-term.found c.push.new.self
    c.in_ok-push.ensures.ok c.loop-term-test.true c.term-item.is c.loop-term.invariant (record { minus = refl; operand = c.operand-operand.ensures })
