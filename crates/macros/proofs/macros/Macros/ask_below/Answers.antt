use Rattle.std.proofs.Common.{arith}
use Rattle.macros.proofs.Learning.{kept_on, known_more}
use Rattle.macros.proofs.macros.Macros.ask_below.Goals as goal

pub loop-number-preserved : goal.loop-number-preserved
loop-number-preserved c = record {
  knows = c.ask_next.ensures.knows;
  kept = kept_on c.args.memo.now c.loop-number.memo c.ask_next.new.memo c.loop-number.invariant.kept c.ask_next.ensures.kept;
  learned = known_more c.loop-number.memo c.ask_next.new.memo c.loop-number.number c.ask_next.ensures.kept c.ask_next.ensures.learned c.loop-number.invariant.learned;
}

pub returns-clause-learned : goal.returns-clause-learned
returns-clause-learned c = λ k less. c.loop-number.invariant.learned k (omega (arith, less, c.loop-number-test.false))
