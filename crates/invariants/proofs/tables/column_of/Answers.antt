use Rattle.std.proofs.Common.{Bool, true, sym, subst, arith}
use Rattle.rsml_syntax.specs.declared.world.World.{World}
use Rattle.bdd_core.specs.Diagram.{IsRef}
use Rattle.guard_encode.proofs.StepLemmas.{keeps_on}
use Rattle.ground_claims.specs.Truths.{phrase_truth}
use Rattle.invariants.specs.Told.{TellsOf}
use Rattle.invariants.proofs.TableLemmas.{front_column, row_more}
use Rattle.invariants.proofs.ToldLemmas.{no_calls, of_tells, ref_on, tells_on, zip_index}
use Rattle.invariants.proofs.tables.column_of.Goals as goal

pub loop-at-init : goal.loop-at-init
loop-at-init c = record {
  keeps = no_calls c.args.encoder.now;
  is_ref = c.constant-all.ensures.is_ref;
  told = λ s active rows. of_tells s c.args.encoder.now (λ w. true) c.constant-all.result c.constant-all.ensures;
}

pub with_row-requires-clause-phrase : goal.with_row-requires-clause-phrase
with_row-requires-clause-phrase c =
    ref_on c.args.encoder.now c.loop-at.encoder c.index-phrases-at.result c.loop-at.invariant.keeps
    (subst (IsRef c.args.encoder.now.diagram) (sym c.index-phrases-at.is) (c.requires.phrases c.loop-at.at c.index-phrases-at.result (let less = c.loop-at-test.true in omega (arith, less, c.requires.many))))

pub loop-at-preserved : goal.loop-at-preserved
loop-at-preserved c =
    let first = c.args.encoder.now in
    let old = c.loop-at.encoder in
    let new = c.with_row.new.encoder in
    let row = c.index-rows-at.result in
    let r = c.in_ok-all.all in
    record {
      keeps = keeps_on first old new c.loop-at.invariant.keeps c.in_ok-all.ensures.keeps;
      is_ref = c.in_ok-all.ensures.is_ref;
      told = λ s active rows.
          let phrase : World → Bool = λ w. phrase_truth (active w) row.phrase in
          row_more s new active c.args.rows.now c.args.place c.loop-at.at row c.cell_at.result r c.loop-at-test.true c.index-rows-at.is c.cell_at.ensures
          (c.in_ok-all.ensures.answer s (front_column active c.args.rows.now c.args.place c.loop-at.at) phrase (c.loop-at.invariant.told s active rows)
          (tells_on s first old phrase c.index-phrases-at.result c.loop-at.invariant.keeps
          (zip_index (λ x k. TellsOf s first (λ w. phrase_truth (active w) x.phrase) k) c.args.rows.now c.args.phrases.now c.loop-at.at row c.index-phrases-at.result c.index-phrases-at.result rows c.loop-at-test.true c.index-rows-at.is c.index-phrases-at.is)));
    }
