use Rattle.std.proofs.Common.{Bool, take, subst}
use Rattle.std.proofs.lemmas.List.{take_all}
use Rattle.rsml_syntax.specs.declared.world.World.{World}
use Rattle.ground_claims.specs.declared.claim.ClaimRow.{ClaimRow}
use Rattle.ground_claims.specs.Truths.{phrase_truth}
use Rattle.guard_encode.proofs.StepLemmas.{keeps_on}
use Rattle.invariants.specs.Told.{TellsOf, TellRows, active_after}
use Rattle.invariants.proofs.ToldLemmas.{all_on, zip_more}
use Rattle.invariants.proofs.claimed.rows_after.Goals as goal

pub loop-row-preserved : goal.loop-row-preserved
loop-row-preserved c =
    let m = c.args.machine.now in
    let s = m.base.spec in
    let old = c.loop-row.encoder in
    let new = c.phrase_after.new.encoder in
    let truth : ClaimRow → World → Bool = λ x w. phrase_truth (active_after m c.args.moves.now w) x.phrase in
    record {
      keeps = keeps_on c.args.encoder.now old new c.loop-row.invariant.keeps c.in_ok-phrase.ensures.keeps;
      told = zip_more (λ x r. TellsOf s new (truth x) r) c.args.rows.now c.loop-row.row-index c.row-item.result c.loop-row.found.items c.push.new.self.items c.in_ok-phrase.phrase
          c.loop-row-test.true c.row-item.is c.in_ok-push.ensures.items (all_on s old new truth (take c.loop-row.row-index c.args.rows.now) c.loop-row.found.items c.in_ok-phrase.ensures.keeps c.loop-row.invariant.told)
          c.in_ok-phrase.ensures.answer;
    }

pub returns-clause-answer : goal.returns-clause-answer
returns-clause-answer c =
    let m = c.args.machine.now in
    subst (λ xs. TellRows m.base.spec c.loop-row.encoder (active_after m c.args.moves.now) xs c.loop-row.found.items)
    (take_all c.loop-row.row-index c.args.rows.now c.loop-row-test.false) c.loop-row.invariant.told
