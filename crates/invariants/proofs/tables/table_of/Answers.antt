use Rattle.std.proofs.Common.{Bool, false, map, ◌∙◌, arith}
use Rattle.rsml_syntax.specs.declared.world.World.{World}
use Rattle.rsml_syntax.specs.rules.Tables.{column}
use Rattle.ground_claims.specs.Truths.{phrase_truth, row_truth}
use Rattle.guard_encode.proofs.StepLemmas.{keeps_on}
use Rattle.invariants.proofs.TableLemmas.{all_columns, column_more, some_column}
use Rattle.invariants.proofs.ToldLemmas.{all_on, no_calls, of_tells, ref_on, refs_on, tells_on, tells_or}
use Rattle.invariants.proofs.tables.table_of.Goals as goal

pub loop-place-init : goal.loop-place-init
loop-place-init c = record {
  keeps = no_calls c.args.encoder.now;
  is_ref = c.constant-some.ensures.is_ref;
  told = λ s active rows. of_tells s c.args.encoder.now (λ w. false) c.constant-some.result c.constant-some.ensures;
}

pub column_of-requires-clause-phrases : goal.column_of-requires-clause-phrases
column_of-requires-clause-phrases c = refs_on c.args.encoder.now c.loop-place.encoder c.args.phrases.now c.loop-place.invariant.keeps c.requires.phrases

pub or-requires-clause-f_ref : goal.or-requires-clause-f_ref
or-requires-clause-f_ref c = ref_on c.loop-place.encoder c.column_of.new.encoder c.loop-place.some c.in_ok-here.ensures.keeps c.loop-place.invariant.is_ref

pub loop-place-preserved : goal.loop-place-preserved
loop-place-preserved c =
    let first = c.args.encoder.now in
    let old = c.loop-place.encoder in
    let seen = c.column_of.new.encoder in
    let new = c.or.new.self in
    let n = c.loop-place.place in
    record {
      keeps = keeps_on first old new c.loop-place.invariant.keeps (keeps_on old seen new c.in_ok-here.ensures.keeps c.in_ok-some.ensures.keeps);
      is_ref = c.in_ok-some.ensures.is_ref;
      told = λ s active rows.
          let here : World → Bool = λ w. column (map (row_truth (active w)) c.args.rows.now) n in
          column_more s new active c.args.rows.now n c.in_ok-some.some
          (tells_or s seen new (some_column active c.args.rows.now n) here c.loop-place.some c.in_ok-here.here c.in_ok-some.some c.in_ok-some.ensures.answer
          (tells_on s old seen (some_column active c.args.rows.now n) c.loop-place.some c.in_ok-here.ensures.keeps (c.loop-place.invariant.told s active rows))
          (c.in_ok-here.ensures.answer s active (all_on s first old (λ x w. phrase_truth (active w) x.phrase) c.args.rows.now c.args.phrases.now c.loop-place.invariant.keeps rows)));
    }

pub returns-clause-answer : goal.returns-clause-answer
returns-clause-answer c = λ s active rows.
    all_columns s c.loop-place.encoder active c.args.rows.now c.loop-place.place c.loop-place.some
    (λ one. (let past = c.loop-place-test.false in let within = c.loop-place.auto.place-end in omega (arith, past, within)) ∙ c.columns-place-end.ensures one) (c.loop-place.invariant.told s active rows)
