use Rattle.std.proofs.Common.{sym, subst, arith}
use Rattle.std.proofs.lemmas.List.{take_all}
use Rattle.bdd_core.specs.Diagram.{IsRef}
use Rattle.guard_encode.proofs.StepLemmas.{keeps_on}
use Rattle.invariants.specs.Told.{TellsOf}
use Rattle.invariants.proofs.ToldLemmas.{no_calls, ref_on, zip_long}
use Rattle.invariants.proofs.TurningLemmas.{and_all, and_more, and_none}
use Rattle.invariants.proofs.asking.and_all.Goals as goal

pub loop-other-init : goal.loop-other-init
loop-other-init c = record { keeps = no_calls c.args.encoder.now; is_ref = c.requires.one; told = and_none c.args.encoder.now c.args.one c.args.others.now }

pub and-requires-clause-g_ref : goal.and-requires-clause-g_ref
and-requires-clause-g_ref c =
    ref_on c.args.encoder.now c.loop-other.encoder c.other-item.result c.loop-other.invariant.keeps
    (subst (IsRef c.args.encoder.now.diagram) (sym c.other-item.is) (c.requires.others c.loop-other.other-index c.other-item.result c.loop-other-test.true))

pub loop-other-preserved : goal.loop-other-preserved
loop-other-preserved c = record {
  keeps = keeps_on c.args.encoder.now c.loop-other.encoder c.and.new.self c.loop-other.invariant.keeps c.in_ok-all.ensures.keeps;
  is_ref = c.in_ok-all.ensures.is_ref;
  told = and_more c.args.encoder.now c.loop-other.encoder c.and.new.self c.args.one c.args.others.now c.loop-other.other-index c.loop-other.all c.other-item.result c.other-item.result c.in_ok-all.all
      c.loop-other-test.true c.other-item.is c.loop-other.invariant.keeps c.in_ok-all.ensures.answer c.loop-other.invariant.told;
}

pub returns-clause-answer : goal.returns-clause-answer
returns-clause-answer c =
    and_all c.args.encoder.now c.loop-other.encoder c.args.one c.args.others.now c.loop-other.other-index c.loop-other.all
    (λ s truths all. take_all c.loop-other.other-index truths (let many = zip_long (TellsOf s c.args.encoder.now) truths c.args.others.now all in let past = c.loop-other-test.false in omega (arith, many, past)))
    c.loop-other.invariant.told
