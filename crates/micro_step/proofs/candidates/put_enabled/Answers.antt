use Rattle.std.proofs.Common.{◌==◌, ◌||◌, ◌&&◌, Bool, List, take, refl, sym, ap, ◌∙◌, subst}
use Rattle.std.specs.List.{list_any}
use Rattle.std.proofs.lemmas.List.{take_all}
use Rattle.std.proofs.lemmas.List.Folds.{list_any_more}
use Rattle.micro_step.specs.declared.candidates.Candidate.{Candidate}
use Rattle.micro_step.specs.Candidates.{Fits, is_met}
use Rattle.micro_step.specs.Rising.{among}
use Rattle.micro_step.proofs.RisingLemmas.{no_more, or_group}
use Rattle.micro_step.proofs.candidates.put_enabled.Goals as goal

pub loop-candidate-init : goal.loop-candidate-init
loop-candidate-init c = record {
  bound = refl;
  rising = c.requires.rising;
  knows = c.requires.knows;
  guards = c.requires.guards;
  so_far = λ q. sym (no_more (among c.args.found.now.items q));
}

pub put_one-requires-clause-fits : goal.put_one-requires-clause-fits
put_one-requires-clause-fits c =
    subst (Fits c.args.machine.now) (sym c.candidate-item.is) (c.requires.fits c.loop-candidate.candidate-index c.candidate-item.result c.loop-candidate-test.true)

pub loop-candidate-preserved : goal.loop-candidate-preserved
loop-candidate-preserved c =
    let m = c.args.machine.now in
    let w = c.args.world.now in
    let x = c.candidate-item.result in
    let i = c.loop-candidate.candidate-index in
    record {
      bound = c.put_one.ensures.bound ∙ c.loop-candidate.invariant.bound;
      rising = c.put_one.ensures.rising;
      knows = c.put_one.ensures.knows;
      guards = c.put_one.ensures.guards;
      so_far = λ q.
          let p = λ (y : Candidate). y.number == q && is_met m w y in
          c.put_one.ensures.among q
          ∙ ap (λ (b : Bool). b || p x) (c.loop-candidate.invariant.so_far q)
          ∙ sym (or_group (among c.args.found.now.items q) (list_any p (take i c.args.candidates.now)) (p x))
          ∙ ap (λ (y : Candidate). among c.args.found.now.items q || (list_any p (take i c.args.candidates.now) || p y)) c.candidate-item.is
          ∙ ap (λ (b : Bool). among c.args.found.now.items q || b) (sym (list_any_more p c.args.candidates.now i x c.loop-candidate-test.true));
    }

pub returns-clause-among : goal.returns-clause-among
returns-clause-among c = λ q.
    let m = c.args.machine.now in
    let w = c.args.world.now in
    c.loop-candidate.invariant.so_far q
    ∙ ap (λ (cs : List Candidate). among c.args.found.now.items q || list_any (λ y. y.number == q && is_met m w y) cs) (take_all c.loop-candidate.candidate-index c.args.candidates.now c.loop-candidate-test.false)
