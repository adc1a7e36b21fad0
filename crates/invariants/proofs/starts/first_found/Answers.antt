use Rattle.std.proofs.Common.{◌<◌, [], Option, sym, ◌∙◌, subst, arith}
use Rattle.std.specs.Prelude.{MatchOption}
use Rattle.rsml_meaning.specs.Instances.{events}
use Rattle.state_tree.proofs.Lists.{get_within}
use Rattle.invariants.specs.declared.found.Found.{Found}
use Rattle.invariants.specs.Safe.{IsFirstAfter, IsSafeStart}
use Rattle.invariants.specs.Told.{true_after}
use Rattle.invariants.proofs.RoundLemmas.{start_more}
use Rattle.invariants.proofs.ToldLemmas.{all_on}
use Rattle.invariants.proofs.starts.first_found.Goals as goal

pub returns-in-Some : goal.returns-in-Some
returns-in-Some c =
    let m = c.args.machine.now in
    let claims = c.args.claims.now in
    let n = c.loop-start.start in
    let f = c.in-Some.found in
    let h : IsFirstAfter m claims n f = subst (λ (o : Option Found). MatchOption o (IsSafeStart m claims n) (IsFirstAfter m claims n)) c.in-Some.is c.in_ok-found.ensures.answer in
    record {
      here = subst (λ k. IsFirstAfter m claims k f) (sym h.same) h;
      first = λ k l. c.loop-start.invariant.safe k (subst (λ j. k < j) h.same l);
    }

pub loop-start-preserved : goal.loop-start-preserved
loop-start-preserved c =
    let m = c.args.machine.now in
    let claims = c.args.claims.now in
    let n = c.loop-start.start in
    record {
      machine = c.in_ok-found.ensures.keeps.machine ∙ c.loop-start.invariant.machine;
      before = all_on m.base.spec c.loop-start.encoder c.first_after.new.encoder (true_after m []) claims c.in_ok-before.before.items c.in_ok-found.ensures.keeps c.loop-start.invariant.before;
      known = c.in_ok-found.ensures.known;
      safe = start_more m claims n c.loop-start.invariant.safe (subst (λ (o : Option Found). MatchOption o (IsSafeStart m claims n) (IsFirstAfter m claims n)) c.in-None.is c.in_ok-found.ensures.answer);
    }

pub returns : goal.returns
returns c = λ k x at.
    let l = get_within (events c.args.machine.now.base.spec) k x at in
    let past = c.loop-start-test.false in
    c.loop-start.invariant.safe k (omega (arith, l, past, c.events-start-end.ensures.count)) x at
