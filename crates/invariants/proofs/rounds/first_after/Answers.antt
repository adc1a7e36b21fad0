use Rattle.std.proofs.Common.{◌<◌, ◌+◌, [], Some, None, IsTrue, length, refl, sym, ap, ◌∙◌, subst, true≢false, arith}
use Rattle.rsml_syntax.specs.declared.syntax.Spec.{Spec}
use Rattle.rsml_meaning.specs.Instances.{events}
use Rattle.rsml_meaning.specs.Chains.{is_external}
use Rattle.rsml_meaning.specs.Report.{IsLengthAnswer}
use Rattle.state_tree.proofs.Lists.{within_get}
use Rattle.ground_members.specs.Members.{IsEvent}
use Rattle.event_graph.specs.Sets.{has}
use Rattle.micro_step.specs.Micros.{AreEvents}
use Rattle.guard_encode.proofs.StepLemmas.{keeps_on}
use Rattle.invariants.specs.Safe.{AllSafe, FindsFirst, IsIn, MayBe}
use Rattle.invariants.specs.Told.{true_after}
use Rattle.invariants.proofs.RoundLemmas.{all_rounds, found_events, in_may, may_in, round_more, zero_safe}
use Rattle.invariants.proofs.SubsetLemmas.{finds_as}
use Rattle.invariants.proofs.ToldLemmas.{all_on, no_calls}
use Rattle.invariants.proofs.rounds.first_after.Goals as goal

pub returns-then-not-external-clause-answer : goal.returns-then-not-external-clause-answer
returns-then-not-external-clause-answer c = λ x at ext. absurd (true≢false (sym ext ∙ sym (c.external.ensures x at) ∙ c.if-not-external.true))

pub length-requires : goal.length-requires
length-requires c = subst (λ (s : Spec). c.args.start < length (events s)) (sym c.requires.chains) c.requires.start

pub first-requires : goal.first-requires
first-requires c = subst (λ (s : Spec). c.args.start < length (events s)) (sym (c.new-rounds.ensures ∙ c.requires.chains)) c.requires.start

pub loop-done-init : goal.loop-done-init
loop-done-init c =
    let s = c.args.machine.now.base.spec in
    let own = c.new-rounds.ensures ∙ c.requires.chains in
    record {
      keeps = no_calls c.args.encoder.now;
      known = c.requires.known;
      own = c.first.ensures.spec ∙ own;
      round = λ x at ext. c.first.ensures.round x (subst (λ (t : Spec). IsEvent t x c.args.start) (sym own) at) (subst (λ (t : Spec). IsTrue (is_external t x)) (sym own) ext);
      safe = λ x at ext n l. subst (λ k. AllSafe c.args.machine.now c.args.claims.now (MayBe s x k)) (omega (arith, l)) (zero_safe c.args.machine.now c.args.claims.now x);
    }

pub events_of-events-requires-clause-count : goal.events_of-events-requires-clause-count
events_of-events-requires-clause-count c = c.events-count.ensures.count ∙ ap (λ (s : Spec). length (events s)) (sym c.loop-done.invariant.own)

pub first_unknown-requires-clause-before : goal.first_unknown-requires-clause-before
first_unknown-requires-clause-before c =
    all_on c.args.machine.now.base.spec c.args.encoder.now c.loop-done.encoder (true_after c.args.machine.now []) c.args.claims.now c.args.before.now c.loop-done.invariant.keeps c.requires.before

pub first_unknown-requires-clause-events : goal.first_unknown-requires-clause-events
first_unknown-requires-clause-events c = subst (λ (s : Spec). AreEvents s c.events_of-events.result) c.loop-done.invariant.own c.events_of-events.ensures.events

pub returns-in-Some-clause-answer : goal.returns-in-Some-clause-answer
returns-in-Some-clause-answer c =
    let m = c.args.machine.now in
    let s = m.base.spec in
    let claims = c.args.claims.now in
    let inv = c.loop-done.invariant in
    let set = c.events_of-events.result in
    let n = c.loop-done.done + 1 in
    let r = c.loop-done.rounds in
    let x = within_get (events s) c.args.start c.requires.start in
    let ext : IsTrue (is_external s x.0) = sym (c.external.ensures x.0 x.1) ∙ c.if-not-external.false in
    let there : AreEvents s set = subst (λ (t : Spec). AreEvents t set) inv.own c.events_of-events.ensures.events in
    let h = subst (FindsFirst m claims (IsIn (has set))) c.in-Some.is c.in_ok-found.ensures.answer in
    let b = c.in-Some.broken in
    let round = inv.round x.0 x.1 ext in
    let to = in_may s x.0 n r set c.events-count.result inv.own round c.events-count.ensures.count c.events_of-events.ensures.has there in
    let from = may_in s x.0 n r set c.events-count.result inv.own round c.events-count.ensures.count c.events_of-events.ensures.has there in
    record {
      same = refl;
      start = x.0;
      is = x.1;
      external = ext;
      events = found_events m claims set b there h;
      round = record { broken = finds_as m claims (IsIn (has set)) (MayBe s x.0 n) (Some b) to from h; first = inv.safe x.0 x.1 ext };
    }

pub loop-done-preserved : goal.loop-done-preserved
loop-done-preserved c =
    let m = c.args.machine.now in
    let s = m.base.spec in
    let claims = c.args.claims.now in
    let inv = c.loop-done.invariant in
    let set = c.events_of-events.result in
    let n = c.loop-done.done + 1 in
    let r = c.loop-done.rounds in
    let there : AreEvents s set = subst (λ (t : Spec). AreEvents t set) inv.own c.events_of-events.ensures.events in
    record {
      keeps = keeps_on c.args.encoder.now c.loop-done.encoder c.first_unknown.new.encoder inv.keeps c.in_ok-found.ensures.keeps;
      known = c.in_ok-found.ensures.known;
      own = c.next.ensures.spec ∙ inv.own;
      round = λ x at ext. c.next.ensures.round x n (subst (λ (t : Spec). IsTrue (is_external t x)) (sym inv.own) ext) (omega arith) (inv.round x at ext);
      safe = λ x at ext.
          let round = inv.round x at ext in
          round_more m claims x n (inv.safe x at ext)
          (finds_as m claims (IsIn (has set)) (MayBe s x n) None
          (in_may s x n r set c.events-count.result inv.own round c.events-count.ensures.count c.events_of-events.ensures.has there)
          (may_in s x n r set c.events-count.result inv.own round c.events-count.ensures.count c.events_of-events.ensures.has there) (subst (FindsFirst m claims (IsIn (has set))) c.in-None.is c.in_ok-found.ensures.answer));
    }

pub returns-clause-answer : goal.returns-clause-answer
returns-clause-answer c = λ x at ext.
    let m = c.args.machine.now in
    let is = c.length.ensures x (subst (λ (t : Spec). IsEvent t x c.args.start) (sym c.requires.chains) at) (subst (λ (t : Spec). IsTrue (is_external t x)) (sym c.requires.chains) ext) in
    all_rounds m c.args.claims.now x c.length.result c.loop-done.done c.requires.certified (subst (λ (t : Spec). IsLengthAnswer t x c.length.result) c.requires.chains is)
    (let past = c.loop-done-test.false in omega (arith, past)) (c.loop-done.invariant.safe x at ext)
