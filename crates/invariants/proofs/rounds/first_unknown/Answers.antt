use Rattle.std.proofs.Common.{sym, subst}
use Rattle.event_graph.specs.Sets.{has}
use Rattle.invariants.specs.Safe.{AreKnown, FindsFirst, IsIn, IsOfKnown}
use Rattle.invariants.proofs.RoundLemmas.{known_more, known_safe}
use Rattle.invariants.proofs.rounds.first_unknown.Goals as goal

pub returns-then-is_known-clause-answer : goal.returns-then-is_known-clause-answer
returns-then-is_known-clause-answer c =
    known_safe c.args.machine.now c.args.claims.now c.args.known.now.items (has c.args.events.now) c.requires.known
    (subst (λ sets. IsOfKnown sets (has c.args.events.now)) c.as_slice.ensures.value (c.is_known.ensures c.if-is_known.true))

pub returns-in_ok-push-in-None-clause-known : goal.returns-in_ok-push-in-None-clause-known
returns-in_ok-push-in-None-clause-known c =
    known_more c.args.machine.now c.args.claims.now c.args.known.now.items c.push.new.self.items c.args.events.now c.in_ok-push-in-None.ensures.items c.requires.known
    (subst (FindsFirst c.args.machine.now c.args.claims.now (IsIn (has c.args.events.now))) c.in-None.is c.in_ok-found.ensures.answer)

pub returns-in_err-push-in-None-clause-known : goal.returns-in_err-push-in-None-clause-known
returns-in_err-push-in-None-clause-known c = subst (AreKnown c.args.machine.now c.args.claims.now) (sym c.in_err-push-in-None.ensures.items) c.requires.known
