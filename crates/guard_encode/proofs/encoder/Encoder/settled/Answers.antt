use Rattle.std.proofs.Common.{◌∙◌, subst, IfOk}
use Rattle.std.proofs.lemmas.Result.{IfOk-weaker}
use Rattle.bdd_core.proofs.StepLemmas.{keeps_trans}
use Rattle.keyed_levels.specs.Keyed.{AreKeyed}
use Rattle.settled_worlds.specs.Settled.{IsSettled}
use Rattle.settled_worlds.proofs.ExactLemmas.{exact_on}
use Rattle.guard_encode.specs.Encoding.{Encoding, worlds_of}
use Rattle.guard_encode.proofs.DecidedLemmas.{same_settled}
use Rattle.guard_encode.proofs.StepLemmas.{encoded_stay, own_exact, own_settled, settled_stay}
use Rattle.guard_encode.proofs.encoder.Encoder.settled.Goals as goal

pub without_conflicts-requires-clause-room : goal.without_conflicts-requires-clause-room
without_conflicts-requires-clause-room c = c.self.invariant.stored.same_levels

pub settle-requires-clause-room : goal.settle-requires-clause-room
settle-requires-clause-room c = c.without_conflicts.ensures.keeps.same_levels ∙ c.self.invariant.stored.same_levels

pub settle-requires-clause-exact : goal.settle-requires-clause-exact
settle-requires-clause-exact c = exact_on _ _ _ _ c.without_conflicts.ensures.keeps (own_exact _ _ _ _ c.self.invariant)

pub invariant_of-self : goal.invariant_of-self
invariant_of-self c = encoded_stay _ _ _ c.without_conflicts.new.arena _ c.without_conflicts.ensures.keeps c.self.invariant

pub invariant_of-self-2 : goal.invariant_of-self-2
invariant_of-self-2 c =
    settled_stay _ _ _ c.settle.new.arena _ c.settle.new.exact
    (keeps_trans _ c.without_conflicts.new.arena c.settle.new.arena c.without_conflicts.ensures.keeps c.settle.ensures.keeps) c.settle.ensures.exact c.self.invariant

pub returns-clause-keyed : goal.returns-clause-keyed
returns-clause-keyed c = subst (λ (e : Encoding). AreKeyed (worlds_of e)) c.self.view_is c.self.invariant.stored.levels

pub returns-clause-answer : goal.returns-clause-answer
returns-clause-answer c =
    subst (λ (e : Encoding). IfOk c.settle.result (IsSettled e.diagram c.settle.new.arena (worlds_of e) c.args.f)) c.self.view_is
    (IfOk-weaker c.settle.result (IsSettled c.without_conflicts.new.arena c.settle.new.arena c.self.inside.levels c.in_ok-rest.rest) _
    (λ r h. own_settled _ _ _ c.settle.new.arena _ c.args.f r c.self.invariant
    (same_settled c.self.inside.arena c.without_conflicts.new.arena c.settle.new.arena c.self.inside.levels c.args.f c.in_ok-rest.rest r c.in_ok-rest.ensures.answer h))
    c.settle.ensures.answer)
