use Rattle.std.proofs.Common.{subst, IfOk}
use Rattle.std.proofs.lemmas.Result.{IfOk-weaker}
use Rattle.settled_worlds.specs.Settled.{IsSameLawfully}
use Rattle.guard_encode.specs.Encoding.{Encoding, worlds_of}
use Rattle.guard_encode.proofs.StepLemmas.{own_exact, settled_stay}
use Rattle.guard_encode.proofs.CellLemmas.{own_same}
use Rattle.guard_encode.proofs.encoder.Encoder.exactly.Goals as goal

pub with_exact-requires-clause-room : goal.with_exact-requires-clause-room
with_exact-requires-clause-room c = c.self.invariant.stored.same_levels

pub with_exact-requires-clause-exact : goal.with_exact-requires-clause-exact
with_exact-requires-clause-exact c = own_exact _ _ _ _ c.self.invariant

pub invariant_of-self : goal.invariant_of-self
invariant_of-self c = settled_stay _ _ _ c.with_exact.new.arena _ c.with_exact.new.exact c.with_exact.ensures.keeps c.with_exact.ensures.exact c.self.invariant

pub returns-clause-answer : goal.returns-clause-answer
returns-clause-answer c =
    subst (λ (e : Encoding). IfOk c.with_exact.result (IsSameLawfully e.diagram c.with_exact.new.arena (worlds_of e) c.args.f)) c.self.view_is
    (IfOk-weaker c.with_exact.result (IsSameLawfully c.self.inside.arena c.with_exact.new.arena c.self.inside.levels c.args.f) _
    (λ r h. own_same c.self.inside.machine.now c.self.inside.levels c.self.inside.arena c.with_exact.new.arena c.args.f r c.self.invariant.same h)
    c.with_exact.ensures.answer)
