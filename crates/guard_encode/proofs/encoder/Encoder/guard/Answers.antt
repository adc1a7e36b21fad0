use Rattle.std.proofs.lemmas.Result.{IfOk-weaker}
use Rattle.rsml_ground.specs.Truths.{guard_truth}
use Rattle.bdd_core.specs.Calls.{Represents}
use Rattle.phrase_diagrams.specs.Diagrams.{truths_at}
use Rattle.guard_encode.proofs.StepLemmas.{encoded_stay, guard_tells}
use Rattle.guard_encode.proofs.encoder.Encoder.guard.Goals as goal

pub invariant_of-self : goal.invariant_of-self
invariant_of-self c =
    encoded_stay _ _ _ c.guard.new.arena _ c.guard.ensures.keeps c.self.invariant

pub returns-clause-answer : goal.returns-clause-answer
returns-clause-answer c =
    let old = c.self.inside.arena in
    IfOk-weaker c.guard.result (Represents c.guard.new.arena (λ v. guard_truth (truths_at old c.as_slice.result.now v) c.args.guard.now)) _
    (λ r h. guard_tells c.self.inside.machine.now c.self.inside.levels old c.guard.new.arena _ c.as_slice.result.now c.args.guard.now r
    c.self.invariant c.as_slice.ensures.value h)
    c.guard.ensures.answer
