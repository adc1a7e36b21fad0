use Rattle.std.proofs.Common.{◌==◌, slice_index_or}
use Rattle.std.proofs.lemmas.Result.{IfOk-weaker}
use Rattle.phrase_diagrams.specs.Tells as exact
use Rattle.guard_encode.proofs.StepLemmas.{encoded_stay, exact_told}
use Rattle.guard_encode.proofs.encoder.Encoder.choice.Goals as goal

pub invariant_of-self : goal.invariant_of-self
invariant_of-self c =
    encoded_stay _ _ _ c.choice.new.arena _ c.choice.ensures.keeps c.self.invariant

pub returns-clause-answer : goal.returns-clause-answer
returns-clause-answer c =
    IfOk-weaker c.choice.result (exact.Tells c.choice.new.arena c.layout.result.now (λ w. slice_index_or w.choices c.args.component 0 == c.args.place)) _
    (λ r h. exact_told c.self.inside.machine.now c.self.inside.levels c.layout.result.now c.choice.new.arena r (λ w. slice_index_or w.choices c.args.component 0 == c.args.place) c.self.invariant.same c.layout.ensures.spec c.layout.ensures.slots h)
    c.choice.ensures.answer
