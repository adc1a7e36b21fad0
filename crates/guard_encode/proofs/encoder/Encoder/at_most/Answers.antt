use Rattle.std.proofs.Common.{int_le, pos, slice_index_or, subst, w64, to_z, of_z, rules, FitsSigned, IfOk}
use Rattle.std.proofs.lemmas.Int.{to_z-of_z}
use Rattle.std.proofs.lemmas.Result.{IfOk-weaker}
use Rattle.bdd_core.specs.Calls.{Represents}
use Rattle.phrase_diagrams.specs.Tells as exact
use Rattle.guard_encode.specs.Encoding.{Encoding, is_at_most, worlds_of}
use Rattle.guard_encode.proofs.StepLemmas.{encoded_stay, exact_told}
use Rattle.guard_encode.proofs.CellLemmas.{below_told}
use Rattle.guard_encode.proofs.encoder.Encoder.at_most.Goals as goal

pub invariant_of-self : goal.invariant_of-self
invariant_of-self c =
    encoded_stay _ _ _ c.at_most.new.arena _ c.at_most.ensures.keeps c.self.invariant

pub returns-clause-answer : goal.returns-clause-answer
returns-clause-answer c =
    let fits : FitsSigned w64 c.args.number = search rules in
    IfOk-weaker c.at_most.result (exact.Tells c.at_most.new.arena c.layout.result.now (λ w. int_le (slice_index_or w.cells c.args.cell (pos 0)) (to_z w64 (of_z w64 c.args.number)))) _
    (λ r h. exact_told c.self.inside.machine.now c.self.inside.levels c.layout.result.now c.at_most.new.arena r (λ w. int_le (slice_index_or w.cells c.args.cell (pos 0)) c.args.number)
    c.self.invariant.same c.layout.ensures.spec c.layout.ensures.slots
    (subst (λ n. exact.Tells c.at_most.new.arena c.layout.result.now (λ w. int_le (slice_index_or w.cells c.args.cell (pos 0)) n) r) (to_z-of_z w64 c.args.number fits) h))
    c.at_most.ensures.answer

pub returns-clause-values : goal.returns-clause-values
returns-clause-values c =
    let fits : FitsSigned w64 c.args.number = search rules in
    subst (λ (e : Encoding). IfOk c.at_most.result (Represents c.at_most.new.arena (is_at_most (worlds_of e) c.args.cell c.args.number))) c.self.view_is
    (IfOk-weaker c.at_most.result (exact.Tells c.at_most.new.arena c.layout.result.now (λ w. int_le (slice_index_or w.cells c.args.cell (pos 0)) (to_z w64 (of_z w64 c.args.number)))) _
    (λ r h. below_told c.self.inside.machine.now c.self.inside.levels c.layout.result.now c.at_most.new.arena c.self.inside.arena c.args.cell c.args.number r
    c.self.invariant.same c.layout.ensures.spec c.layout.ensures.slots
    (subst (λ n. exact.Tells c.at_most.new.arena c.layout.result.now (λ w. int_le (slice_index_or w.cells c.args.cell (pos 0)) n) r) (to_z-of_z w64 c.args.number fits) h))
    c.at_most.ensures.answer)
