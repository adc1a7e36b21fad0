use Rattle.std.proofs.Common.{subst, ℤ, int_le, w64, SFits, rules}
use Rattle.std.proofs.lemmas.Int.{to_z-of_z}
use Rattle.std.proofs.lemmas.Result.{IfOk-weaker}
use Rattle.guard_encode.specs.Encoding.{Tells}
use Rattle.guard_encode.proofs.BoundLemmas.{keeps_grows}
use Rattle.gap_tables.specs.Widening.{number_at}
use Rattle.gap_tables.proofs.cells.at_most.Goals as goal

pub returns-then-by_bounds-clause-answer : goal.returns-then-by_bounds-clause-answer
returns-then-by_bounds-clause-answer c =
    let fits : SFits w64 c.args.number = search rules in
    IfOk-weaker c.bound.result _ _ (λ r h. subst (λ (n : ℤ). Tells c.bound.new.self (λ w. int_le (number_at c.args.cell w) n) r) (to_z-of_z w64 c.args.number fits) h) c.bound.ensures.answer

pub returns-else-by_bounds-clause-answer : goal.returns-else-by_bounds-clause-answer
returns-else-by_bounds-clause-answer c =
    let fits : SFits w64 c.args.number = search rules in
    IfOk-weaker c.at_most.result _ _ (λ r h. subst (λ (n : ℤ). Tells c.at_most.new.self (λ w. int_le (number_at c.args.cell w) n) r) (to_z-of_z w64 c.args.number fits) h) c.at_most.ensures.answer

pub returns-else-by_bounds-clause-keeps : goal.returns-else-by_bounds-clause-keeps
returns-else-by_bounds-clause-keeps c = keeps_grows c.args.encoder.now c.at_most.new.self c.at_most.ensures.keeps
