use Rattle.std.proofs.Common.{◌<◌, length, sym, subst, ℤ, int_le, pos, slice_index_or, w64, rules, FitsSigned, IfOk}
use Rattle.std.proofs.lemmas.Int.{to_z-of_z}
use Rattle.rsml_meaning.specs.Cells.{cells}
use Rattle.elaborate.specs.Machine.{GroundMachine}
use Rattle.guard_encode.specs.Encoding.{Tells}
use Rattle.guard_encode.proofs.BoundLemmas.{grows_on, keeps_grows}
use Rattle.guard_encode.proofs.encoder.Encoder.bound.Goals as goal

pub at_most-requires : goal.at_most-requires
at_most-requires c = subst (λ (m : GroundMachine). c.args.cell < length (cells m.base.spec)) (sym c.bound_level.ensures.grows.machine) c.requires

pub returns-in-Some-clause-grows : goal.returns-in-Some-clause-grows
returns-in-Some-clause-grows c =
    grows_on c.args.self.now c.bound_level.new.self c.bound_at.new.self c.bound_level.ensures.grows (keeps_grows c.bound_level.new.self c.bound_at.new.self c.bound_at.ensures.keeps)

pub returns-in-None-clause-grows : goal.returns-in-None-clause-grows
returns-in-None-clause-grows c =
    grows_on c.args.self.now c.bound_level.new.self c.at_most.new.self c.bound_level.ensures.grows (keeps_grows c.bound_level.new.self c.at_most.new.self c.at_most.ensures.keeps)

pub returns-in-Some-clause-answer : goal.returns-in-Some-clause-answer
returns-in-Some-clause-answer c =
    let fits : FitsSigned w64 c.args.number = search rules in
    subst (λ (n : ℤ). IfOk c.bound_at.result (Tells c.bound_at.new.self (λ w. int_le (slice_index_or w.cells c.args.cell (pos 0)) n))) (to_z-of_z w64 c.args.number fits) c.bound_at.ensures.answer

pub returns-in-None-clause-answer : goal.returns-in-None-clause-answer
returns-in-None-clause-answer c =
    let fits : FitsSigned w64 c.args.number = search rules in
    subst (λ (n : ℤ). IfOk c.at_most.result (Tells c.at_most.new.self (λ w. int_le (slice_index_or w.cells c.args.cell (pos 0)) n))) (to_z-of_z w64 c.args.number fits) c.at_most.ensures.answer
