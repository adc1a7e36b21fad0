use Rattle.std.proofs.Common.{length, sym, ◌∙◌, subst, ℤ, w64, to_z, of_z, rules, FitsSigned, IfOk, IfSome}
use Rattle.std.proofs.lemmas.Int.{to_z-of_z}
use Rattle.rsml_meaning.specs.Cells.{cells}
use Rattle.rsml_ground.specs.declared.phrases.GroundPhrase.{GroundPhrase}
use Rattle.keyed_levels.specs.Keyed.{PhraseFits, StandsFor}
use Rattle.guard_encode.specs.Bounds.{at_most}
use Rattle.guard_encode.specs.Encoding.{worlds_of}
use Rattle.guard_encode.proofs.BoundLemmas.{bound_fits}
use Rattle.guard_encode.proofs.encoder.Encoder.bound_level.Goals as goal

pub stand_for-requires : goal.stand_for-requires
stand_for-requires c =
    let many = length (cells c.args.self.now.machine.base.spec) in
    subst (PhraseFits many) (sym c.in_ok-bound.ensures)
    (bound_fits many c.args.cell (to_z w64 (of_z w64 c.args.number)) c.requires (sym c.is_small.ensures ∙ c.if-not-is_small.false))

pub returns-clause-level : goal.returns-clause-level
returns-clause-level c =
    let fits : FitsSigned w64 c.args.number = search rules in
    subst (λ (n : ℤ). IfOk c.stand_for.result (λ found. IfSome found (StandsFor (worlds_of c.stand_for.new.self) (at_most c.args.cell n)))) (to_z-of_z w64 c.args.number fits)
    (subst (λ (p : GroundPhrase). IfOk c.stand_for.result (λ found. IfSome found (StandsFor (worlds_of c.stand_for.new.self) p))) c.in_ok-bound.ensures c.stand_for.ensures.level)
