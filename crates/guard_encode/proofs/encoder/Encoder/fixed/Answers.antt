use Rattle.std.proofs.Common.{w64, rules, FitsSigned, subst}
use Rattle.std.proofs.lemmas.Int.{to_z-of_z}
use Rattle.std.proofs.lemmas.Result.{IfOk-weaker}
use Rattle.guard_encode.specs.Encoding.{worlds_of}
use Rattle.guard_encode.specs.Spelling.{IsNumber}
use Rattle.guard_encode.proofs.FindLemmas.{fixed_finds}
use Rattle.guard_encode.proofs.encoder.Encoder.fixed.Goals as goal

pub returns-clause-is_ref : goal.returns-clause-is_ref
returns-clause-is_ref c = IfOk-weaker c.and.result _ _ (λ r h. h.is_ref) c.and.ensures.values

pub returns-clause-answer : goal.returns-clause-answer
returns-clause-answer c =
    let a = c.args.self.now in
    let b = c.number.new.self in
    let fits : FitsSigned w64 c.args.number = search rules in
    IfOk-weaker c.and.result _ _
    (λ r h truth found. fixed_finds c.world_laws.ensures.each a b c.and.new.self truth c.args.cell c.args.number c.args.f c.in_ok-spelled.spelled r
    c.in_ok-spelled.ensures.keeps c.and.ensures.keeps c.in_ok-spelled.ensures.keyed
    (subst (λ n. IsNumber b.diagram (worlds_of a) c.args.cell n c.in_ok-spelled.spelled) (to_z-of_z w64 c.args.number fits) c.in_ok-spelled.ensures.answer) h found)
    c.and.ensures.values
