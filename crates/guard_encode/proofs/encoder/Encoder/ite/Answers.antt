use Rattle.std.proofs.Common.{if◌then◌else◌, sym, subst}
use Rattle.std.proofs.lemmas.Result.{IfOk-weaker}
use Rattle.bdd_core.specs.Diagram.{meaning}
use Rattle.bdd_core.specs.Calls.{Represents}
use Rattle.guard_encode.specs.Encoding.{Encoding, Tells}
use Rattle.guard_encode.proofs.StepLemmas.{encoded_stay, ite_tells}
use Rattle.guard_encode.proofs.encoder.Encoder.ite.Goals as goal

pub invariant_of-self : goal.invariant_of-self
invariant_of-self c =
    encoded_stay _ _ _ c.ite.new.self _ c.ite.ensures.keeps c.self.invariant

pub returns-clause-answer : goal.returns-clause-answer
returns-clause-answer c =
    let old = c.self.inside.arena in
    IfOk-weaker c.ite.result (Represents c.ite.new.self (λ v. if meaning old c.args.f v then meaning old c.args.g v else meaning old c.args.h v)) _
    (λ r made condition one other a b d. ite_tells c.self.inside.machine.now c.self.inside.levels old c.ite.new.self c.args.f c.args.g c.args.h r condition one other made
    (subst (λ (e : Encoding). Tells e condition c.args.f) (sym c.self.view_is) a) (subst (λ (e : Encoding). Tells e one c.args.g) (sym c.self.view_is) b)
    (subst (λ (e : Encoding). Tells e other c.args.h) (sym c.self.view_is) d))
    c.ite.ensures.answer

pub returns-clause-is_ref : goal.returns-clause-is_ref
returns-clause-is_ref c =
    let old = c.self.inside.arena in
    IfOk-weaker c.ite.result (Represents c.ite.new.self (λ v. if meaning old c.args.f v then meaning old c.args.g v else meaning old c.args.h v)) _ (λ r made. made.is_ref) c.ite.ensures.answer
