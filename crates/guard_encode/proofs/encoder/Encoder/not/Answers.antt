use Rattle.std.proofs.Common.{not, sym, subst, IfOk}
use Rattle.std.proofs.lemmas.Result.{IfOk-weaker}
use Rattle.bdd_core.specs.Diagram.{meaning}
use Rattle.bdd_core.specs.Calls.{Represents}
use Rattle.guard_encode.specs.Encoding.{Encoding, Tells}
use Rattle.guard_encode.proofs.StepLemmas.{encoded_stay, not_tells}
use Rattle.guard_encode.proofs.encoder.Encoder.not.Goals as goal

pub invariant_of-self : goal.invariant_of-self
invariant_of-self c =
    encoded_stay _ _ _ c.not.new.self _ c.not.ensures.keeps c.self.invariant

pub returns-clause-answer : goal.returns-clause-answer
returns-clause-answer c =
    let old = c.self.inside.arena in
    IfOk-weaker c.not.result (Represents c.not.new.self (λ v. not (meaning old c.args.f v))) _
    (λ r h truth told. not_tells c.self.inside.machine.now c.self.inside.levels old c.not.new.self c.args.f r truth h (subst (λ (e : Encoding). Tells e truth c.args.f) (sym c.self.view_is) told))
    c.not.ensures.answer

pub returns-clause-is_ref : goal.returns-clause-is_ref
returns-clause-is_ref c =
    let old = c.self.inside.arena in
    IfOk-weaker c.not.result (Represents c.not.new.self (λ v. not (meaning old c.args.f v))) _ (λ r h. h.is_ref) c.not.ensures.answer

pub returns-clause-values : goal.returns-clause-values
returns-clause-values c =
    subst (λ (e : Encoding). IfOk c.not.result (Represents c.not.new.self (λ v. not (meaning e.diagram c.args.f v)))) c.self.view_is c.not.ensures.answer
