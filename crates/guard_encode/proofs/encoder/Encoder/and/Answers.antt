use Rattle.std.proofs.Common.{◌&&◌, sym, subst, IfOk}
use Rattle.std.proofs.lemmas.Result.{IfOk-weaker}
use Rattle.bdd_core.specs.Diagram.{meaning}
use Rattle.bdd_core.specs.Calls.{Represents}
use Rattle.guard_encode.specs.Encoding.{Encoding, Finds, Tells}
use Rattle.guard_encode.proofs.StepLemmas.{encoded_stay, and_tells}
use Rattle.guard_encode.proofs.FindLemmas.{and_finds}
use Rattle.guard_encode.proofs.encoder.Encoder.and.Goals as goal

pub invariant_of-self : goal.invariant_of-self
invariant_of-self c =
    encoded_stay _ _ _ c.and.new.self _ c.and.ensures.keeps c.self.invariant

pub returns-clause-answer : goal.returns-clause-answer
returns-clause-answer c =
    let old = c.self.inside.arena in
    IfOk-weaker c.and.result (Represents c.and.new.self (λ v. meaning old c.args.f v && meaning old c.args.g v)) _
    (λ r h one other a b. and_tells c.self.inside.machine.now c.self.inside.levels old c.and.new.self c.args.f c.args.g r one other h
    (subst (λ (e : Encoding). Tells e one c.args.f) (sym c.self.view_is) a) (subst (λ (e : Encoding). Tells e other c.args.g) (sym c.self.view_is) b))
    c.and.ensures.answer

pub returns-clause-is_ref : goal.returns-clause-is_ref
returns-clause-is_ref c =
    let old = c.self.inside.arena in
    IfOk-weaker c.and.result (Represents c.and.new.self (λ v. meaning old c.args.f v && meaning old c.args.g v)) _ (λ r h. h.is_ref) c.and.ensures.answer

pub returns-clause-found : goal.returns-clause-found
returns-clause-found c =
    let old = c.self.inside.arena in
    IfOk-weaker c.and.result (Represents c.and.new.self (λ v. meaning old c.args.f v && meaning old c.args.g v)) _
    (λ r h one other a b. and_finds c.self.inside.machine.now c.self.inside.levels old c.and.new.self c.args.f c.args.g r one other h
    (subst (λ (e : Encoding). Finds e one c.args.f) (sym c.self.view_is) a) (subst (λ (e : Encoding). Tells e other c.args.g) (sym c.self.view_is) b))
    c.and.ensures.answer

pub returns-clause-values : goal.returns-clause-values
returns-clause-values c =
    subst (λ (e : Encoding). IfOk c.and.result (Represents c.and.new.self (λ v. meaning e.diagram c.args.f v && meaning e.diagram c.args.g v))) c.self.view_is c.and.ensures.answer
