use Rattle.std.proofs.Common.{sym, subst}
use Rattle.std.proofs.lemmas.Result.{IfOk-weaker}
use Rattle.bdd_core.specs.Calls.{Represents}
use Rattle.keyed_levels.specs.Keyed.{StandsFor}
use Rattle.guard_encode.specs.Bounds.{at_most}
use Rattle.guard_encode.specs.Encoding.{Encoding, worlds_of}
use Rattle.guard_encode.proofs.BoundLemmas.{bound_tells, level_within}
use Rattle.guard_encode.proofs.StepLemmas.{encoded_stay}
use Rattle.guard_encode.proofs.encoder.Encoder.bound_at.Goals as goal

pub var-requires : goal.var-requires
var-requires c =
    level_within c.self.inside.machine.now c.self.inside.levels c.self.inside.arena _ (at_most c.args.cell c.args.number) c.args.level c.self.invariant
    (subst (λ (e : Encoding). StandsFor (worlds_of e) (at_most c.args.cell c.args.number) c.args.level) (sym c.self.view_is) c.requires)

pub invariant_of-self : goal.invariant_of-self
invariant_of-self c =
    encoded_stay _ _ _ c.var.new.self _ c.var.ensures.keeps c.self.invariant

pub returns-clause-answer : goal.returns-clause-answer
returns-clause-answer c =
    IfOk-weaker c.var.result (Represents c.var.new.self (λ v. v c.args.level)) _
    (λ r h. bound_tells c.self.inside.machine.now c.self.inside.levels c.self.inside.arena c.var.new.self c.args.cell c.args.level r c.args.number
    (subst (λ (e : Encoding). StandsFor (worlds_of e) (at_most c.args.cell c.args.number) c.args.level) (sym c.self.view_is) c.requires) h)
    c.var.ensures.answer
