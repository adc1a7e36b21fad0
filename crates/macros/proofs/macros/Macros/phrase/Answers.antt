use Rattle.std.proofs.Common.{sym, ap, ◌∙◌, subst, slice_get}
use Rattle.rsml_ground.specs.Grounded.{IsGrounded}
use Rattle.rsml_ground.specs.Truths.{Grounded}
use Rattle.macros.proofs.macros.Macros.phrase.Goals as goal

pub returns-clause-rests : goal.returns-clause-rests
returns-clause-rests c =
    (subst IsGrounded c.self.view_is c.self.invariant.grounded).rest.phrase c.args.number c.get.result.now
    (ap (λ (g : Grounded). slice_get g.phrases c.args.number) (sym c.self.view_is) ∙ c.get.ensures)
