use Rattle.std.proofs.Common.{◌<◌, sym, ap, ◌∙◌, subst, length, slice_get, Some, arith}
use Rattle.std.proofs.lemmas.Option.{slice_get-get_or}
use Rattle.rsml_ground.specs.Grounded.{IsGrounded}
use Rattle.rsml_ground.specs.Truths.{Grounded}
use Rattle.macros.proofs.macros.Macros.definition.Goals as goal

pub returns-clause-fits : goal.returns-clause-fits
returns-clause-fits c =
    let ds = c.self.inside.definitions.items in
    let within : c.args.number < length ds = omega (arith, c.requires, ap (λ (g : Grounded). length g.definitions) c.self.view_is) in
    (subst IsGrounded c.self.view_is c.self.invariant.grounded).rest.definition c.args.number c.index.result.now
    (ap (λ (g : Grounded). slice_get g.definitions c.args.number) (sym c.self.view_is) ∙ slice_get-get_or ds c.args.number c.index.result.now within ∙ ap Some (sym c.index.ensures))
