use Rattle.std.proofs.Common.{ap, ◌∙◌, subst, slice_get}
use Rattle.rsml_ground.specs.Grounded.{IsGrounded}
use Rattle.rsml_ground.specs.Truths.{Grounded}
use Rattle.macros.proofs.Below.{guards_within, table_at}
use Rattle.macros.proofs.macros.Macros.guards.Goals as goal

pub returns-clause-below : goal.returns-clause-below
returns-clause-below c =
    guards_within c.args.self.now (subst IsGrounded c.self.view_is c.self.invariant.grounded) c.args.number c.as_slice.result.now c.requires
    (λ d at.
    c.as_slice.ensures ∙ c.index.ensures
    ∙ table_at c.self.inside.definitions.items c.self.inside.tables.items c.args.number d c.index.result.now c.self.invariant.guards
    (ap (λ (g : Grounded). slice_get g.definitions c.args.number) c.self.view_is ∙ at))
