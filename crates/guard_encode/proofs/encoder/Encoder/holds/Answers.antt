use Rattle.std.proofs.Common.{sym, ◌∙◌, subst}
use Rattle.rsml_meaning.specs.Worlds.{IsWorld}
use Rattle.rsml_ground.specs.Truths.{Grounded}
use Rattle.guard_encode.specs.Encoding.{Encoding, Tells}
use Rattle.guard_encode.proofs.HoldingLemmas.{holds_in}
use Rattle.guard_encode.proofs.encoder.Encoder.holds.Goals as goal

pub walk-requires-clause-world : goal.walk-requires-clause-world
walk-requires-clause-world c =
    subst (λ (g : Grounded). IsWorld g.spec c.args.world.now) (sym c.self.invariant.same)
    (subst (λ (e : Encoding). IsWorld e.machine.base.spec c.args.world.now) (sym c.self.view_is) c.requires.world)

pub returns : goal.returns
returns c = λ truth told.
    c.walk.ensures
    ∙ holds_in c.world_laws.ensures.each c.world_laws.ensures.free c.self.inside.machine.now c.self.inside.levels c.self.inside.arena truth c.args.f c.args.world.now
    c.self.invariant.same c.self.invariant.stored.levels
    (subst (λ (e : Encoding). IsWorld e.machine.base.spec c.args.world.now) (sym c.self.view_is) c.requires.world)
    (subst (λ (e : Encoding). Tells e truth c.args.f) (sym c.self.view_is) told)
