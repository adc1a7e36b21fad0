use Rattle.std.proofs.Common.{Bool, ◌≡◌, sym, ◌∙◌, subst}
use Rattle.rsml_syntax.specs.declared.world.World.{World}
use Rattle.rsml_meaning.specs.Worlds.{IsWorld}
use Rattle.rsml_meaning.proofs.Same.{nat_same}
use Rattle.guard_encode.specs.Encoding.{Encoding, Tells, encoding_of}
use Rattle.guard_encode.proofs.OtherLemmas.{told_alike}
use Rattle.guard_encode.proofs.encoder.Encoder.are_one.Goals as goal

pub returns : goal.returns
returns c = λ is.
    subst (λ (e : Encoding). (one other : World → Bool) → Tells e one c.args.f → Tells e other c.args.g → (w : World) → IsWorld e.machine.base.spec w → one w ≡ other w) c.self.view_is
    (λ one other. told_alike c.keyed_laws.ensures.each (encoding_of c.self.inside.machine.now c.self.inside.levels c.self.inside.arena) one other c.args.f c.args.g c.self.invariant.stored.levels (nat_same c.args.f c.args.g (sym c.eq.ensures ∙ is)))
