use Rattle.std.proofs.Common.{◌<◌, length, subst}
use Rattle.rsml_meaning.specs.Instances.{states}
use Rattle.rsml_ground.specs.Truths.{is_active}
use Rattle.guard_encode.specs.Encoding.{Encoding, Tells, encoding_of}
use Rattle.guard_encode.proofs.EncoderLemmas.{active_at}
use Rattle.guard_encode.proofs.encoder.Encoder.active.Goals as goal

pub returns : goal.returns
returns c =
    subst (λ (e : Encoding). c.args.node < length (states e.machine.base.spec) → Tells e (λ w. is_active e.machine.base.spec w c.args.node) c.index.result.now) c.self.view_is
    (λ less. active_at (encoding_of c.self.inside.machine.now c.self.inside.levels c.self.inside.arena) _ c.args.node c.index.result.now
    c.self.invariant.stored less c.index.ensures)
    c.requires
