use Rattle.std.proofs.Common.{sym, subst}
use Rattle.rsml_meaning.specs.Worlds.{IsWorld}
use Rattle.rsml_ground.specs.Truths.{Grounded}
use Rattle.frame_notes.proofs.truths.filled.Goals as goal

pub fill-requires-clause-world : goal.fill-requires-clause-world
fill-requires-clause-world c = subst (λ (b : Grounded). IsWorld b.spec c.args.world.now) (sym c.macros-macros.ensures) c.requires
