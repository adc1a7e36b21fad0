use Rattle.std.proofs.Common.{sym, ◌∙◌, subst}
use Rattle.rsml_syntax.specs.declared.syntax.Spec.{Spec}
use Rattle.rsml_meaning.specs.Worlds.{IsWorld}
use Rattle.frame_notes.proofs.truths.is_world.Goals as goal

pub returns : goal.returns
returns c = λ yes. subst (λ (s : Spec). IsWorld s c.args.world.now) c.worlds.ensures (sym c.fits.ensures ∙ yes)
