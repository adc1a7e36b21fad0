use Rattle.std.proofs.Common.{Bool, subst, sym}
use Rattle.std.specs.Prelude.{◌↔◌, IsTrue}
use Rattle.spec_frames.specs.Frames.{HaveSameFrame}
use Rattle.spec_frames.proofs.PreviousLemmas.{frame_same}
use Rattle.spec_frames.proofs.frames.same_frame.Goals as goal

pub returns : goal.returns
returns c =
    subst (λ (b : Bool). IsTrue b ↔ HaveSameFrame c.args.one.now c.args.two.now) (sym c.are_alike.ensures)
    (frame_same c.args.one.now c.args.two.now c.requires.one c.requires.two)
