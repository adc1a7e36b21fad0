use Rattle.std.proofs.Common.{Bool, subst, sym}
use Rattle.std.specs.Prelude.{◌≡◌, ◌↔◌, IsTrue}
use Rattle.spec_frames.specs.Frames.{frame}
use Rattle.spec_frames.proofs.SyntaxLemmas.{syntax_same}
use Rattle.spec_frames.proofs.frames.same_syntax.Goals as goal

pub returns : goal.returns
returns c = subst (λ (b : Bool). IsTrue b ↔ (frame c.args.one.now ≡ frame c.args.two.now)) (sym c.are_same.ensures) (syntax_same c.args.one.now c.args.two.now)
