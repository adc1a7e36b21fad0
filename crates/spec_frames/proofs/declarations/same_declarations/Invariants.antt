use Rattle.std.proofs.Common.{◌≡◌, drop}
use Rattle.std.specs.Cmp.Lexicographic.{pointwise}
use Rattle.spec_frames.specs.helpers.Sameness.{same_decl, kept}
use Rattle.spec_frames.proofs.declarations.same_declarations.Given as goal

abbrev pub invariant-loop-decl : goal.invariant-loop-decl
invariant-loop-decl l = pointwise same_decl (kept (drop l.decl-index l.one)) (kept l.others) ≡ pointwise same_decl (kept l.one) (kept l.two)
