use Rattle.std.proofs.Common.{◌≡◌, length}
use Rattle.spec_frames.specs.helpers.Sameness.{kept}
use Rattle.spec_frames.proofs.declarations.first_kept.Given as goal

abbrev pub invariant-loop-decl : goal.invariant-loop-decl
invariant-loop-decl l = kept l.decls ≡ kept l.rest

abbrev pub decreases-loop-decl : goal.decreases-loop-decl
decreases-loop-decl l = length l.rest
