use Rattle.std.proofs.Common.{◌≡◌, drop}
use Rattle.std.specs.Cmp.Lexicographic.{pointwise}
use Rattle.spec_frames.specs.helpers.Sameness.{same_case}
use Rattle.spec_frames.proofs.declarations.same_cases.Given as goal

abbrev pub invariant-loop-case : goal.invariant-loop-case
invariant-loop-case l = pointwise same_case (drop l.case-index l.one) l.others ≡ pointwise same_case l.one l.two
