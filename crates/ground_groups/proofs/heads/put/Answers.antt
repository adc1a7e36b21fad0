use Rattle.std.proofs.Common.{◌≡◌, Some, slice_get, subst}
use Rattle.ground_groups.proofs.Rising.{any_kept}
use Rattle.ground_groups.proofs.heads.put.Goals as goal

pub returns-in-Some : goal.returns-in-Some
returns-in-Some c q =
    any_kept q c.args.heads.now.keys c.in-Some.place c.args.key (subst (λ ks. slice_get ks c.in-Some.place ≡ Some c.args.key) c.as_slice.ensures.keys c.in-Some.ensures)
