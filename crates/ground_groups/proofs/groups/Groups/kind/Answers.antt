use Rattle.std.proofs.Common.{subst, arith}
use Rattle.ground_groups.specs.Places.{IsStored}
use Rattle.ground_groups.proofs.GroupLemmas.{groups_long}
use Rattle.ground_groups.proofs.groups.Groups.kind.Goals as goal

pub kind-requires : goal.kind-requires
kind-requires c =
    let a = groups_long c.args.self.now c.self.inside.stored (subst (λ s. IsStored s c.self.inside.stored) c.self.view_is c.self.invariant) in
    let b = c.requires in
    omega (arith, a, b)
