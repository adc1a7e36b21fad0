use Rattle.std.proofs.Common.{subst, sym, ◌∙◌}
use Rattle.ground_groups.specs.Places.{IsStored}
use Rattle.ground_groups.proofs.GroupLemmas.{groups_long}
use Rattle.ground_groups.proofs.groups.Groups.count.Goals as goal

pub returns : goal.returns
returns c =
    let h = subst (λ s. IsStored s c.self.inside.stored) c.self.view_is c.self.invariant in
    h.count_is ∙ sym (groups_long c.args.self.now c.self.inside.stored h)
