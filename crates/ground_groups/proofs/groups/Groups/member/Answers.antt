use Rattle.std.proofs.Common.{subst, arith}
use Rattle.rsml_meaning.specs.Groups.{groups}
use Rattle.state_tree.proofs.Lists.{within_get}
use Rattle.ground_groups.specs.Places.{IsStored}
use Rattle.ground_groups.proofs.GroupLemmas.{groups_long, members_same}
use Rattle.ground_groups.proofs.groups.Groups.member.Goals as goal

pub member-requires-clause-group : goal.member-requires-clause-group
member-requires-clause-group c =
    let a = groups_long c.args.self.now c.self.inside.stored (subst (λ s. IsStored s c.self.inside.stored) c.self.view_is c.self.invariant) in
    let b = c.requires.group in
    omega (arith, a, b)

pub member-requires-clause-place : goal.member-requires-clause-place
member-requires-clause-place c = λ s g h e.
    let own = within_get (groups c.args.self.now) c.args.group c.requires.group in
    let same = members_same c.args.self.now s c.self.inside.stored (subst (λ s. IsStored s c.self.inside.stored) c.self.view_is c.self.invariant) h c.args.group own.0 g own.1 e in
    let l = c.requires.place own.0 own.1 in
    omega (arith, l, same)
