use Rattle.std.proofs.Common.{refl, sym, subst}
use Rattle.std.specs.Option.{IsSome}
use Rattle.ground_members.proofs.Numbers.{child_so, child_found, child_is}
use Rattle.ground_members.proofs.targets.child.Goals as goal

pub unwrap-requires : goal.unwrap-requires
unwrap-requires c =
    let r = child_found c.args.lookup.now c.args.node c.args.name.now c.child_of.result c.requires (child_so c.names.result.now c.args.lookup.now c.args.node c.bytes.result.now c.args.name.now c.child_of.result c.names.ensures c.bytes.ensures c.child_of.ensures) in
    subst IsSome (sym r.1) refl

pub returns : goal.returns
returns c =
    child_is c.args.lookup.now c.args.node c.args.name.now c.child_of.result c.unwrap.result
    (child_so c.names.result.now c.args.lookup.now c.args.node c.bytes.result.now c.args.name.now c.child_of.result c.names.ensures c.bytes.ensures c.child_of.ensures)
    c.unwrap.ensures
