use Rattle.std.proofs.Common.{subst, length}
use Rattle.rsml_ground.specs.Scoped.{SimpleIsScoped}
use Rattle.phrase_builder.proofs.Operands.{constant_numbers}
use Rattle.phrase_builder.proofs.phrases.ground_simple.Goals as goal

pub constant-requires : goal.constant-requires
constant-requires c =
    let scoped = subst (SimpleIsScoped c.args.site.now.lookup.now (length c.args.site.now.definitions.now) c.args.here.now) c.in-Function.is c.requires in
    constant_numbers c.args.site.now.lookup.now c.args.here.now c.in-Function.right c.in_ok-right-in-Function.right scoped.1 scoped.2 c.in_ok-right-in-Function.ensures.is
