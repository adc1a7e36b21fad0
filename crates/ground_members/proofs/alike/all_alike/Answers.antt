use Rattle.ground_members.specs.Alike.{IsAlike}
use Rattle.ground_members.specs.Scoped.{HasChild}
use Rattle.ground_members.proofs.Lists.{each_at, zip_next}
use Rattle.ground_members.proofs.alike.all_alike.Goals as goal

pub alike-requires : goal.alike-requires
alike-requires c = each_at (HasChild c.args.lookup.now c.args.node) c.args.sources.now c.loop-source.source-index c.source-item.result c.requires c.loop-source-test.true c.source-item.is

pub loop-source-preserved : goal.loop-source-preserved
loop-source-preserved c =
    zip_next (IsAlike c.args.lookup.now c.args.node c.args.other.now) c.args.sources.now c.loop-source.source-index c.source-item.result c.loop-source.transitions.items c.push.new.self.items c.in_ok-alike.field-0
    c.loop-source.invariant c.loop-source-test.true c.source-item.is c.in_ok-push.ensures.items c.in_ok-alike.ensures
