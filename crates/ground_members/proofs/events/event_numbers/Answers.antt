use Rattle.rsml_meaning.specs.Instances.{globals_of}
use Rattle.rsml_meaning.specs.Truth.{within, instance}
use Rattle.ground_members.specs.Members.{IsEvent}
use Rattle.ground_members.specs.Scoped.{EventIsScoped}
use Rattle.ground_members.proofs.Lists.{each_mapped, zip_turn}
use Rattle.ground_members.proofs.events.event_numbers.Goals as goal

pub event_number-requires : goal.event_number-requires
event_number-requires c =
    each_mapped (EventIsScoped c.args.lookup.now) (instance (globals_of c.args.lookup.now) (within c.args.this)) c.args.mentions.now c.loop-mention.mention-index c.mention-item.result c.requires c.loop-mention-test.true c.mention-item.is

pub loop-mention-preserved : goal.loop-mention-preserved
loop-mention-preserved c =
    zip_turn (IsEvent c.args.lookup.now) (IsEvent c.args.lookup.now) (instance (globals_of c.args.lookup.now) (within c.args.this)) c.args.mentions.now c.loop-mention.mention-index c.mention-item.result c.loop-mention.numbers c.push.new.self c.event_number.result (λ b k p. p) c.loop-mention.invariant
    c.loop-mention-test.true c.mention-item.is c.in_ok-push.ensures.ok c.event_number.ensures
