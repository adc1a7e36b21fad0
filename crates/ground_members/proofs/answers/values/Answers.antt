use Rattle.rsml_meaning.specs.Truth.{within}
use Rattle.ground_members.specs.Members.{ValueIs}
use Rattle.ground_members.proofs.Lists.{zip_next}
use Rattle.ground_members.proofs.answers.values.Goals as goal

pub loop-one-preserved : goal.loop-one-preserved
loop-one-preserved c =
    zip_next (ValueIs c.args.lookup.now (within c.args.this)) c.args.written.now c.loop-one.one-index c.one-item.result c.loop-one.values c.push.new.self c.in_ok-value.field-0 c.loop-one.invariant c.loop-one-test.true c.one-item.is c.in_ok-push.ensures.ok c.in_ok-value.ensures
