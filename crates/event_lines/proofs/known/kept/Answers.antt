use Rattle.event_lines.proofs.KnownLemmas.{kept_one}
use Rattle.event_lines.proofs.known.kept.Goals as goal

pub returns-then-is : goal.returns-then-is
returns-then-is c = kept_one c.args.known.now c.loop-one.one-index _ c.args.name.now c.loop-one-test.true (c.is.ensures c.if-is.true)
