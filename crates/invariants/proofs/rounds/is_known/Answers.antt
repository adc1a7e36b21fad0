use Rattle.std.proofs.lemmas.Option.{slice_get-get_or}
use Rattle.invariants.proofs.rounds.is_known.Goals as goal

pub returns-then-is_within : goal.returns-then-is_within
returns-then-is_within c = λ _. (c.loop-set.set-index, _, slice_get-get_or c.args.known.now c.loop-set.set-index _ c.loop-set-test.true, c.is_within.ensures.0 c.if-is_within.true)
