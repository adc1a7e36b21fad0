use Rattle.std.proofs.Common.{◌∙◌, get_or}
use Rattle.pair_counts.proofs.BitLemmas.{joined_all}
use Rattle.pair_counts.proofs.bits.join_words.Goals as goal

pub returns : goal.returns
returns c = λ i. c.loop-place.invariant.1 i ∙ joined_all c.args.others.now (get_or c.args.words.now.items i 0) i c.loop-place.place c.loop-place-test.false
