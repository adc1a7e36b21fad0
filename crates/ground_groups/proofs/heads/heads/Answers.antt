use Rattle.std.proofs.Common.{arith}
use Rattle.ground_groups.proofs.Rising.{are_heads}
use Rattle.ground_groups.proofs.heads.heads.Goals as goal

pub returns : goal.returns
returns c =
    are_heads c.args.keys.now c.loop-key.heads.keys c.sort.new.self.keys c.loop-key.key-index c.in_ok-sort.ensures.sorted c.in_ok-sort.ensures.unique
    c.in_ok-sort.ensures.reordered.2 c.loop-key.invariant (let t = c.loop-key-test.false in omega (arith, t))
