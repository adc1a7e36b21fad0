use Rattle.std.proofs.Common.{length}
use Rattle.guard_encode.proofs.spelling.+spelled.Given as goal

abbrev pub decreases-spelled : goal.decreases-spelled
decreases-spelled l = length l.bits.now
