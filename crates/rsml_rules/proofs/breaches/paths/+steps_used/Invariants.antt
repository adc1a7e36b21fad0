use Rattle.std.proofs.Common.{length}
use Rattle.rsml_rules.proofs.breaches.paths.+steps_used.Given as goal

abbrev pub decreases-steps_used : goal.decreases-steps_used
decreases-steps_used l = length l.path.now
