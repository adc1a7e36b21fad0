use Rattle.std.proofs.Common.{length}
use Rattle.rsml_rules.proofs.breaches.paths.+is_target.Given as goal

abbrev pub decreases-is_target : goal.decreases-is_target
decreases-is_target l = length l.path.now
