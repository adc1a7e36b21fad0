use Rattle.std.proofs.Common.{arith}
use Rattle.std.proofs.lemmas.Grind.{common_steps}
use Rattle.pair_counts.proofs.GroupLemmas.{seen}
use Rattle.pair_counts.proofs.groups.Groups.put.Goals as goal

pub returns : goal.returns
returns c = λ q. simp seen (rw (← c.self.view_is) (simp seen (grind (arith, common_steps))))
