use Rattle.std.proofs.Common.{subst}
use Rattle.rsml_ground.specs.Numbers.{HaveOneNumber}
use Rattle.rsml_ground.proofs.Equal.{one_number}
use Rattle.rsml_ground.proofs.numbered.Phrases.len.Goals as goal

pub returns-clause-shared : goal.returns-clause-shared
returns-clause-shared c = subst HaveOneNumber c.self.view_is (one_number c.self.inside.set.keys c.len.ensures.unique)
