use Rattle.rsml_names.proofs.KinLemmas.{fit_push}
use Rattle.rsml_names.proofs.families.Families.put.Goals as goal

pub invariant_of-result : goal.invariant_of-result
invariant_of-result c = rw c.in_ok-push.ensures.items (fit_push c.self.inside.all.items c.args.family c.self.invariant (rw (← c.self.view_is) at c.requires))
