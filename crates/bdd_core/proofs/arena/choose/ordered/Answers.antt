use Rattle.bdd_core.proofs.ChoiceLemmas.{same-and, same-or}
use Rattle.bdd_core.proofs.arena.choose.ordered.Goals as goal

pub returns-then-f-g : goal.returns-then-f-g
returns-then-f-g c d pf pg ph = same-and d c.args.f c.args.g c.args.h pf pg ph c.if-h-eq-FALSE.true

pub returns-then-f-h : goal.returns-then-f-h
returns-then-f-h c d pf pg ph = same-or d c.args.f c.args.g c.args.h pf pg ph c.if-g-eq-TRUE.true
