use Rattle.std.proofs.Common.{arith}
use Rattle.bdd_core.proofs.ForgetLemmas.{without-constant, without-after}
use Rattle.bdd_core.proofs.arena.Arena.rest_at_once.Goals as goal
use Rattle.bdd_core.proofs.arena.Arena.rest_at_once.Goals.{then-f-lt2-via-then-f-lt2, then-f-lt2-via-else-f-lt2+then-last-top}

pub returns-then-f-lt2-clause-right : goal.returns-then-f-lt2-clause-right
returns-then-f-lt2-clause-right c = elim c.then-f-lt2.branch [
  | then-f-lt2-via-then-f-lt2 w ↦ without-constant c.args.self.now c.args.f c.args.levels.now c.requires.f_ref w.if-f-lt2.true
  | then-f-lt2-via-else-f-lt2+then-last-top w ↦
      without-after c.args.self.now c.level-top.ensures.reduced c.args.f c.args.levels.now c.args.last c.requires.f_ref c.requires.last (omega (arith, c.level-top.ensures.level, w.if-last-top.true))
]
