use Rattle.std.proofs.Common.{sym, subst}
use Rattle.bdd_core.proofs.StepLemmas.{keeps_trans}
use Rattle.settled_worlds.specs.Conflicts.{HoldWorlds}
use Rattle.settled_worlds.proofs.RowLemmas.{if_some}
use Rattle.settled_worlds.proofs.SameLemmas.{same_both}
use Rattle.settled_worlds.proofs.conflicts.without_conflicts.Goals as goal

pub without_conflict-requires-clause-ranges : goal.without_conflict-requires-clause-ranges
without_conflict-requires-clause-ranges c = subst (HoldWorlds c.args.levels.now) (sym c.as_slice.ensures.value) c.in_ok-ranges.ensures

pub loop-turn-preserved : goal.loop-turn-preserved
loop-turn-preserved c =
    let before = c.loop-turn.invariant in
    record {
      keeps = keeps_trans c.args.arena.now c.loop-turn.arena c.without_conflict.new.arena before.keeps c.without_conflict.ensures.keeps;
      same = same_both c.args.arena.now c.loop-turn.arena c.without_conflict.new.arena c.args.levels.now c.args.f c.loop-turn.rest c.in-Some.less before.same
          (if_some c.in_ok-found.found c.in-Some.less _ c.in-Some.is c.in_ok-found.ensures.answer);
    }
