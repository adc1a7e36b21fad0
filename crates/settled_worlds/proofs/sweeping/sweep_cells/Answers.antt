use Rattle.bdd_core.proofs.StepLemmas.{keeps_trans}
use Rattle.settled_worlds.specs.Steps.{all_but}
use Rattle.settled_worlds.proofs.StepLemmas.{swept_trans, swept_wider}
use Rattle.settled_worlds.proofs.sweeping.sweep_cells.Goals as goal

pub loop-turn-preserved : goal.loop-turn-preserved
loop-turn-preserved c =
    let k = c.args.levels.now in
    let may = all_but k c.args.kept in
    let chosen = swept_trans k may c.args.arena.now c.loop-turn.arena c.loop-turn.arena c.args.left.now.items c.loop-turn.left.items c.choose_cell.new.left.items
    c.args.f c.loop-turn.out c.loop-turn.out c.loop-turn.invariant.swept
    (swept_wider k may c.loop-turn.arena c.loop-turn.arena c.loop-turn.left.items c.choose_cell.new.left.items c.loop-turn.out c.loop-turn.out c.choose_cell.ensures.struck) in
    record {
      keeps = keeps_trans c.args.arena.now c.loop-turn.arena c.sweep_cell.new.arena c.loop-turn.invariant.keeps c.sweep_cell.ensures.keeps;
      exact = c.sweep_cell.ensures.exact;
      swept = swept_trans k may c.args.arena.now c.loop-turn.arena c.sweep_cell.new.arena c.args.left.now.items c.choose_cell.new.left.items c.sweep_cell.new.left.items
          c.args.f c.loop-turn.out c.in_ok-out-in-Some.out chosen c.in_ok-out-in-Some.ensures.answer;
    }

pub returns-in-None-clause-answer : goal.returns-in-None-clause-answer
returns-in-None-clause-answer c =
    let k = c.args.levels.now in
    let may = all_but k c.args.kept in
    swept_trans k may c.args.arena.now c.loop-turn.arena c.loop-turn.arena c.args.left.now.items c.loop-turn.left.items c.choose_cell.new.left.items
    c.args.f c.loop-turn.out c.loop-turn.out c.loop-turn.invariant.swept
    (swept_wider k may c.loop-turn.arena c.loop-turn.arena c.loop-turn.left.items c.choose_cell.new.left.items c.loop-turn.out c.loop-turn.out c.choose_cell.ensures.struck)
