use Rattle.std.proofs.Common.{Some}
use Rattle.std.proofs.lemmas.Result.{IfOk-weaker}
use Rattle.settled_worlds.specs.Settled.{cell_levels, IsProjected}
use Rattle.settled_worlds.specs.Steps.{all_but, HasEnded}
use Rattle.settled_worlds.proofs.EndLemmas.{projected}
use Rattle.settled_worlds.proofs.settling.project.Goals as goal

pub returns-clause-answer : goal.returns-clause-answer
returns-clause-answer c =
    let k = c.args.levels.now in
    IfOk-weaker c.sweep_all.result (HasEnded k (all_but k (Some c.args.cell)) c.args.arena.now c.sweep_all.new.arena c.args.f)
    (IsProjected c.args.arena.now c.sweep_all.new.arena k (cell_levels k c.args.cell) c.args.f)
    (λ r end. projected k c.args.arena.now c.sweep_all.new.arena c.args.cell c.args.f r c.keys.ensures.law end)
    c.sweep_all.ensures.ended
