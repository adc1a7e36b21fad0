use Rattle.std.proofs.Common.{None}
use Rattle.std.proofs.lemmas.Result.{IfOk-weaker}
use Rattle.settled_worlds.specs.Settled.{IsSettled}
use Rattle.settled_worlds.specs.Steps.{all_but, HasEnded}
use Rattle.settled_worlds.proofs.EndLemmas.{settled}
use Rattle.settled_worlds.proofs.settling.settle.Goals as goal

pub returns-clause-answer : goal.returns-clause-answer
returns-clause-answer c =
    let k = c.args.levels.now in
    IfOk-weaker c.sweep_all.result (HasEnded k (all_but k None) c.args.arena.now c.sweep_all.new.arena c.args.f) (IsSettled c.args.arena.now c.sweep_all.new.arena k c.args.f)
    (λ r end. settled k (all_but k None) c.args.arena.now c.sweep_all.new.arena c.args.f r end)
    c.sweep_all.ensures.ended
