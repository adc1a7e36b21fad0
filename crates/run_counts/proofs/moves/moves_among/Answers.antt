use Rattle.std.proofs.Common.{List, ℕ, length, filter, ap, ◌∙◌}
use Rattle.std.proofs.lemmas.List.{take_all}
use Rattle.run_counts.specs.Ready.{moves_at}
use Rattle.run_counts.proofs.MoveLemmas.{moves_are}
use Rattle.run_counts.proofs.moves.moves_among.Goals as goal

pub returns-clause-moves : goal.returns-clause-moves
returns-clause-moves c ts are =
    let m = c.args.machine.now in
    c.loop-transition.invariant.counted
    ∙ ap (λ (ks : List ℕ). length (filter (moves_at m) ks)) (take_all c.loop-transition.transition-index c.args.taken.now c.loop-transition-test.false)
    ∙ moves_are m c.law.ensures ts c.args.taken.now are
