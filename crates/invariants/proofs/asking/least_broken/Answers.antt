use Rattle.std.proofs.Common.{List, ℕ, sym, ap, ◌∙◌, subst}
use Rattle.std.proofs.lemmas.Result.{IfOk-weaker}
use Rattle.event_graph.specs.Sets.{has}
use Rattle.elaborate.specs.Machine.{GroundMachine}
use Rattle.invariants.specs.Asked.{turn_false}
use Rattle.invariants.specs.Moves.{LeaveWorlds, moves_on}
use Rattle.invariants.specs.Told.{DecidesOf}
use Rattle.invariants.proofs.MoveLemmas.{leave_worlds}
use Rattle.invariants.proofs.ToldLemmas.{least_of}
use Rattle.invariants.proofs.asking.least_broken.Goals as goal

pub turning-requires-clause-moves : goal.turning-requires-clause-moves
turning-requires-clause-moves c =
    let m = c.args.machine.now in
    subst (LeaveWorlds m) (sym (c.as_slice.ensures.value ∙ c.in_ok-moves.ensures)) (leave_worlds m c.law.ensures (has c.args.events.now))

pub returns-clause-answer : goal.returns-clause-answer
returns-clause-answer c =
    let m = c.args.machine.now in
    let e = c.turning.new.encoder in
    let decided = subst (λ (ks : List ℕ). DecidesOf m.base.spec e (turn_false m c.args.claims.now ks) c.in_ok-turning.turning) (c.as_slice.ensures.value ∙ c.in_ok-moves.ensures) c.in_ok-turning.ensures.answer in
    IfOk-weaker c.least_world.result _ _
    (λ found h. least_of m.base.spec c.least_world.new.encoder.machine.base.spec e (turn_false m c.args.claims.now (moves_on m (has c.args.events.now))) c.in_ok-turning.turning found
    (ap (λ (n : GroundMachine). n.base.spec) (c.least_world.ensures.keeps.machine ∙ c.in_ok-turning.ensures.keeps.machine ∙ c.requires.machine)) decided h)
    c.least_world.ensures.answer
