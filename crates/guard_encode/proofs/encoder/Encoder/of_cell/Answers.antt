use Rattle.std.proofs.lemmas.Result.{IfOk-weaker}
use Rattle.bdd_core.specs.Diagram.{IsRef}
use Rattle.settled_worlds.specs.Settled.{cell_levels, IsProjected}
use Rattle.guard_encode.specs.Encoding.{worlds_of}
use Rattle.guard_encode.proofs.FindLemmas.{found_of_cell}
use Rattle.guard_encode.proofs.encoder.Encoder.of_cell.Goals as goal

pub returns-clause-is_ref : goal.returns-clause-is_ref
returns-clause-is_ref c =
    let e = c.args.self.now in
    IfOk-weaker c.projected.result (IsProjected e.diagram c.projected.new.self.diagram (worlds_of e) (cell_levels (worlds_of e) c.args.cell) c.args.f) (IsRef c.projected.new.self.diagram)
    (λ r h. h.is_ref) c.projected.ensures.answer

pub returns-clause-answer : goal.returns-clause-answer
returns-clause-answer c =
    let e = c.args.self.now in
    IfOk-weaker c.projected.result (IsProjected e.diagram c.projected.new.self.diagram (worlds_of e) (cell_levels (worlds_of e) c.args.cell) c.args.f) _
    (λ r h truth found. found_of_cell c.world_laws.ensures.each c.world_laws.ensures.free c.keyed_laws.ensures.each c.keyed_laws.ensures.worlds
    e c.projected.new.self c.args.cell c.args.f r truth c.projected.ensures.keeps c.projected.ensures.keyed h found) c.projected.ensures.answer
