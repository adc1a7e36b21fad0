use Rattle.std.proofs.lemmas.Result.{IfOk-weaker}
use Rattle.bdd_core.specs.Diagram.{IsRef}
use Rattle.settled_worlds.specs.Settled.{IsSameLawfully}
use Rattle.guard_encode.specs.Encoding.{worlds_of}
use Rattle.guard_encode.proofs.FindLemmas.{found_same}
use Rattle.guard_encode.proofs.encoder.Encoder.with_exact.Goals as goal

pub returns-clause-is_ref : goal.returns-clause-is_ref
returns-clause-is_ref c =
    let e = c.args.self.now in
    IfOk-weaker c.exactly.result (IsSameLawfully e.diagram c.exactly.new.self.diagram (worlds_of e) c.args.f) (IsRef c.exactly.new.self.diagram)
    (λ r h. h.is_ref) c.exactly.ensures.answer

pub returns-clause-answer : goal.returns-clause-answer
returns-clause-answer c =
    let e = c.args.self.now in
    IfOk-weaker c.exactly.result (IsSameLawfully e.diagram c.exactly.new.self.diagram (worlds_of e) c.args.f) _
    (λ r h truth found. found_same e c.exactly.new.self truth c.args.f r c.exactly.ensures.keeps h found) c.exactly.ensures.answer
