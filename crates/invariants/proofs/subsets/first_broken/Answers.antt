use Rattle.std.proofs.lemmas.Result.{IfOk-weaker}
use Rattle.event_graph.specs.Sets.{has}
use Rattle.invariants.specs.Safe.{Fits, IsIn}
use Rattle.invariants.proofs.SubsetLemmas.{finds_as, fits_in, in_fits}
use Rattle.invariants.proofs.subsets.first_broken.Goals as goal

pub returns-clause-answer : goal.returns-clause-answer
returns-clause-answer c =
    let set = has c.args.events.now in
    let none = has c.new-none.result in
    IfOk-weaker c.first_from.result _ _
    (λ found h. finds_as c.args.machine.now c.args.claims.now (Fits set none 0) (IsIn set) found (fits_in set none) (in_fits set none) h)
    c.first_from.ensures.answer
