use Rattle.std.proofs.Common.{not}
use Rattle.std.proofs.lemmas.Result.{IfOk-weaker}
use Rattle.guard_encode.proofs.StepLemmas.{keeps_on, told_on}
use Rattle.same_spec.proofs.DifferenceLemmas.{one_of}
use Rattle.same_spec.proofs.difference.least_difference.Goals as goal

pub returns-clause-keeps : goal.returns-clause-keeps
returns-clause-keeps c =
    let first = c.args.encoder.now in
    let turned = c.not.new.self in
    let joined = c.ite.new.self in
    let settled = c.decided.new.self in
    keeps_on first settled c.least_world.new.encoder
    (keeps_on first joined settled (keeps_on first turned joined c.in_ok-elsewhere.ensures.keeps c.in_ok-differ.ensures.keeps) c.in_ok-decided.ensures.keeps) c.least_world.ensures.keeps

pub returns-clause-answer : goal.returns-clause-answer
returns-clause-answer c =
    let first = c.args.encoder.now in
    let turned = c.not.new.self in
    IfOk-weaker c.least_world.result _ _
    (λ found answer one other here there. answer (one_of one other) (c.in_ok-decided.ensures.answer (one_of one other)
    (c.in_ok-differ.ensures.answer one (λ w. not (other w)) other (told_on first turned one c.args.here c.in_ok-elsewhere.ensures.keeps here) (c.in_ok-elsewhere.ensures.answer other there)
    (told_on first turned other c.args.there c.in_ok-elsewhere.ensures.keeps there))))
    c.least_world.ensures.answer
