use Rattle.group_verdicts.proofs.Keeping.{on_new, on_old}
use Rattle.gap_tables.specs.Widening.{IsNowhere}
use Rattle.gap_tables.proofs.PartAnswers.{any_child, is_not, own_child}
use Rattle.gap_tables.proofs.components.child_of.Goals as goal

pub returns-then-is_false-clause-answer : goal.returns-then-is_false-clause-answer
returns-then-is_false-clause-answer c = λ truth found.
    let a = c.args.encoder.now in
    let d = c.decided.new.self in
    let exact = c.in_ok-decided.ensures.found truth found in
    any_child a.machine.base.spec truth c.args.component c.args.own
    (on_old (λ s. IsNowhere s truth) a d c.in_ok-decided.ensures.keeps (exact.none.0 (c.is_false.ensures.0 c.if-is_false.true)))

pub returns-clause-answer : goal.returns-clause-answer
returns-clause-answer c = λ truth found.
    let a = c.args.encoder.now in
    let d = c.decided.new.self in
    let exact = c.in_ok-decided.ensures.found truth found in
    own_child a.machine.base.spec truth c.args.component c.args.own
    (λ none. is_not c.is_false.result _ c.is_false.ensures c.if-is_false.false (exact.none.1 (on_new (λ s. IsNowhere s truth) a d c.in_ok-decided.ensures.keeps none)))
