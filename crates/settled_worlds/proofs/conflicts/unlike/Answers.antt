use Rattle.std.proofs.Common.{rules, ◌≡◌, true, ap}
use Rattle.std.proofs.lemmas.Result.{IfOk-weaker}
use Rattle.keyed_levels.specs.declared.keyed.Keyed.{Keyed}
use Rattle.settled_worlds.proofs.ConflictLemmas.{unlike_true}
use Rattle.settled_worlds.proofs.conflicts.unlike.Goals as goal

pub returns-then-literal-clause-answer : goal.returns-then-literal-clause-answer
returns-then-literal-clause-answer c =
    let shown : c.args.literal.truth ≡ true = search rules in
    IfOk-weaker c.not.result _ _
    (λ r h. unlike_true c.args.levels.now c.args.literal c.var.new.self c.not.new.self c.key-level.result.level c.in_ok-value.value r
    shown (ap (λ (t : Keyed). t.level) c.key-level.ensures.is) c.in_ok-value.ensures.answer h)
    c.not.ensures.answer
