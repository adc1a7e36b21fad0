use Rattle.std.proofs.Common.{sym, subst, true, false}
use Rattle.std.specs.Prelude.{IfOk}
use Rattle.std.proofs.lemmas.Result.{IfOk-weaker}
use Rattle.bdd_core.specs.Steps.{IsChoice, IsNode, IsJoined}
use Rattle.bdd_core.proofs.ForgetLemmas.{joined-choice, joined-node}
use Rattle.bdd_core.proofs.arena.Arena.joined.Goals as goal

pub returns-then-forgotten-clause-joined : goal.returns-then-forgotten-clause-joined
returns-then-forgotten-clause-joined c =
    subst (λ b. IfOk c.choose.result (IsJoined c.choose.new.self c.args.level c.args.low c.args.high b)) (sym c.if-forgotten.true)
    (IfOk-weaker c.choose.result (IsChoice c.choose.new.self c.args.low 1 c.args.high) (IsJoined c.choose.new.self c.args.level c.args.low c.args.high true)
    (λ r x. joined-choice c.args.self.now c.choose.new.self c.choose.ensures.keeps c.args.level c.args.low c.args.high r c.requires.true_ref c.requires.low_ref c.requires.high_ref
    c.requires.true_level c.requires.low_level c.requires.high_level x)
    c.choose.ensures.choice)

pub returns-else-forgotten-clause-joined : goal.returns-else-forgotten-clause-joined
returns-else-forgotten-clause-joined c =
    subst (λ b. IfOk c.make.result (IsJoined c.make.new.self c.args.level c.args.low c.args.high b)) (sym c.if-forgotten.false)
    (IfOk-weaker c.make.result (IsNode c.make.new.self c.args.level c.args.low c.args.high) (IsJoined c.make.new.self c.args.level c.args.low c.args.high false)
    (λ r n. joined-node c.make.new.self c.args.level c.args.low c.args.high r n)
    c.make.ensures.node)
