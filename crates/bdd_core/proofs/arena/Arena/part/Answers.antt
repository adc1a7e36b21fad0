use Rattle.std.proofs.Common.{sym, subst, arith}
use Rattle.bdd_core.specs.Waiting.{IsPart}
use Rattle.bdd_core.proofs.WaitingLemmas.{part-low, part-high}
use Rattle.bdd_core.proofs.arena.Arena.part.Goals as goal

pub returns-then-value-clause-part : goal.returns-then-value-clause-part
returns-then-value-clause-part c =
    subst (λ b. IsPart c.args.self.now c.args.f c.args.g c.args.h b (c.children-f_low.result.1, c.children-g_low.result.1, c.children-h_low.result.1)) (sym c.if-value.true)
    (part-high c.args.self.now c.args.f c.args.g c.args.h c.min-level.result
    c.children-f_low.result.0 c.children-f_low.result.1 c.children-g_low.result.0 c.children-g_low.result.1 c.children-h_low.result.0 c.children-h_low.result.1
    (omega (arith, c.level.ensures.level, c.level-2.ensures.level, c.level-3.ensures.level, c.min.ensures, c.min-level.ensures))
    c.children-f_low.ensures c.children-g_low.ensures c.children-h_low.ensures)

pub returns-else-value-clause-part : goal.returns-else-value-clause-part
returns-else-value-clause-part c =
    subst (λ b. IsPart c.args.self.now c.args.f c.args.g c.args.h b (c.children-f_low.result.0, c.children-g_low.result.0, c.children-h_low.result.0)) (sym c.if-value.false)
    (part-low c.args.self.now c.args.f c.args.g c.args.h c.min-level.result
    c.children-f_low.result.0 c.children-f_low.result.1 c.children-g_low.result.0 c.children-g_low.result.1 c.children-h_low.result.0 c.children-h_low.result.1
    (omega (arith, c.level.ensures.level, c.level-2.ensures.level, c.level-3.ensures.level, c.min.ensures, c.min-level.ensures))
    c.children-f_low.ensures c.children-g_low.ensures c.children-h_low.ensures)
