use Rattle.std.proofs.Common.{ℕ, sym, subst}
use Rattle.std.proofs.lemmas.Result.{IfOk-weaker}
use Rattle.rsml_ground.specs.declared.definitions.GroundGuard.{GroundGuard}
use Rattle.rsml_ground.specs.declared.definitions.GroundGuard.TheVariants as guards
use Rattle.and_or_tables.specs.Shape.{PhrasesBelow}
use Rattle.macros.specs.Guards.{GuardBelow}
use Rattle.macros.specs.Asked.{AsksFor}
use Rattle.macros.proofs.asked.Asked.new.Goals as goal

pub returns-in-Always : goal.returns-in-Always
returns-in-Always c =
    IfOk-weaker c.always.result (λ asked. (count : ℕ) → AsksFor count guards.Always asked) (λ asked. (count : ℕ) → GuardBelow count c.args.guard.now → AsksFor count c.args.guard.now asked)
    (λ asked h count below. subst (λ (g : GroundGuard). AsksFor count g asked) (sym c.in-Always.is) (h count))
    c.always.ensures

pub returns-in-Table : goal.returns-in-Table
returns-in-Table c =
    IfOk-weaker c.of_table.result (λ asked. (count : ℕ) → PhrasesBelow count c.in-Table.table → AsksFor count (guards.Table c.in-Table.table) asked)
    (λ asked. (count : ℕ) → GuardBelow count c.args.guard.now → AsksFor count c.args.guard.now asked)
    (λ asked h count below. subst (λ (g : GroundGuard). AsksFor count g asked) (sym c.in-Table.is) (h count (subst (GuardBelow count) c.in-Table.is below)))
    c.of_table.ensures
