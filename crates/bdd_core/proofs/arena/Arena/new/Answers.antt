use Rattle.std.proofs.Common.{sym, subst, List, [], ◌∷◌}
use Rattle.bdd_core.specs.declared.node.Node.{Node}
use Rattle.bdd_core.specs.declared.computed.Kept.{Kept}
use Rattle.bdd_core.specs.Holds.{ArenaHolds}
use Rattle.bdd_core.specs.Unique.{constant_at}
use Rattle.bdd_core.proofs.HoldsLemmas.{new-holds}
use Rattle.bdd_core.proofs.arena.Arena.new.Goals as goal

pub invariant_of-result : goal.invariant_of-result
invariant_of-result c =
    subst (λ (nodes : List Node). ArenaHolds (record { levels = c.args.levels; nodes = nodes }) c.new-2.result.slots.items c.new-3.result.slots.items) (sym c.in_ok-nodes.ensures)
    (subst (λ (kept : List Kept). ArenaHolds (record { levels = c.args.levels; nodes = constant_at c.args.levels 0 ∷ constant_at c.args.levels 1 ∷ [] }) kept c.new-3.result.slots.items) (sym c.new-2.ensures)
    (subst (λ (kept : List Kept). ArenaHolds (record { levels = c.args.levels; nodes = constant_at c.args.levels 0 ∷ constant_at c.args.levels 1 ∷ [] }) [] kept) (sym c.new-3.ensures)
    (new-holds c.args.levels)))
