use Rattle.std.proofs.Common.{◌≡◌, map, length}
use Rattle.bdd_core.specs.Chains.{node_of, AreLinked}
use Rattle.bdd_core.proofs.unique.chains.link_all.Given as goal

-- the entries before the place are linked
abbrev pub invariant-loop-place : goal.invariant-loop-place
invariant-loop-place l = (map node_of l.entries.items ≡ map node_of l.fn.entries.items) × (length l.heads.items ≡ length l.fn.heads.items)
    × AreLinked l.entries.items l.heads.items (length l.fn.heads.items) l.place
