use Rattle.std.proofs.Common.{◌≡◌, true, take}
use Rattle.std.specs.List.{list_all}
use Rattle.rsml_ground.specs.Truths.{is_active}
use Rattle.ground_claims.proofs.phrase.every_active.Given as goal

-- each state so far is active
abbrev pub invariant-loop-node : goal.invariant-loop-node
invariant-loop-node l = list_all (is_active l.tree l.world) (take l.node-index l.nodes) ≡ true
