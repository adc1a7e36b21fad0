use Rattle.std.proofs.Common.{◌≡◌, false, take}
use Rattle.std.specs.List.{list_any}
use Rattle.rsml_ground.specs.Truths.{is_active}
use Rattle.ground_claims.proofs.phrase.any_active.Given as goal

-- no state so far is active
abbrev pub invariant-loop-node : goal.invariant-loop-node
invariant-loop-node l = list_any (is_active l.tree l.world) (take l.node-index l.nodes) ≡ false
