use Rattle.std.proofs.Common.{◌≡◌, take}
use Rattle.std.specs.List.{list_any}
use Rattle.ground_groups.specs.declared.key.Key.{Key}
use Rattle.ground_groups.specs.Heads.{same_key}
use Rattle.ground_groups.proofs.heads.heads.Given as goal

abbrev pub invariant-loop-key : goal.invariant-loop-key
invariant-loop-key l = (q : Key) → list_any (same_key q) l.heads.keys ≡ list_any (same_key q) (take l.key-index l.keys)
