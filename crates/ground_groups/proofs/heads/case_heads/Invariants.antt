use Rattle.std.proofs.Common.{◌≡◌, take}
use Rattle.std.specs.List.{list_any}
use Rattle.ground_groups.specs.declared.key.Key.{Key}
use Rattle.ground_groups.specs.Heads.{same_key, send_key}
use Rattle.ground_groups.proofs.heads.case_heads.Given as goal

abbrev pub invariant-loop-case : goal.invariant-loop-case
invariant-loop-case l = (q : Key) → list_any (same_key q) l.heads.keys ≡ list_any (λ c. same_key q (send_key c)) (take l.case-index l.cases)
