use Rattle.std.proofs.Common.{◌≡◌, drop, not}
use Rattle.std.specs.List.{position_from}
use Rattle.rsml_ground.specs.Truths.{is_active}
use Rattle.ground_claims.specs.Truths.{claim_truth}
use Rattle.invariants.proofs.proving.first_false.Given as goal

-- none of the first claims is false
abbrev pub invariant-loop-place : goal.invariant-loop-place
invariant-loop-place l =
    position_from (λ claim. not (claim_truth (is_active l.tree l.world) claim)) l.place (drop l.place l.claims)
    ≡ position_from (λ claim. not (claim_truth (is_active l.tree l.world) claim)) 0 l.claims
