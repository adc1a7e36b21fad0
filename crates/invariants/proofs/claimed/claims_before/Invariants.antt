use Rattle.std.proofs.Common.{[], take}
use Rattle.guard_encode.specs.Encoding.{Keeps}
use Rattle.invariants.specs.Told.{TellClaims}
use Rattle.invariants.proofs.claimed.claims_before.Given as goal

-- a handle for each of the first claims
abbrev pub invariant-loop-claim : goal.invariant-loop-claim
invariant-loop-claim l = record {
  keeps : Keeps l.fn.encoder l.encoder;
  told : TellClaims l.machine l.encoder [] (take l.claim-index l.claims) l.found.items;
}
