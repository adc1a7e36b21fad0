use Rattle.std.proofs.Common.{◌≡◌, ◌<◌, ℕ, []}
use Rattle.invariants.specs.Safe.{AreKnown, IsSafeStart}
use Rattle.invariants.specs.Told.{TellClaims}
use Rattle.invariants.proofs.starts.first_found.Given as goal

-- all is safe after the first events
abbrev pub invariant-loop-start : goal.invariant-loop-start
invariant-loop-start l = record {
  machine : l.encoder.machine ≡ l.machine;
  before : TellClaims l.machine l.encoder [] l.claims l.before.items;
  known : AreKnown l.machine l.claims l.known.items;
  safe : (k : ℕ) → k < l.start → IsSafeStart l.machine l.claims k;
}
