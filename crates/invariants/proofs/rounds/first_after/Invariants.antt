use Rattle.std.proofs.Common.{◌≡◌, ◌+◌, ◌<◌, ℕ, IsTrue}
use Rattle.rsml_meaning.specs.Words.{Instance}
use Rattle.rsml_meaning.specs.Chains.{is_external}
use Rattle.ground_members.specs.Members.{IsEvent}
use Rattle.event_chains.specs.Rounds.{IsRound}
use Rattle.guard_encode.specs.Encoding.{Keeps}
use Rattle.invariants.specs.Safe.{AllSafe, AreKnown, MayBe}
use Rattle.invariants.proofs.rounds.first_after.Given as goal

-- the first rounds are safe, and the next one is at hand
abbrev pub invariant-loop-done : goal.invariant-loop-done
invariant-loop-done l = record {
  keeps : Keeps l.fn.encoder l.encoder;
  known : AreKnown l.machine l.claims l.known.items;
  own : l.rounds.spec ≡ l.machine.base.spec;
  round : (x : Instance) → IsEvent l.machine.base.spec x l.start → IsTrue (is_external l.machine.base.spec x) → IsRound l.rounds x (l.done + 1);
  safe : (x : Instance) → IsEvent l.machine.base.spec x l.start → IsTrue (is_external l.machine.base.spec x)
      → (n : ℕ) → n < l.done + 1 → AllSafe l.machine l.claims (MayBe l.machine.base.spec x n);
}
