use Rattle.std.proofs.Common.{◌≡◌, take}
use Rattle.ground_groups.specs.declared.group.Member.TheVariants as members
use Rattle.micro_step.specs.Rows.{bits_of, member_rows}
use Rattle.coverage.proofs.LoopLemmas.{SoFar}
use Rattle.coverage.proofs.rounds.count_sent.Given as goal

abbrev pub invariant-loop-place : goal.invariant-loop-place
invariant-loop-place l =
    let m = l.fn.simulator in
    (l.simulator ≡ m) × SoFar (take l.place m.last.sent) (λ k. bits_of (member_rows m.spec m.last.world (members.SendCase k))) l.fn.counters l.counters
