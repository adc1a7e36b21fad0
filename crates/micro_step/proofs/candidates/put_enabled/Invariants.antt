use Rattle.std.proofs.Common.{◌≡◌, ◌==◌, ◌||◌, ◌&&◌, ℕ, take}
use Rattle.std.specs.List.{list_any}
use Rattle.macros.specs.Known.{Knows}
use Rattle.micro_step.specs.Candidates.{KnowsGuards, is_met}
use Rattle.micro_step.specs.Rising.{AreRising, among}
use Rattle.micro_step.proofs.candidates.put_enabled.Given as goal

abbrev pub invariant-loop-candidate : goal.invariant-loop-candidate
invariant-loop-candidate l = record {
  bound : l.found.below ≡ l.fn.found.below;
  rising : AreRising l.found.items;
  knows : Knows l.machine.base l.world l.memo;
  guards : KnowsGuards l.machine l.world l.guards;
  so_far : (q : ℕ) → among l.found.items q ≡ (among l.fn.found.items q || list_any (λ c. c.number == q && is_met l.machine l.world c) (take l.candidate-index l.candidates));
}
