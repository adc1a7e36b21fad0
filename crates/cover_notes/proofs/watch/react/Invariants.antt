use Rattle.rsml_meaning.specs.Worlds.{IsWorld}
use Rattle.micro_step.specs.Micros.{AreEvents}
use Rattle.micro_step.specs.Numbers.{IsFor}
use Rattle.cover_notes.proofs.watch.react.Given as goal

abbrev pub invariant-loop-turn : goal.invariant-loop-turn
invariant-loop-turn l = record {
  world : IsWorld l.machine.base.spec l.world;
  made : IsFor l.machine l.scratch;
  events : AreEvents l.machine.base.spec l.present;
}
