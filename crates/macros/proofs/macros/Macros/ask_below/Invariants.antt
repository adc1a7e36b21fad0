use Rattle.macros.specs.Known.{AreKnown, Knows, StillKnown}
use Rattle.macros.proofs.macros.Macros.ask_below.Given as goal

abbrev pub invariant-loop-number : goal.invariant-loop-number
invariant-loop-number l = record {
  knows : Knows l.self l.world l.memo;
  kept : StillKnown l.fn.memo l.memo;
  learned : AreKnown l.memo l.number;
}
