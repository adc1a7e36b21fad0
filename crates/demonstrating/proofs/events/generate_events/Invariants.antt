use Rattle.std.proofs.Common.{◌≡◌, map}
use Rattle.std.specs.String.{string_bytes}
use Rattle.rsml_syntax.specs.rules.Globals.{up_to}
use Rattle.demonstrating.specs.Events.{event_line, whole}
use Rattle.demonstrating.proofs.events.generate_events.Given as goal

abbrev pub invariant-loop-turn : goal.invariant-loop-turn
invariant-loop-turn l = string_bytes l.text ≡ whole (map (event_line l.fn.units) (up_to l.turn))
