use Rattle.std.proofs.Common.{◌≡◌, ℕ, map, ap, ◌∙◌, arith}
use Rattle.rsml_syntax.specs.rules.Globals.{up_to}
use Rattle.demonstrating.specs.Events.{event_line, whole}
use Rattle.demonstrating.proofs.events.generate_events.Goals as goal

pub returns : goal.returns
returns c =
    let all : c.loop-turn.turn ≡ 1000 = omega arith in
    c.loop-turn.invariant ∙ ap (λ (k : ℕ). whole (map (event_line c.args.units) (up_to k))) all
