use Rattle.std.specs.Prelude.{string_bytes}
use Rattle.demonstrating.proofs.DemoLemmas.{events_answered}
use Rattle.demonstrating.proofs.demonstrating.events_for.Goals as goal

pub returns : goal.returns
returns c = events_answered c.args.units (λ made. string_bytes made) c.generate_events.result c.generate_events.ensures
