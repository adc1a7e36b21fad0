use Rattle.demonstrating.proofs.EventText.{demo_events_are_well_formed}
use Rattle.demonstrating.proofs.laws.demo_events_are_well_formed.Goals as goal

pub returns : goal.returns
returns c = demo_events_are_well_formed
