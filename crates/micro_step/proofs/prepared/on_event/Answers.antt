use Rattle.micro_step.proofs.prepared.on_event.Goals as goal

pub returns : goal.returns
returns c = record { transitions = c.in_ok-transitions.ensures; cases = c.in_ok-cases.ensures; states = c.in_ok-states.ensures }
