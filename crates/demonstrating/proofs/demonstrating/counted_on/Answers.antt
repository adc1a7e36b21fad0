use Rattle.demonstrating.proofs.DemoLemmas.{certified_plant, events_formed, counts_answered}
use Rattle.demonstrating.proofs.demonstrating.counted_on.Goals as goal

pub count_run-requires-clause-machine : goal.count_run-requires-clause-machine
count_run-requires-clause-machine c = c.requires.machine

pub count_run-requires-clause-certified : goal.count_run-requires-clause-certified
count_run-requires-clause-certified c = certified_plant c.args.units c.args.checked.now c.requires.plant

pub count_run-requires-clause-formed : goal.count_run-requires-clause-formed
count_run-requires-clause-formed c =
    events_formed c.demo_events_are_well_formed.ensures c.args.units c.requires.some c.requires.few c.args.checked.now c.args.events.now c.requires.plant c.requires.events

pub returns : goal.returns
returns c = counts_answered c.args.units c.args.checked.now c.args.events.now c.count_run.result c.requires.plant c.requires.events c.count_run.ensures
