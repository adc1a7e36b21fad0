use Rattle.std.proofs.lemmas.Option.{slice_get_within}
use Rattle.rsml_meaning.specs.Interfaces.{receives}
use Rattle.text_writer.proofs.WritingLemmas.{followed}
use Rattle.reactions.proofs.RaisedLemmas.{raised_external}
use Rattle.simulator.proofs.reacting.put_reaction.Goals as goal

pub put_event-requires : goal.put_event-requires
put_event-requires g c = slice_get_within (receives c.args.course.now.spec) c.args.receive c.requires.0 c.requires.1

pub put_rounds-requires : goal.put_rounds-requires
put_rounds-requires g c = (c.requires.0.raised, raised_external c.args.course.now.spec c.args.receive c.requires.0 c.requires.1, c.requires.2)

pub returns-clause-written : goal.returns-clause-written
returns-clause-written g c x at =
    let step = c.put_rounds.ensures.step in
    record { rounds = step.rounds; is = step.is; writes = followed (c.put_event.ensures x at) step.writes }
