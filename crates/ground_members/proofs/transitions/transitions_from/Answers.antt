use Rattle.rsml_meaning.specs.Instances.{globals_of}
use Rattle.ground_members.specs.Scoped.{TransitionIsScoped}
use Rattle.ground_members.specs.Written.{made_by}
use Rattle.ground_members.proofs.Likeness.{written_turn}
use Rattle.ground_members.proofs.Lists.{each_of_flat}
use Rattle.ground_members.proofs.Staying.{keeps_both}
use Rattle.ground_members.proofs.transitions.transitions_from.Goals as goal

pub add_transitions-requires-clause-scoped : goal.add_transitions-requires-clause-scoped
add_transitions-requires-clause-scoped c =
    each_of_flat (TransitionIsScoped c.args.lookup.now) (made_by (globals_of c.args.lookup.now)) c.args.written.now c.loop-one.one-index c.one-item.result c.requires.scoped c.loop-one-test.true c.one-item.is

pub returns-in_err-add_transitions-clause-kept : goal.returns-in_err-add_transitions-clause-kept
returns-in_err-add_transitions-clause-kept c = keeps_both c.args.phrases.now c.loop-one.phrases c.add_transitions.new.phrases c.loop-one.invariant.keeps c.add_transitions.ensures.kept

pub loop-one-preserved : goal.loop-one-preserved
loop-one-preserved c =
    written_turn c.args.lookup.now c.args.definitions.now c.args.written.now c.args.phrases.now c.loop-one.phrases c.add_transitions.new.phrases c.loop-one.one-index c.one-item.result
    c.loop-one.transitions.items c.add_transitions.new.transitions.items c.loop-one.invariant c.loop-one-test.true c.one-item.is c.add_transitions.ensures.after c.add_transitions.ensures.kept c.in_ok-add_transitions.ensures.are
