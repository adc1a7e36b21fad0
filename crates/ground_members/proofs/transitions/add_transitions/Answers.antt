use Rattle.std.proofs.lemmas.Result.{on_ok_weaker}
use Rattle.ground_members.proofs.Likeness.{all_added, none_of_all, scoped_sources, sources_there}
use Rattle.ground_members.proofs.transitions.add_transitions.Goals as goal

pub returns-in_default-clause-are : goal.returns-in_default-clause-are
returns-in_default-clause-are c = none_of_all c.args.phrases.now c.args.lookup.now c.args.written.now c.args.transitions.now.items c.in_default.ensures.cases

pub add_alike-requires : goal.add_alike-requires
add_alike-requires c =
    let s = c.args.lookup.now in
    let w = c.args.written.now in
    let r = scoped_sources s w c.in-Some.source.now c.in-Some.others.now c.in-Some.ensures.cases.0 c.requires.scoped in
    sources_there s w c.in-Some.others.now c.requires.placed r.1

pub returns-clause-are : goal.returns-clause-are
returns-clause-are c =
    on_ok_weaker c.add_alike.result
    (all_added c.transition.new.phrases c.args.lookup.now c.args.written.now c.in-Some.source.now c.in-Some.others.now c.in_ok-first.first c.args.transitions.now.items c.add_alike.new.transitions.items
    c.requires.placed c.in-Some.ensures.cases.0 c.in_ok-first.ensures.is) c.add_alike.ensures
