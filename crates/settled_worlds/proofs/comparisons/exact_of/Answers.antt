use Rattle.settled_worlds.proofs.ExactLemmas.{exact_more, of_key}
use Rattle.settled_worlds.proofs.comparisons.exact_of.Goals as goal

pub returns-clause-exact : goal.returns-clause-exact
returns-clause-exact c = exact_more c.args.arena.now c.truth_of.new.arena c.args.levels.now c.args.exact.now c.set.new.self c.args.place c.in_ok-made.made
    c.truth_of.ensures.keeps c.requires.exact
    (of_key c.truth_of.new.arena c.args.levels.now c.args.place c.key-phrase.result c.in_ok-made.made c.key-phrase.ensures.is c.in_ok-made.ensures.answer)
    c.set.ensures
