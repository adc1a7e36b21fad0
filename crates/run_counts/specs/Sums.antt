-- Counts of more rounds, and of more reactions.
use Rattle.std.specs.Prelude.{◌+◌, List, length, filter}
use Rattle.rsml_meaning.specs.Steps.{Round}
use Rattle.rsml_meaning.specs.Runs.{Reaction, rounds_in}
use Rattle.run_counts.specs.declared.counts.Counts.{Counts}
use Rattle.run_counts.specs.Counts.{taken_in, takes_in, is_move}

-- the counts after these rounds
abbrev pub with_rounds : Counts → List Round → Counts
with_rounds c rounds = record {
  events = c.events;
  rounds = c.rounds + length rounds;
  takes = c.takes + length (taken_in rounds);
  moves = c.moves + length (filter is_move (taken_in rounds));
}

-- the counts after these reactions
abbrev pub with_reactions : Counts → List Reaction → Counts
with_reactions c rs = record {
  events = c.events + length rs;
  rounds = c.rounds + length (rounds_in rs);
  takes = c.takes + length (takes_in rs);
  moves = c.moves + length (filter is_move (takes_in rs));
}
