-- How many events, rounds, takes and moves a run has.
use Rattle.std.specs.Prelude.{◌≡◌, Bool, List, length, is_some, filter, flat_map}
use Rattle.rsml_syntax.specs.declared.syntax.Spec.{Spec}
use Rattle.rsml_meaning.specs.EventLines.{Bytes}
use Rattle.rsml_meaning.specs.EventFiles.{lines_of}
use Rattle.rsml_meaning.specs.Transitions.{TransitionInstance}
use Rattle.rsml_meaning.specs.Steps.{Round}
use Rattle.rsml_meaning.specs.Runs.{Reaction, IsRun, rounds_in}
use Rattle.run_counts.specs.declared.counts.Counts.{Counts}

-- the transitions that rounds took
abbrev pub taken_in : List Round → List TransitionInstance
taken_in rounds = flat_map (λ r. r.taken) rounds

-- the transitions that all rounds took
abbrev pub takes_in : List Reaction → List TransitionInstance
takes_in rs = taken_in (rounds_in rs)

-- a move; a stay has no target
abbrev pub is_move : TransitionInstance → Bool
is_move t = is_some t.target

-- what is counted of a run
abbrev pub counts_of : List Reaction → Counts
counts_of rs = record {
  events = length rs;
  rounds = length (rounds_in rs);
  takes = length (takes_in rs);
  moves = length (filter is_move (takes_in rs));
}

-- The lines of an event file have a run of which this is counted.
pub record HasCounts (s : Spec) (content : Bytes) (c : Counts) : Type 0 where
  pub run : List Reaction
  pub is_run : IsRun s (lines_of content) run
  pub counted : c ≡ counts_of run
