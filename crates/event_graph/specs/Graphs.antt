-- Graphs of events.
use Rattle.std.specs.Prelude.{◌≡◌, ℕ, ◌<◌, ◌≤◌, Bool, true, false, List, length}
use Rattle.event_graph.specs.declared.events.Events.{Events}
use Rattle.event_graph.specs.Sets.{has, has_at}

-- Events are the numbers below the count. For each there is the set of those that it leads to, and the set of those that meet it;
-- some begin chains.
pub record Graph : Type 0 where
  pub count : ℕ
  pub ways : List Events
  pub begun : Events
  pub pairs : List Events

-- the first event leads to the second
abbrev pub leads : Graph → ℕ → ℕ → Bool
leads g a b = has_at g.ways a b

-- the event begins chains
abbrev pub starts : Graph → ℕ → Bool
starts g e = has g.begun e

-- the two events meet
abbrev pub meets : Graph → ℕ → ℕ → Bool
meets g a b = has_at g.pairs a b

-- There are so many events, and nothing is told of them.
pub record IsBare (g : Graph) (n : ℕ) : Type 0 where
  pub counted : g.count ≡ n
  pub none_leads : (a b : ℕ) → leads g a b ≡ false
  pub none_starts : (e : ℕ) → starts g e ≡ false
  pub none_meet : (a b : ℕ) → meets g a b ≡ false

-- There is a set for each event, and each has events alone.
pub record AreRows (count : ℕ) (rows : List Events) : Type 0 where
  pub long : length rows ≡ count
  pub within : (a b : ℕ) → has_at rows a b ≡ true → b < count

-- At most 1,024 events, and what is told is of them.
pub record IsGraph (g : Graph) : Type 0 where
  pub few : g.count ≤ 1024
  pub rows : AreRows g.count g.ways
  pub marks : AreRows g.count g.pairs
  pub begin : (e : ℕ) → starts g e ≡ true → e < g.count
