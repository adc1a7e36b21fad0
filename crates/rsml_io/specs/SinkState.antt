-- A sink in memory, as contracts see it.
use Rattle.std.specs.Prelude.{◌≢◌, ℕ, ◌-◌, ◌≤◌, ◌⊎◌, List, [], Contains, length, min}
use Rattle.rsml_io.specs.Counts.{counted}

pub record SinkState : Type 0 where
  -- the bytes written so far
  pub bytes : List ℕ
  -- the most bytes that it takes
  pub room : ℕ
  -- how many writes there were, up to the greatest number
  pub calls : ℕ
  -- the numbers of the writes that are to fail, counted from 1
  pub failing : List ℕ
  -- how many writes were refused, up to the greatest number
  pub faults : ℕ

-- a sink with nothing in it, of which no write is to fail
abbrev pub empty : ℕ → SinkState
empty room = record { bytes = []; room = room; calls = 0; failing = []; faults = 0 }

-- the next write, of these bytes, is refused: there are some, and it is to fail or no room is left
abbrev pub Refuses : SinkState → List ℕ → Type 0
Refuses sink bytes =
    (bytes ≢ []) × (Contains sink.failing (counted sink.calls) ⊎ (sink.room ≤ length sink.bytes))

-- how many of so many bytes there is room for
abbrev pub fitting : SinkState → ℕ → ℕ
fitting sink n = min n (sink.room - length sink.bytes)
