-- A sink over a writer of the system, as contracts see it.
use Rattle.std.specs.Prelude.{ℕ, List, Option, None}

pub record SystemSink (W : Type 0) : Type 0 where
  -- the writer
  pub out : W
  -- how many writes were refused, up to the greatest number
  pub faults : ℕ

-- what was written is not told
abbrev pub written : {W : Type 0} → SystemSink W → Option (List ℕ)
written _ = None
