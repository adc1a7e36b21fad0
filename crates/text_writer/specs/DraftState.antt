-- A text in memory, as contracts see it.
use Rattle.std.specs.Prelude.{ℕ, Bool, true, List, [], if◌then◌else◌}
use Rattle.text_writer.specs.Writes.{WriterState}

pub record DraftState : Type 0 where
  -- the bytes written so far
  pub text : List ℕ
  -- nothing was refused so far
  pub whole : Bool

-- nothing was written yet
abbrev pub empty : DraftState
empty = record { text = []; whole = true }

-- the first refusal is counted
abbrev pub writer_state : DraftState → WriterState
writer_state draft = record { whole = draft.whole; refusals = if draft.whole then 0 else 1; target = 0 }
