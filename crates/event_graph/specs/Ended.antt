-- Lengths, found round by round: an event has ended after a round where no chain from it has more events than there were rounds.
use Rattle.std.specs.Prelude.{◌≡◌, ℕ, ◌<◌, ◌≤◌, true, false, List, ◌∷◌, length, Option, Some, None, slice_get, unwrap_or}
use Rattle.event_graph.specs.declared.events.Events.{Events}
use Rattle.event_graph.specs.Sets.{has}
use Rattle.event_graph.specs.Graphs.{Graph}
use Rattle.event_graph.specs.Chains.{linked, IsLength, IsLengthAnswer}

-- the length at a place
abbrev pub length_at : List (Option ℕ) → ℕ → Option ℕ
length_at lengths place = unwrap_or (slice_get lengths place) None

-- each event has its length
pub record AreLengths (g : Graph) (lengths : List (Option ℕ)) : Type 0 where
  pub long : length lengths ≡ g.count
  pub right : (e : ℕ) → e < g.count → IsLengthAnswer g e (length_at lengths e)

-- a chain goes on for n events more
abbrev pub GoesOn : Graph → ℕ → ℕ → Type 0
GoesOn g e n = (es : List ℕ) × (linked g (e ∷ es) ≡ true) × (length es ≡ n)

-- the event's length is known, and not above n
abbrev pub IsKnown : Graph → List (Option ℕ) → ℕ → ℕ → Type 0
IsKnown g lengths e n = (m : ℕ) × (length_at lengths e ≡ Some m) × IsLength g e m × (m ≤ n)

-- After n rounds the events of the set have a length, and chains from the others go on.
pub record AreEnded (g : Graph) (n : ℕ) (set : Events) (lengths : List (Option ℕ)) : Type 0 where
  pub long : length lengths ≡ g.count
  pub known : (e : ℕ) → e < g.count → has set e ≡ true → IsKnown g lengths e n
  pub unknown : (e : ℕ) → e < g.count → has set e ≡ false → (length_at lengths e ≡ None) × GoesOn g e n
