-- Sets of events as bits, 64 to a word, and a set for each event.
use Rattle.std.specs.Prelude.{ℕ, ◌/◌, ◌%◌, Bool, false, ◌==◌, List, slice_index, slice_get, Some, None}
use Rattle.std.specs.Int.{bit_at}
use Rattle.event_graph.specs.declared.events.Events.{Events}

-- whether an event is in the set
unfoldable pub has : Events → ℕ → Bool
has s e = bit_at (slice_index s.words (e / 64)) (e % 64) == 1

-- whether the second event is in the set of the first
unfoldable pub has_at : List Events → ℕ → ℕ → Bool
has_at sets a b = elim (slice_get sets a) [ Some set ↦ has set b | None ↦ false ]
