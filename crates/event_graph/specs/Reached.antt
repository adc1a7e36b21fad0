-- Events that others reach, and those that loop.
use Rattle.std.specs.Prelude.{◌≡◌, ℕ, ◌<◌, Bool, true, List, ◌∷◌, length, filter, IsTrue, ◌↔◌, ◌⊎◌}
use Rattle.std.specs.List.{range_with_len}
use Rattle.event_graph.specs.declared.events.Events.{Events}
use Rattle.event_graph.specs.Sets.{has_at}
use Rattle.event_graph.specs.Graphs.{Graph, leads, starts}
use Rattle.event_graph.specs.Chains.{linked, ends_with, Loops}

-- some chain of two events or more begins with the first event and ends with the second
abbrev pub LeadsOn : Graph → ℕ → ℕ → Type 0
LeadsOn g a b = (es : List ℕ) × (linked g (a ∷ es) ≡ true) × (ends_with b es ≡ true)

-- The set of an event is of those that it leads on to.
pub record AreReached (g : Graph) (sets : List Events) : Type 0 where
  pub long : length sets ≡ g.count
  pub only : (a b : ℕ) → has_at sets a b ≡ true → LeadsOn g a b
  pub all : (a b : ℕ) → LeadsOn g a b → has_at sets a b ≡ true

-- The same, of chains that between their ends have events below n alone.
pub record AreReachedThrough (g : Graph) (n : ℕ) (sets : List Events) : Type 0 where
  pub long : length sets ≡ g.count
  pub only : (a b : ℕ) → has_at sets a b ≡ true → LeadsOn g a b
  pub direct : (a b : ℕ) → leads g a b ≡ true → has_at sets a b ≡ true
  pub through : (a m b : ℕ) → m < n → has_at sets a m ≡ true → has_at sets m b ≡ true → has_at sets a b ≡ true

-- some start is the event, or its set has it
abbrev pub IsBegun : Graph → List Events → ℕ → Type 0
IsBegun g sets e = (x : ℕ) × (starts g x ≡ true) × ((x ≡ e) ⊎ (has_at sets x e ≡ true))

-- The events that loop, rising.
pub record AreLoops (g : Graph) (loops : List ℕ) : Type 0 where
  pub looping : ℕ → Bool
  pub right : (e : ℕ) → IsTrue (looping e) ↔ Loops g e
  pub are : loops ≡ filter looping (range_with_len 0 g.count)
