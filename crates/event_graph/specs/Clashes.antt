-- First clashes, and all answers on the chains of a graph.
use Rattle.std.specs.Prelude.{◌≡◌, ℕ, ◌≤◌, true, false, List, [], ◌∷◌, length, flat_map, Option, Some, None, slice_get, unwrap_or}
use Rattle.event_graph.specs.declared.clash.Clash.{Clash}
use Rattle.event_graph.specs.Graphs.{Graph, starts}
use Rattle.event_graph.specs.Chains.{HasLength, IsClash}
use Rattle.event_graph.specs.Ended.{AreLengths}
use Rattle.event_graph.specs.Reached.{AreLoops}

-- The clash of the least round, then of the least first, then of the least second event.
pub record IsFirstClash (g : Graph) (x : ℕ) (c : Clash) : Type 0 where
  pub of_start : c.start ≡ x
  pub clash : IsClash g x c.round c.one c.two
  pub least_round : (n e f : ℕ) → IsClash g x n e f → c.round ≤ n
  pub least_one : (e f : ℕ) → IsClash g x c.round e f → c.one ≤ e
  pub least_two : (f : ℕ) → IsClash g x c.round c.one f → c.two ≤ f

-- an event that has a length shows its first clash
abbrev pub IsClashAnswer : Graph → ℕ → Option Clash → Type 0
IsClashAnswer g x None = HasLength g x → (n e f : ℕ) → IsClash g x n e f → ⊥
IsClashAnswer g x (Some c) = HasLength g x × IsFirstClash g x c

-- the clash at a place
abbrev pub clash_at : List (Option Clash) → ℕ → Option Clash
clash_at clashes place = unwrap_or (slice_get clashes place) None

-- each event that begins chains has its first clash, and each other has none
pub record AreClashes (g : Graph) (clashes : List (Option Clash)) : Type 0 where
  pub long : length clashes ≡ g.count
  pub right : (x : ℕ) → starts g x ≡ true → IsClashAnswer g x (clash_at clashes x)
  pub other : (x : ℕ) → starts g x ≡ false → clash_at clashes x ≡ None

-- a list of the clash, if there is one
abbrev pub if_any : Option Clash → List Clash
if_any None = []
if_any (Some c) = c ∷ []

-- The first clashes that there are, in the order of the events that begin their chains.
pub record AreAllClashes (g : Graph) (clashes : List Clash) : Type 0 where
  pub firsts : List (Option Clash)
  pub right : AreClashes g firsts
  pub are : clashes ≡ flat_map if_any firsts

-- Lengths, loops and clashes are those of the graph.
pub record AreAnswers (g : Graph) (lengths : List (Option ℕ)) (loops : List ℕ) (firsts : List (Option Clash)) (clashes : List Clash) : Type 0 where
  pub of_chains : AreLengths g lengths
  pub of_loops : AreLoops g loops
  pub of_starts : AreClashes g firsts
  pub of_clashes : clashes ≡ flat_map if_any firsts
