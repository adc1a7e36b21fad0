-- Chains of events, their lengths, loops and clashes.
use Rattle.std.specs.Prelude.{◌≡◌, ℕ, ◌≤◌, ◌==◌, Bool, true, false, not, ◌&&◌, List, [], ◌∷◌, length, IsTrue, filter, Option, Some, None}
use Rattle.event_graph.specs.Graphs.{Graph, leads, starts, meets}

-- each event leads to the next
abbrev pub linked : Graph → List ℕ → Bool
linked g [] = true
linked g (e ∷ []) = true
linked g (e ∷ f ∷ es) = leads g e f && linked g (f ∷ es)

-- the first event of the list is this one
abbrev pub begins_with : ℕ → List ℕ → Bool
begins_with x [] = false
begins_with x (e ∷ es) = x == e

-- the last event of the list is this one
abbrev pub ends_with : ℕ → List ℕ → Bool
ends_with x [] = false
ends_with x (e ∷ []) = x == e
ends_with x (e ∷ f ∷ es) = ends_with x (f ∷ es)

-- a chain that begins with this event
abbrev pub IsChainFrom : Graph → ℕ → List ℕ → Type 0
IsChainFrom g x es = IsTrue (linked g es && begins_with x es)

-- The longest chain from the event has n events: some has, and none has more.
pub record IsLength (g : Graph) (x : ℕ) (n : ℕ) : Type 0 where
  pub reached : (es : List ℕ) × IsChainFrom g x es × (length es ≡ n)
  pub most : (es : List ℕ) → IsChainFrom g x es → length es ≤ n

-- some number is the length of the event
abbrev pub HasLength : Graph → ℕ → Type 0
HasLength g x = (n : ℕ) × IsLength g x n

-- how often an event stands in a list
abbrev pub times_in : List ℕ → ℕ → ℕ
times_in es e = length (filter (λ f. e == f) es)

-- an event stands twice in a list
abbrev pub IsTwiceIn : List ℕ → ℕ → Type 0
IsTwiceIn es e = 2 ≤ times_in es e

-- the event has no length: some chain from it has an event twice
abbrev pub Endless : Graph → ℕ → Type 0
Endless g x = (es : List ℕ) × (e : ℕ) × IsChainFrom g x es × IsTwiceIn es e

-- the length of the longest chain from the event; none where some chain from it has an event twice
abbrev pub IsLengthAnswer : Graph → ℕ → Option ℕ → Type 0
IsLengthAnswer g x None = Endless g x
IsLengthAnswer g x (Some n) = IsLength g x n

-- some chain that begins with a start has the event twice
abbrev pub Loops : Graph → ℕ → Type 0
Loops g e = (x : ℕ) × IsTrue (starts g x) × ((es : List ℕ) × IsChainFrom g x es × IsTwiceIn es e)

-- the last event ends a chain of n events from the first
abbrev pub Ends : Graph → ℕ → ℕ → ℕ → Type 0
Ends g x n e = (es : List ℕ) × IsChainFrom g x es × (length es ≡ n) × IsTrue (ends_with e es)

-- Two different events that end chains of n events from the same one, and that meet.
pub record IsClash (g : Graph) (x : ℕ) (n : ℕ) (e f : ℕ) : Type 0 where
  pub differ : IsTrue (not (e == f))
  pub one : Ends g x n e
  pub two : Ends g x n f
  pub together : IsTrue (meets g e f)
