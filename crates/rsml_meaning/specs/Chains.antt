-- Chains of events, their lengths, loops and clashes.
use Rattle.std.specs.Prelude.{◌≡◌, ℕ, ◌≤◌, Bool, true, false, not, ◌&&◌, ◌||◌, List, [], ◌∷◌, length, IsTrue, filter}
use Rattle.std.specs.List.{list_any}
use Rattle.rsml_syntax.specs.declared.syntax.Spec.{Spec}
use Rattle.rsml_meaning.specs.Words.{Instance, same_instance, has, on_one_line}
use Rattle.rsml_meaning.specs.Transitions.{transitions, is_on}
use Rattle.rsml_meaning.specs.Interfaces.{receives, send_cases, is_case}

-- an external event: some receive instance raises it
abbrev pub is_external : Spec → Instance → Bool
is_external s e = list_any (λ r. same_instance r.raised e) (receives s)

-- some transition on the first event raises the second
abbrev pub leads : Spec → Instance → Instance → Bool
leads s e f = list_any (λ t. is_on e t && has t.raises f) (transitions s)

-- each event is raised by some transition on the one before
abbrev pub linked : Spec → List Instance → Bool
linked s [] = true
linked s (e ∷ []) = true
linked s (e ∷ f ∷ es) = leads s e f && linked s (f ∷ es)

-- it begins with an external event, and each further one is raised by some transition on the one before
abbrev pub is_chain : Spec → List Instance → Bool
is_chain s [] = false
is_chain s (e ∷ es) = is_external s e && linked s (e ∷ es)

-- the first event of the list is this one
abbrev pub begins_with : Instance → List Instance → Bool
begins_with x [] = false
begins_with x (e ∷ es) = same_instance x e

-- the last event of the list is this one
abbrev pub ends_with : Instance → List Instance → Bool
ends_with x [] = false
ends_with x (e ∷ []) = same_instance x e
ends_with x (e ∷ f ∷ es) = ends_with x (f ∷ es)

-- a chain that begins with this event
abbrev pub IsChainFrom : Spec → Instance → List Instance → Type 0
IsChainFrom s x es = IsTrue (is_chain s es && begins_with x es)

-- The longest chain from the event has n events: some has, and none has more.
pub record IsLength (s : Spec) (x : Instance) (n : ℕ) : Type 0 where
  pub reached : (es : List Instance) × IsChainFrom s x es × (length es ≡ n)
  pub most : (es : List Instance) → IsChainFrom s x es → length es ≤ n

-- some number is the length of the event
abbrev pub HasLength : Spec → Instance → Type 0
HasLength s x = (n : ℕ) × IsLength s x n

-- an event stands twice in a list
abbrev pub IsTwiceIn : List Instance → Instance → Type 0
IsTwiceIn es e = 2 ≤ length (filter (same_instance e) es)

-- the event has no length: some chain from it has an event twice
abbrev pub Endless : Spec → Instance → Type 0
Endless s x = (es : List Instance) × (e : Instance) × IsChainFrom s x es × IsTwiceIn es e

-- some chain has the event twice
abbrev pub Loops : Spec → Instance → Type 0
Loops s e = (es : List Instance) × IsTrue (is_chain s es) × IsTwiceIn es e

-- the last event ends a chain of n events from the first
abbrev pub Ends : Spec → Instance → ℕ → Instance → Type 0
Ends s x n e = (es : List Instance) × IsChainFrom s x es × (length es ≡ n) × IsTrue (ends_with e es)

-- sources of transitions on the two events lie on one line
abbrev pub meet_on_a_line : Spec → Instance → Instance → Bool
meet_on_a_line s e f = list_any (λ t. is_on e t && list_any (λ u. is_on f u && on_one_line t.source u.source) (transitions s)) (transitions s)

-- one send instance has cases on both events
abbrev pub meet_in_a_send : Spec → Instance → Instance → Bool
meet_in_a_send s e f = list_any (λ c. same_instance c.event e && list_any (is_case c.send f) (send_cases s)) (send_cases s)

-- Two different events that can be present together in round n after an external one, and that meet.
pub record Clash (s : Spec) (x : Instance) (n : ℕ) (e f : Instance) : Type 0 where
  pub differ : IsTrue (not (same_instance e f))
  pub one : Ends s x n e
  pub two : Ends s x n f
  pub together : IsTrue (meet_on_a_line s e f || meet_in_a_send s e f)
