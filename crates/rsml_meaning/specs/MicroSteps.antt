-- What a micro-step comes to, and when it is one.
use Rattle.std.specs.Prelude.{◌≡◌, ℕ, suc, Bool, false, ◌&&◌, List, [], ◌∷◌, length, filter, ℤ, IsTrue, ⊤}
use Rattle.std.specs.List.{list_any}
use Rattle.rsml_syntax.specs.declared.syntax.Spec.{Spec}
use Rattle.rsml_syntax.specs.declared.world.World.{World}
use Rattle.rsml_meaning.specs.Words.{Instance, same_instance, has, on_one_line, Each, IsOne}
use Rattle.rsml_meaning.specs.Truth.{view, Gives}
use Rattle.rsml_meaning.specs.Transitions.{TransitionInstance}
use Rattle.rsml_meaning.specs.Interfaces.{send_cases, sends, FunctionInstance, functions}
use Rattle.rsml_meaning.specs.Groups.{function, enabled_count}
use Rattle.rsml_meaning.specs.Chains.{Ends}
use Rattle.rsml_meaning.specs.Steps.{Sent, Micro, enabled_transitions, enabled_sends}

-- What a micro-step comes to: the taken transitions, the send cases with their values, the world and the events that it
-- leaves.
pub record Result : Type 0 where
  pub taken : List TransitionInstance
  pub sent : List Sent
  pub world : World
  pub raised : List Instance

-- a micro-step on the present events comes to this
abbrev pub IsResult : Spec → World → List Instance → Result → Type 0
IsResult s w present r = Micro s w present r.taken r.sent r.world r.raised

-- a micro-step on the present events comes to one thing
abbrev pub HasOneResult : Spec → World → List Instance → Type 0
HasOneResult s w present = (r : Result) × IsResult s w present r × ((q : Result) → IsResult s w present q → q ≡ r)

-- no two of the transitions have their sources on one line
abbrev pub NoTwoOnALine : List TransitionInstance → Type 0
NoTwoOnALine [] = ⊤
NoTwoOnALine (t ∷ ts) = Each (λ u. on_one_line t.source u.source ≡ false) ts × NoTwoOnALine ts

-- each function has at most one value
abbrev pub FunctionsHaveOneValue : Spec → World → Type 0
FunctionsHaveOneValue s w = (f : FunctionInstance) → IsOne f (functions s) → (m n : ℤ) → Gives (view s w) f.function m → Gives (view s w) f.function n → m ≡ n

-- the send instance has a case on a present event
abbrev pub is_asked : Spec → List Instance → Instance → Bool
is_asked s present send = list_any (λ c. same_instance c.send send && has present c.event) (send_cases s)

-- how many cases of the send instance are enabled on the present events
abbrev pub enabled_cases : Spec → World → List Instance → Instance → ℕ
enabled_cases s w present send = length (filter (λ c. same_instance c.send send) (enabled_sends s (view s w) present))

-- What is known of a round from a world: no two taken sources lie on one line, a send instance that is asked has one
-- enabled case, a function has one true case, there is one result, and the events that it leaves end longer chains.
pub record IsDeterminate (s : Spec) (w : World) (x : Instance) (n : ℕ) (present : List Instance) : Type 0 where
  pub apart : NoTwoOnALine (enabled_transitions s (view s w) present)
  pub sends : (c : Instance) → IsOne c (sends s) → IsTrue (is_asked s present c) → enabled_cases s w present c ≡ 1
  pub functions : (f : FunctionInstance) → IsOne f (functions s) → enabled_count s (function f) (view s w) ≡ 1
  pub result : HasOneResult s w present
  pub longer : (r : Result) → IsResult s w present r → Each (Ends s x (suc n)) r.raised
