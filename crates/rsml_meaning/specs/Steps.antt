-- Micro-steps, and steps: micro-steps in series until no event is present.
use Rattle.std.specs.Prelude.{◌≡◌, ℕ, ◌&&◌, List, [], ◌∷◌, map, Option, Some, None, ℤ, ◌≢◌, filter, filter_map}
use Rattle.std.specs.List.{list_any, AllZip}
use Rattle.rsml_syntax.specs.declared.syntax.Spec.{Spec}
use Rattle.rsml_syntax.specs.declared.world.World.{World}
use Rattle.rsml_syntax.specs.declared.syntax.Value.{Value}
use Rattle.rsml_syntax.specs.declared.syntax.Value.TheVariants as values
use Rattle.rsml_syntax.specs.declared.syntax.Answer.{Answer}
use Rattle.rsml_syntax.specs.declared.syntax.Answer.TheVariants as answers
use Rattle.rsml_syntax.specs.limits.Comparisons.{Indices}
use Rattle.rsml_meaning.specs.Words.{Instance, has, Each, IsOne, AllThree}
use Rattle.rsml_meaning.specs.Instances.{Component, components, events}
use Rattle.rsml_meaning.specs.Active.{given}
use Rattle.rsml_meaning.specs.Truth.{View, view, within, sum, instance, Gives}
use Rattle.rsml_meaning.specs.Transitions.{TransitionInstance, transitions, is_enabled}
use Rattle.rsml_meaning.specs.Interfaces.{SendCaseInstance, send_cases, is_sending}

-- the place of the child that a transition gives a component; none for a stay, and for a component not at or below the moving one
abbrev pub given_by : Component → TransitionInstance → Option ℕ
given_by c t = elim t.target [ None ↦ None | Some target ↦ given t.component target c ]

-- these, or the old one where there are none
abbrev pub or_kept : ℕ → List ℕ → List ℕ
or_kept n [] = n ∷ []
or_kept n (m ∷ ms) = m ∷ ms

-- the places that a component may have after the transitions: those that some move gives, or the old one where none gives any
abbrev pub outcomes : List TransitionInstance → Component → ℕ → List ℕ
outcomes taken c n = or_kept n (filter_map (given_by c) taken)

-- A send case that is enabled, with a value for each field; no values where it is quiet.
pub record Sent : Type 0 where
  pub send_case : SendCaseInstance
  pub values : List ℤ

-- a number is the value of what is sent: of a sum, or one that a function gives
abbrev pub IsValue : View → Indices → Value → ℤ → Type 0
IsValue v r (values.Sum x) n = n ≡ sum v r x
IsValue v r (values.Function f) n = Gives v (instance v.names r f) n

-- the numbers are the values of an answer, one for each; none where it is quiet
abbrev pub AreValues : View → Indices → Answer → List ℤ → Type 0
AreValues v r answers.Quiet ns = ns ≡ []
AreValues v r (answers.Values xs) ns = AllZip (IsValue v r) xs ns

-- the transitions that are enabled on the present events
abbrev pub enabled_transitions : Spec → View → List Instance → List TransitionInstance
enabled_transitions s v present = filter (λ t. has present t.event && is_enabled v t) (transitions s)

-- the send cases that are enabled on the present events
abbrev pub enabled_sends : Spec → View → List Instance → List SendCaseInstance
enabled_sends s v present = filter (λ c. has present c.event && is_sending v c) (send_cases s)

-- the events that the transitions raise, in order
abbrev pub raised_by : Spec → List TransitionInstance → List Instance
raised_by s taken = filter (λ e. list_any (λ t. has t.raises e) taken) (events s)

-- each component has one of the places that it may have after the transitions
abbrev pub AreOutcomes : Spec → List TransitionInstance → List ℕ → List ℕ → Type 0
AreOutcomes s taken choices choices' = AllThree (λ c old new. IsOne new (outcomes taken c old)) (components s) choices choices'

-- A micro-step: in world w the transitions and send cases that are enabled on the present events are taken together, and
-- leave world w' and the events that are raised. Guards and values are read in w.
pub record Micro (s : Spec) (w : World) (present : List Instance) (taken : List TransitionInstance) (sent : List Sent) (w' : World) (raised : List Instance) : Type 0 where
  pub all_taken : taken ≡ enabled_transitions s (view s w) present
  pub all_sent : map (λ c. c.send_case) sent ≡ enabled_sends s (view s w) present
  pub values : Each (λ c. AreValues (view s w) (within c.send_case.send.index) c.send_case.answer c.values) sent
  pub children : AreOutcomes s taken w.choices w'.choices
  pub numbers : w'.cells ≡ w.cells
  pub all_raised : raised ≡ raised_by s taken

-- A round of a step: the world before it, the present events, the taken transitions and the send cases.
pub record Round : Type 0 where
  pub world : World
  pub present : List Instance
  pub taken : List TransitionInstance
  pub sent : List Sent

-- The round begins in world w with these present events, and is a micro-step that leaves world w' and the raised events.
pub record IsRound (s : Spec) (w : World) (present : List Instance) (r : Round) (w' : World) (raised : List Instance) : Type 0 where
  pub world : r.world ≡ w
  pub events : r.present ≡ present
  pub micro : Micro s w present r.taken r.sent w' raised

-- a step from world w: its rounds are micro-steps in series, each but the last raises an event, and the last raises none and leaves w'
abbrev pub IsStep : Spec → World → List Instance → List Round → World → Type 0
IsStep s w present [] w' = ⊥
IsStep s w present (r ∷ []) w' = IsRound s w present r w' []
IsStep s w present (r ∷ q ∷ rs) w' = (w₁ : World) × (raised : List Instance) × IsRound s w present r w₁ raised × (raised ≢ []) × IsStep s w₁ raised (q ∷ rs) w'
