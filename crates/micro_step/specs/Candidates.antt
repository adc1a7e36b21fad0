-- What is prepared of the transitions and the cases of sends on each event.
use Rattle.std.specs.Prelude.{◌≡◌, ◌<◌, ℕ, Bool, ◌&&◌, List, map, length, Option, Some, IfSome, All, slice_get}
use Rattle.rsml_syntax.specs.declared.world.World.{World}
use Rattle.rsml_meaning.specs.Instances.{events}
use Rattle.rsml_meaning.specs.Worlds.{IsWorld}
use Rattle.and_or_tables.specs.Ground.{known}
use Rattle.rsml_ground.specs.Truths.{guard_truth, truths_in}
use Rattle.macros.specs.Known.{Agrees}
use Rattle.elaborate.specs.Machine.{GroundMachine}
use Rattle.elaborate.specs.OnEvents.{transitions_on, cases_on}
use Rattle.elaborate.specs.Enabled.{is_enabled, is_sending}
use Rattle.micro_step.specs.declared.candidates.Candidate.{Candidate}
use Rattle.micro_step.specs.declared.prepared.Prepared.{Prepared}
use Rattle.macros.specs.declared.asked.Asked.{Asked}
use Rattle.macros.specs.Asked.{AskedBelow, asked_truth}
use Rattle.macros.specs.StatePhrases.{IsStatePhrase}
use Rattle.rsml_ground.specs.Choices.{AreOfComponents, are_chosen}
use Rattle.micro_step.specs.Places.{passes}

-- the children of the choices are chosen, and the guard is true
abbrev pub is_met : GroundMachine → World → Candidate → Bool
is_met m w c = are_chosen w.choices c.choices.items && asked_truth (truths_in m.base w) c.asked

-- the truths of the guards of the transitions in a world
abbrev pub guard_truths : GroundMachine → World → List Bool
guard_truths m w = map (λ x. guard_truth (truths_in m.base w) x.guard) m.transitions

-- There is a place for each transition, and each truth that is known is that of its guard in the world.
pub record KnowsGuards (m : GroundMachine) (w : World) (guards : List (Option Bool)) : Type 0 where
  pub count : length guards ≡ length m.transitions
  pub right : Agrees guards (guard_truths m w)

-- There is a transition of the number, and in every world its guard is true exactly where one is that is asked so.
pub record HasGuardOf (m : GroundMachine) (a : Asked) (number : ℕ) : Type 0 where
  pub there : number < length m.transitions
  pub right : (w : World) → asked_truth (truths_in m.base w) a ≡ known (guard_truths m w) number

-- A candidate names components and phrases that there are, and the truth of its guard is kept where a guard is the same.
pub record Fits (m : GroundMachine) (c : Candidate) : Type 0 where
  pub components : AreOfComponents m.base.spec c.choices.items
  pub phrases : AskedBelow (length m.base.phrases) c.asked
  pub kept_at : IfSome c.kept_at (HasGuardOf m c.asked)

-- A candidate has the number of an item, and is met in a world exactly where that passes.
pub record TellsOf {A : Type 0} (m : GroundMachine) (test : World → A → Bool) (xs : List A) (c : Candidate) : Type 0 where
  pub fits : Fits m c
  pub below : c.number < length xs
  pub right : (w : World) → IsWorld m.base.spec w → is_met m w c ≡ passes (test w) xs c.number

-- There is a candidate for each of these numbers, in order.
pub record AreFor {A : Type 0} (m : GroundMachine) (test : World → A → Bool) (xs : List A) (numbers : List ℕ) (cs : List Candidate) : Type 0 where
  pub in_order : map (λ c. c.number) cs ≡ numbers
  pub each : All (TellsOf m test xs) cs

-- What is prepared for an event is of the transitions and of the cases of sends on it, and its phrases are about states alone.
pub record IsPrepared (m : GroundMachine) (event : ℕ) (p : Prepared) : Type 0 where
  pub transitions : AreFor m (is_enabled m) m.transitions (transitions_on m event) p.transitions.items
  pub cases : AreFor m (is_sending m) m.send_cases (cases_on m event) p.cases.items
  pub states : All (IsStatePhrase m.base) p.states.items

-- That is so for each event.
pub record ArePrepared (m : GroundMachine) (ps : List Prepared) : Type 0 where
  pub many : length ps ≡ length (events m.base.spec)
  pub each : (event : ℕ) (p : Prepared) → slice_get ps event ≡ Some p → IsPrepared m event p
