-- The laws of stages, and of the worlds that values of levels spell.
use Rattle.std.specs.Prelude.{◌≡◌, ◌≢◌, ◌↔◌, ℕ, ◌<◌, ◌≤◌, Bool, true, false, ◌&&◌, List, length, slice_index, slice_set}
use Rattle.bdd_core.specs.Diagram.{Diagram, IsRef, IsReduced, level_of, meaning}
use Rattle.bdd_core.specs.Reach.{Reaches}
use Rattle.bdd_core.specs.Calls.{with_value}
use Rattle.free_levels.specs.declared.cell.Cell.{Cell}
use Rattle.free_levels.specs.Values.{is_in, AgreeOn, TrueOff, Ignores}
use Rattle.free_levels.specs.Keys.{Keys, AreKeys, IsLawful, IsCell}
use Rattle.free_levels.specs.Settle.{AreKept, MayHoldLawfully, IsSettled}
use Rattle.free_levels.specs.Stages.{is_left, IsStage}

-- to put a key's function in place of its level is a stage
abbrev pub ExactLaw : Type 0
ExactLaw = (keys : Keys) (forgotten : ℕ → Bool) (left : List Bool) (place : ℕ) (first second : (ℕ → Bool) → Bool)
    → AreKeys keys → place < keys.count → keys.count ≡ length left → is_left left place ≡ true
    → ((values : ℕ → Bool) → second values ≡ first (with_value values (keys.level place) (keys.function place values)))
    → IsStage keys forgotten left (slice_set left place false) first second

-- a key whose level the function does not depend on may be struck off
abbrev pub SkipLaw : Type 0
SkipLaw = (keys : Keys) (forgotten : ℕ → Bool) (left : List Bool) (place : ℕ) (function : (ℕ → Bool) → Bool)
    → AreKeys keys → place < keys.count → keys.count ≡ length left → is_left left place ≡ true
    → Ignores function (keys.level place) → IsStage keys forgotten left (slice_set left place false) function function

-- to forget a cell is a stage, where no key is left that reads it
abbrev pub ForgetLaw : Type 0
ForgetLaw = (keys : Keys) (cell : Cell) (left : List Bool) (first second : (ℕ → Bool) → Bool) → IsCell keys cell
    → ((k : ℕ) → k < length cell.keys.items → is_left left (slice_index cell.keys.items k) ≡ false)
    → ((values : ℕ → Bool) → (second values ≡ true) ↔ TrueOff first cell.levels.items values)
    → IsStage keys (is_in cell.levels.items) left left first second

-- one stage after another is a stage
abbrev pub TurnLaw : Type 0
TurnLaw = (keys : Keys) (forgotten : ℕ → Bool) (x y z : List Bool) (first second third : (ℕ → Bool) → Bool)
    → IsStage keys forgotten x y first second → IsStage keys forgotten y z second third → IsStage keys forgotten x z first third

-- so it is where more levels may be forgotten
abbrev pub WidenLaw : Type 0
WidenLaw = (keys : Keys) (few many : ℕ → Bool) (before after : List Bool) (first second : (ℕ → Bool) → Bool)
    → ((level : ℕ) → few level ≡ true → many level ≡ true) → IsStage keys few before after first second → IsStage keys many before after first second

-- a stage from all keys to none has settled the function
abbrev pub SettleLaw : Type 0
SettleLaw = (keys : Keys) (forgotten : ℕ → Bool) (before after : List Bool) (first second : (ℕ → Bool) → Bool)
    → ((i : ℕ) → i < keys.count → is_left before i ≡ true) → ((i : ℕ) → i < keys.count → is_left after i ≡ false)
    → IsStage keys forgotten before after first second → IsSettled keys forgotten first second

-- and so has one from all keys to a function that is false, whatever keys are left
abbrev pub StopLaw : Type 0
StopLaw = (keys : Keys) (forgotten : ℕ → Bool) (before after : List Bool) (first second : (ℕ → Bool) → Bool)
    → ((i : ℕ) → i < keys.count → is_left before i ≡ true) → ((values : ℕ → Bool) → second values ≡ false)
    → IsStage keys forgotten before after first second → IsSettled keys forgotten first second

-- a function does not depend on a level that no node of its diagram has
abbrev pub UnreachedLaw : Type 0
UnreachedLaw = (d : Diagram) → IsReduced d → (f level : ℕ) → IsRef d f
    → ((k : ℕ) → 2 ≤ k → Reaches d f k → level_of d k ≢ level) → Ignores (meaning d f) level

-- a level given a value, in a function and in those of all keys, is from then on a kept level that has that value
abbrev pub FixLaw : Type 0
FixLaw = (keys fixed : Keys) (first second : (ℕ → Bool) → Bool) (level : ℕ) (value : Bool) → fixed.count ≡ keys.count
    → ((i : ℕ) → i < keys.count → fixed.level i ≡ keys.level i) → ((i : ℕ) → i < keys.count → keys.level i ≢ level)
    → ((i : ℕ) (values : ℕ → Bool) → i < keys.count → fixed.function i values ≡ keys.function i (with_value values level value))
    → ((values : ℕ → Bool) → second values ≡ first (with_value values level value))
    → (kept values : ℕ → Bool) → MayHoldLawfully fixed second kept values
    ↔ MayHoldLawfully keys first (with_value kept level true) (with_value values level value)

-- worlds, which are numbers of parts: all values spell one, each is spelled, and the keys say the same of it as their functions
pub record AreSpelled (is_world : List ℕ → Bool) (world_of : (ℕ → Bool) → List ℕ) (spelled : List ℕ → ℕ → Bool)
    (truth_of_key : ℕ → List ℕ → Bool) (keys : Keys) : Type 0 where
  pub is_one : (values : ℕ → Bool) → is_world (world_of values) ≡ true
  pub of_spelled : (w : List ℕ) → is_world w ≡ true → world_of (spelled w) ≡ w
  pub spells_keys : (w : List ℕ) (i : ℕ) → is_world w ≡ true → i < keys.count → spelled w (keys.level i) ≡ truth_of_key i w
  pub exact : (i : ℕ) (values : ℕ → Bool) → i < keys.count → keys.function i values ≡ truth_of_key i (world_of values)

-- values that spell a world are lawful
abbrev pub SpelledLaw : Type 0
SpelledLaw = (is_world : List ℕ → Bool) (world_of : (ℕ → Bool) → List ℕ) (spelled : List ℕ → ℕ → Bool) (truth_of_key : ℕ → List ℕ → Bool) (keys : Keys)
    → AreSpelled is_world world_of spelled truth_of_key keys → (w : List ℕ) → is_world w ≡ true → IsLawful keys (spelled w)

-- a key's function does not depend on a level that does not change what the key says of the world
abbrev pub IgnoreLaw : Type 0
IgnoreLaw = (is_world : List ℕ → Bool) (world_of : (ℕ → Bool) → List ℕ) (spelled : List ℕ → ℕ → Bool) (truth_of_key : ℕ → List ℕ → Bool) (keys : Keys)
    → AreSpelled is_world world_of spelled truth_of_key keys → (i level : ℕ) → i < keys.count
    → ((values : ℕ → Bool) (value : Bool) → truth_of_key i (world_of (with_value values level value)) ≡ truth_of_key i (world_of values))
    → Ignores (keys.function i) level

-- the settled function is false everywhere exactly where the function holds in no world
abbrev pub WorldLaw : Type 0
WorldLaw = (is_world : List ℕ → Bool) (world_of : (ℕ → Bool) → List ℕ) (spelled : List ℕ → ℕ → Bool) (truth_of_key : ℕ → List ℕ → Bool) (keys : Keys)
    → AreSpelled is_world world_of spelled truth_of_key keys
    → (forgotten : ℕ → Bool) (function settled : (ℕ → Bool) → Bool) (truth : List ℕ → Bool) → IsSettled keys forgotten function settled
    → ((values : ℕ → Bool) → IsLawful keys values → function values ≡ truth (world_of values))
    → ((values : ℕ → Bool) → settled values ≡ false) ↔ ((w : List ℕ) → is_world w ≡ true → truth w ≡ false)

-- the same beside a test of the world that kept levels alone decide: what a search for the least world asks
abbrev pub LeastLaw : Type 0
LeastLaw = (is_world : List ℕ → Bool) (world_of : (ℕ → Bool) → List ℕ) (spelled : List ℕ → ℕ → Bool) (truth_of_key : ℕ → List ℕ → Bool) (keys : Keys)
    → AreSpelled is_world world_of spelled truth_of_key keys
    → (forgotten : ℕ → Bool) (function settled : (ℕ → Bool) → Bool) (truth test : List ℕ → Bool) → IsSettled keys forgotten function settled
    → ((values : ℕ → Bool) → IsLawful keys values → function values ≡ truth (world_of values))
    → (kept : ℕ → Bool) → AreKept keys forgotten kept
    → ((a b : ℕ → Bool) → AgreeOn kept a b → test (world_of a) ≡ test (world_of b))
    → ((values : ℕ → Bool) → (settled values && test (world_of values)) ≡ false) ↔ ((w : List ℕ) → is_world w ≡ true → (truth w && test w) ≡ false)
