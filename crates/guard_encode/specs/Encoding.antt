-- An encoder: a machine, the levels of its worlds, and an arena of functions of these.
use Rattle.std.specs.Prelude.{◌≡◌, ◌↔◌, ℕ, Bool, false, ◌&&◌, List, Option, length, slice_index_or, ℤ, pos, int_le}
use Rattle.rsml_syntax.specs.declared.world.World.{World}
use Rattle.bdd_core.specs.Diagram.{Diagram, IsRef, meaning}
use Rattle.bdd_core.specs.Calls as arena
use Rattle.spelled_numbers.specs.declared.slot.Slot.{Slot}
use Rattle.world_levels.specs.Spelling.{spelled_world}
use Rattle.rsml_meaning.specs.Worlds.{IsWorld}
use Rattle.rsml_meaning.specs.Groups as meaning_of
use Rattle.ground_groups.specs.declared.group.Member.{Member}
use Rattle.ground_groups.specs.Groups.{MemberIs}
use Rattle.elaborate.specs.Machine.{GroundMachine}
use Rattle.keyed_levels.specs.declared.keyed.Keyed.{Keyed}
use Rattle.keyed_levels.specs.Keyed.{Beside, KeyedWorlds, AreKeyed, Extends, unbounded}
use Rattle.keyed_levels.specs.Keyed as keyed
use Rattle.settled_worlds.specs.Settled.{AreExact}
use Rattle.guard_encode.specs.Phrases.{AreActive, ArePhrases}

-- A machine, comparisons beside its phrases, the slots of the levels, the levels that stand for comparisons, and the diagrams.
pub record Encoding : Type 0 where
  pub machine : GroundMachine
  pub beside : Beside
  pub slots : List Slot
  pub keyed : List Keyed
  pub diagram : Diagram

-- the levels of its worlds
abbrev pub worlds_of : Encoding → KeyedWorlds
worlds_of e = record { base = e.machine.base; beside = e.beside; slots = e.slots; keyed = e.keyed }

-- r tells in which worlds this is true
abbrev pub Tells : Encoding → (World → Bool) → ℕ → Type 0
Tells e truth r = keyed.Tells e.diagram (worlds_of e) truth r

-- r tells in which worlds this is true, and it is false everywhere exactly where this is true of none
pub record TellsExactly (e : Encoding) (truth : World → Bool) (r : ℕ) : Type 0 where
  pub told : Tells e truth r
  pub none : ((values : ℕ → Bool) → meaning e.diagram r values ≡ false) ↔ ((w : World) → IsWorld e.machine.base.spec w → truth w ≡ false)

-- whether the values of the levels give a cell a number that passes a test
abbrev pub passes : (ℤ → Bool) → KeyedWorlds → ℕ → (ℕ → Bool) → Bool
passes test k cell values = test (slice_index_or (keyed.world_at k values).cells cell (pos 0))

-- whether the values of the levels give a cell at most this number
abbrev pub is_at_most : KeyedWorlds → ℕ → ℤ → (ℕ → Bool) → Bool
is_at_most k cell number values = int_le (slice_index_or (keyed.world_at k values).cells cell (pos 0)) number

-- r finds the worlds of which this is true: at lawful values by which a world is spelled it tells whether this is true of it, and at
-- all others it is false where this is
pub record FindsAt (d : Diagram) (k : KeyedWorlds) (truth : World → Bool) (r : ℕ) : Type 0 where
  pub is_ref : IsRef d r
  pub spelled : (w : World) (free : ℕ → Bool) → IsWorld k.base.spec w → keyed.Lawful k (spelled_world k.base.spec k.slots w free)
      → meaning d r (spelled_world k.base.spec k.slots w free) ≡ truth (keyed.world_at k (spelled_world k.base.spec k.slots w free))
  pub others : (values : ℕ → Bool) → keyed.Lawful k values → truth (keyed.world_at k values) ≡ false → meaning d r values ≡ false

abbrev pub Finds : Encoding → (World → Bool) → ℕ → Type 0
Finds e truth r = FindsAt e.diagram (worlds_of e) truth r

-- r finds the worlds of which this is true, and it is false everywhere exactly where this is true of none
pub record FindsExactly (e : Encoding) (truth : World → Bool) (r : ℕ) : Type 0 where
  pub found : Finds e truth r
  pub none : ((values : ℕ → Bool) → meaning e.diagram r values ≡ false) ↔ ((w : World) → IsWorld e.machine.base.spec w → truth w ≡ false)

-- r tells of a cell in which worlds this is true: it is true somewhere where the number of the cell passes a test, exactly where this is
-- true of some world in which it does
pub record IsOfCell (e : Encoding) (cell : ℕ) (truth : World → Bool) (r : ℕ) : Type 0 where
  pub is_ref : IsRef e.diagram r
  pub same : (test : ℤ → Bool) → ((values : ℕ → Bool) → (meaning e.diagram r values && passes test (worlds_of e) cell values) ≡ false)
      ↔ ((w : World) → IsWorld e.machine.base.spec w → (truth w && test (slice_index_or w.cells cell (pos 0))) ≡ false)

-- The machine and the levels are the same, and each earlier diagram is what it was.
pub record Keeps (old new : Encoding) : Type 0 where
  pub machine : new.machine ≡ old.machine
  pub beside : new.beside ≡ old.beside
  pub slots : new.slots ≡ old.slots
  pub keyed : new.keyed ≡ old.keyed
  pub diagram : arena.Keeps old.diagram new.diagram

-- its levels without bounds
abbrev pub unbounded_of : Encoding → KeyedWorlds
unbounded_of e = unbounded (worlds_of e)

-- no level of it stands for a bound
abbrev pub HasNoBounds : Encoding → Type 0
HasNoBounds e = keyed.HasNoBounds (worlds_of e)

-- it has no level that stands for a bound any more
abbrev pub without_bounds : Encoding → Encoding
without_bounds e = record e { beside = (unbounded_of e).beside; keyed = (unbounded_of e).keyed }

-- The machine and the levels are the same, but further levels may stand for bounds. Each earlier diagram is what it was.
pub record Grows (old new : Encoding) : Type 0 where
  pub machine : new.machine ≡ old.machine
  pub slots : new.slots ≡ old.slots
  pub unbounded : unbounded_of new ≡ unbounded_of old
  pub lawful : (values : ℕ → Bool) → keyed.Lawful (worlds_of new) values → keyed.Lawful (worlds_of old) values
  pub diagram : arena.Keeps old.diagram new.diagram

-- the diagrams of states and of phrases, and those of the comparisons that have levels, as far as they have been made
pub record Made : Type 0 where
  pub active : List ℕ
  pub phrases : List ℕ
  pub exact : List (Option ℕ)

-- What is stored: levels for the worlds of the machine, and its diagrams. Those of states and of phrases tell their truths also
-- without bounds.
pub record AreStored (e : Encoding) (made : Made) : Type 0 where
  pub levels : AreKeyed (worlds_of e)
  pub same_levels : e.diagram.levels ≡ length e.slots
  pub first : Extends (unbounded_of e) (worlds_of e)
  pub active_are : AreActive e.diagram (unbounded_of e) made.active
  pub phrases_are : ArePhrases e.diagram (unbounded_of e) e.machine.base (length e.machine.base.phrases) made.phrases
  pub exact_are : AreExact e.diagram (worlds_of e) made.exact

-- an encoder of its parts
abbrev pub encoding_of : GroundMachine → KeyedWorlds → Diagram → Encoding
encoding_of m k d = record { machine = m; beside = k.beside; slots = k.slots; keyed = k.keyed; diagram = d }

-- Its parts: levels of the machine's phrases, and the diagrams.
pub record AreEncoded (m : GroundMachine) (k : KeyedWorlds) (d : Diagram) (made : Made) : Type 0 where
  pub same : k.base ≡ m.base
  pub stored : AreStored (encoding_of m k d) made

-- the member is one of the specification
abbrev pub IsMember : GroundMachine → Member → Type 0
IsMember m x = (member : meaning_of.Member) × MemberIs m.base.spec member x
