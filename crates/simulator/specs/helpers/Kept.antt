-- What a machine that follows lines keeps.
use Rattle.std.specs.Prelude.{◌≡◌, ◌≤◌, List, [], ◌∷◌, length, take, ℤ}
use Rattle.rsml_syntax.specs.declared.syntax.Spec.{Spec}
use Rattle.rsml_meaning.specs.Words.{Each}
use Rattle.rsml_meaning.specs.Certified.{Certified}
use Rattle.rsml_meaning.specs.EventLines.{Message}
use Rattle.rsml_meaning.specs.Interfaces.{ReceiveInstance, receives}
use Rattle.rsml_meaning.specs.Runs.{latched}
use Rattle.elaborate.specs.Machine.{GroundMachine}
use Rattle.interfaces.specs.Writes.{AreTyped}
use Rattle.reactions.specs.Stepping.{InWorld}

-- What is kept for a machine is its own, its specification is certified, and there is room for the numbers of each receive.
pub record AreForTurns (m : GroundMachine) (running : InWorld) (forms : Spec) (values : List ℤ) : Type 0 where
  pub running_is : running.machine ≡ m
  pub forms_are : forms ≡ m.base.spec
  pub room : Each (λ x. length x.inputs ≤ length values) (receives m.base.spec)
  pub certified : Certified m.base.spec

-- The first of the values are numbers for the inputs of a receive.
pub record HoldsNumbers (s : Spec) (x : ReceiveInstance) (values : List ℤ) : Type 0 where
  pub within : length x.inputs ≤ length values
  pub typed : AreTyped s x.inputs (take (length x.inputs) values)

-- A message was latched, and its event is present.
pub record Latches (s : Spec) (m : Message) (r r' : InWorld) : Type 0 where
  pub machine : r'.machine ≡ r.machine
  pub world : r'.world ≡ latched s r.world m
  pub present : r'.present ≡ m.receive.raised ∷ []
  pub last : r'.last ≡ r.last
