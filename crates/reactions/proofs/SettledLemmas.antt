-- The world before the last round, and the one in which all is entered.
use Rattle.std.proofs.Common.{◌≡◌, ℕ, ◌<◌, ◌≤◌, List, [], length, Option, Some, None, IfSome, slice_get, ℤ, sym, ap, ◌∙◌, subst, arith}
use Rattle.std.specs.Prelude.{IsTrue}
use Rattle.std.specs.Option.{option_map_or}
use Rattle.rsml_syntax.specs.declared.syntax.Spec.{Spec}
use Rattle.rsml_syntax.specs.declared.world.World.{World}
use Rattle.rsml_meaning.specs.Cells.{input_type, is_of}
use Rattle.rsml_meaning.specs.Instances.{globals_of}
use Rattle.rsml_meaning.specs.Interfaces.{ReceiveInstance, receives}
use Rattle.rsml_meaning.specs.Runs.{latched}
use Rattle.rsml_meaning.specs.Words.{Each}
use Rattle.state_tree.proofs.Lists.{within_get, as_long}
use Rattle.rsml_ground.proofs.DeclaredLemmas.{each_at}
use Rattle.interfaces.specs.Writes.{AreTyped}
use Rattle.elaborate.specs.Machine.{GroundMachine}
use Rattle.micro_step.specs.Numbers.{Kept, IsFor, left_by}
use Rattle.reactions.specs.Stepping.{Incoming, IsIncoming, settled}

-- Worlds.

module _ (m : GroundMachine) (w : World) (taken : List ℕ) where
  -- no message came
  pub idle_settled : (message : Option Incoming) → message ≡ None → settled m w taken message ≡ left_by m w taken
  idle_settled message none = ap (settled m w taken) none

  -- nor was there a round
  pub first_settled : (message : Option Incoming) → taken ≡ [] → message ≡ None → settled m w taken message ≡ w
  first_settled message nothing none = idle_settled message none ∙ ap (left_by m w) nothing

  -- a message came
  pub message_settled : (k : ℕ) (ns : List ℤ) (x : ReceiveInstance) → slice_get (receives m.base.spec) k ≡ Some x
      → settled m w taken (Some (record { receive = k; numbers = ns })) ≡ latched m.base.spec (left_by m w taken) (record { receive = x; numbers = ns })
  message_settled k ns x at =
      ap (λ (o : Option ReceiveInstance). option_map_or (λ y. latched m.base.spec (left_by m w taken) (record { receive = y; numbers = ns })) o (left_by m w taken)) at

-- Messages.

at_some : {A : Type 0} (P : A → Type 0) (o : Option A) (x : A) → o ≡ Some x → IfSome o P → P x
at_some {A} P o x e h = let there : IfSome (Some x) P = subst (λ (z : Option A). IfSome z P) e h in there

module _ (s : Spec) (k : ℕ) (ns : List ℤ) (there : k < length (receives s)) (typed : IfSome (slice_get (receives s) k) (λ x. AreTyped s x.inputs ns)) where
  abbrev found : (x : ReceiveInstance) × (slice_get (receives s) k ≡ Some x)
  found = within_get (receives s) k there

  are_typed : AreTyped s found.0.inputs ns
  are_typed = at_some (λ (x : ReceiveInstance). AreTyped s x.inputs ns) (slice_get (receives s) k) found.0 found.1 typed

  -- the numbers are those of a message
  pub is_incoming : IsIncoming s (record { receive = k; numbers = ns })
  is_incoming = (found.0, found.1, are_typed)

  -- and there is room for them
  pub fits_room : (room : ℕ) → Each (λ x. length x.inputs ≤ room) (receives s) → length ns ≤ room
  fits_room room each =
      let most = each_at (λ (x : ReceiveInstance). length x.inputs ≤ room) (receives s) each k found.0 found.1 in
      let long = as_long (λ x n. IsTrue (is_of (input_type (globals_of s) x.name) n)) found.0.inputs ns are_typed in
      omega (arith, most, long)

-- What is kept, of which more is known of the phrases.

pub still_for : (m : GroundMachine) (k k' : Kept) → k' ≡ record k { memo = k'.memo } → length k'.memo ≡ length m.base.phrases → IsFor m k → IsFor m k'
still_for m k k' rest count is = subst (IsFor m) (sym rest) (record { phrases = count; guards = is.guards; taken = is.taken; sent = is.sent; values = is.values; prepared = is.prepared })
