-- What a line comes to that is taken.
use Rattle.std.proofs.Common.{◌≡◌, ℕ, ◌+◌, ◌<◌, ◌≤◌, Bool, true, false, List, [], ◌∷◌, length, take, slice_get, Option, Some, None, IfSome, ℤ, sym, ap, ◌∙◌, arith, subst, length-take}
use Rattle.std.specs.Prelude.{if◌then◌else◌}
use Rattle.std.proofs.lemmas.Option.{slice_get_within}
use Rattle.rsml_syntax.specs.declared.syntax.Spec.{Spec}
use Rattle.rsml_syntax.specs.declared.world.World.{World}
use Rattle.rsml_meaning.specs.EventLines.{Bytes, is_skipped, Message, Outcome, breaks, read_line, LineRule}
use Rattle.rsml_meaning.specs.Words.{Instance}
use Rattle.rsml_meaning.specs.Interfaces.{ReceiveInstance, receives}
use Rattle.rsml_meaning.specs.Runs.{latched}
use Rattle.state_tree.proofs.Lists.{within_get}
use Rattle.interfaces.specs.Writes.{AreTyped}
use Rattle.event_lines.specs.declared.received.Received.{Received}
use Rattle.event_lines.specs.Told.{IsReceived}
use Rattle.reactions.specs.Stepping.{InWorld, LastRound}
use Rattle.simulator.specs.helpers.Turns.{Turning, Takes, said, message_of}
use Rattle.simulator.specs.helpers.Kept.{HoldsNumbers, Latches}

-- what is seen of a machine that takes lines
abbrev pub turning : Spec → World → List Instance → ℕ → LastRound → Turning
turning s w present n last = record { spec = s; world = w; present = present; events = n; last = last }

turning_is : (s : Spec) (w w' : World) (present present' : List Instance) (n : ℕ) (last last' : LastRound) → w ≡ w' → present ≡ present' → last ≡ last'
    → turning s w present n last ≡ turning s w' present' n last'
turning_is s w w' present present' n last last' e f g = cc

some_is : {A : Type 0} (x y : A) → Some x ≡ Some y → x ≡ y
some_is x y h = cc

module _ (s : Spec) (text : Bytes) where
  said_by : Bool → Option Outcome
  said_by b = if b then None else Some (read_line s text)

  pub said_nothing : is_skipped text ≡ true → said s text ≡ None
  said_nothing h = ap (λ (b : Bool). if b then None else Some (read_line s text)) h

  pub said_something : (o : Outcome) → is_skipped text ≡ false → read_line s text ≡ o → said s text ≡ Some o
  said_something o h e = ap (λ (b : Bool). if b then None else Some (read_line s text)) h ∙ ap Some e

-- The numbers of a line that was received.

module _ (s : Spec) (o : Outcome) (r : Received) (values : List ℤ) (h : IsReceived s o r values) where
  abbrev m : Message
  m = h.message

  numbers_are : take (length m.receive.inputs) values ≡ m.numbers
  numbers_are = ap (λ (n : ℕ). take n values) (sym h.count) ∙ h.numbers

  within_values : length m.receive.inputs ≤ length values
  within_values =
      let long : length (take (length m.numbers) values) ≡ length m.numbers = ap length h.numbers in
      let count = h.count in
      omega (arith, long, count, length-take (length m.numbers) values)

  holds_its : HoldsNumbers s m.receive values
  holds_its = record { within = within_values; typed = subst (AreTyped s m.receive.inputs) (sym numbers_are) h.typed }

  pub holds_numbers : IfSome (slice_get (receives s) r.interface) (λ x. HoldsNumbers s x values)
  holds_numbers =
      let there : IfSome (Some m.receive) (λ x. HoldsNumbers s x values) = holds_its in
      subst (λ (z : Option ReceiveInstance). IfSome z (λ x. HoldsNumbers s x values)) (sym h.receive) there

  pub message_is : message_of m.receive values ≡ m
  message_is = ap (λ (ns : List ℤ). record { receive = m.receive; numbers = ns }) numbers_are

-- A line that was received, by the forms of a specification.

module _ (s forms : Spec) (text : Bytes) (r : Received) (values : List ℤ) (same : forms ≡ s) (h : IsReceived forms (read_line forms text) r values) where
  received : IsReceived s (read_line s text) r values
  received = subst (λ (z : Spec). IsReceived z (read_line z text) r values) same h

  pub is_there : r.interface < length (receives s)
  is_there = slice_get_within (receives s) r.interface received.message.receive received.receive

  pub are_numbers : IfSome (slice_get (receives s) r.interface) (λ x. HoldsNumbers s x values)
  are_numbers = holds_numbers s (read_line s text) r values received

  -- it was taken
  pub takes_received : (w w' : World) (present present' : List Instance) (n : ℕ) (last last' : LastRound)
      → ((x : ReceiveInstance) → slice_get (receives s) r.interface ≡ Some x → (w' ≡ latched s w (message_of x values)) × (present' ≡ x.raised ∷ []) × (last' ≡ last))
      → Takes (read_line s text) r.interface (turning s w present n last) (turning s w' present' (n + 1) last')
  takes_received w w' present present' n last last' latches =
      let m = received.message in
      let there = latches m.receive received.receive in
      let world : w' ≡ latched s w m = there.0 ∙ ap (latched s w) (message_is s (read_line s text) r values received) in
      record {
        message = m;
        told = received.told;
        receive = received.receive;
        changes = turning_is s w' (latched s w m) present' (m.receive.raised ∷ []) (n + 1) last' last world there.1 there.2;
      }

-- a line that breaks a rule, by the forms of a specification
pub says_broken : (s forms : Spec) (text : Bytes) (rule : LineRule) → forms ≡ s → is_skipped text ≡ false → read_line forms text ≡ breaks rule → said s text ≡ Some (breaks rule)
says_broken s forms text rule same not_skipped is = said_something s text (breaks rule) not_skipped (ap (λ (z : Spec). read_line z text) (sym same) ∙ is)

-- What the step of a receive is given.

at_some : {A : Type 0} (P : A → Type 0) (o : Option A) (x : A) → o ≡ Some x → IfSome o P → P x
at_some {A} P o x e h = let there : IfSome (Some x) P = subst (λ (z : Option A). IfSome z P) e h in there

for_some : {A : Type 0} (P : A → Type 0) (o : Option A) (x : A) → o ≡ Some x → P x → IfSome o P
for_some {A} P o x e h = let there : IfSome (Some x) P = h in subst (λ (z : Option A). IfSome z P) (sym e) there

module _ (s : Spec) (k n : ℕ) (values : List ℤ) (there : k < length (receives s)) (count : IfSome (slice_get (receives s) k) (λ x. length x.inputs ≡ n)) where
  abbrev found : (x : ReceiveInstance) × (slice_get (receives s) k ≡ Some x)
  found = within_get (receives s) k there

  count_is : (x : ReceiveInstance) → slice_get (receives s) k ≡ Some x → length x.inputs ≡ n
  count_is x at = at_some (λ (y : ReceiveInstance). length y.inputs ≡ n) (slice_get (receives s) k) x at count

  module _ (holds : IfSome (slice_get (receives s) k) (λ x. HoldsNumbers s x values)) where
    numbers : HoldsNumbers s found.0 values
    numbers = at_some (λ (y : ReceiveInstance). HoldsNumbers s y values) (slice_get (receives s) k) found.0 found.1 holds

    -- they are among the values
    pub fields_within : n ≤ length values
    fields_within = let a = count_is found.0 found.1 in let b = numbers.within in omega (arith, a, b)

    -- and each is of its type
    pub fields_typed : IfSome (slice_get (receives s) k) (λ x. AreTyped s x.inputs (take n values))
    fields_typed =
        for_some (λ (y : ReceiveInstance). AreTyped s y.inputs (take n values)) (slice_get (receives s) k) found.0 found.1
        (subst (λ (m : ℕ). AreTyped s found.0.inputs (take m values)) (count_is found.0 found.1) numbers.typed)

  -- their message was latched
  pub latches_to : (old new : InWorld) → IfSome (slice_get (receives s) k) (λ x. new ≡ record old {
    world = latched s old.world (record { receive = x; numbers = take n values });
    present = x.raised ∷ [];
  }) → (x : ReceiveInstance) → slice_get (receives s) k ≡ Some x → Latches s (message_of x values) old new
  latches_to old new changes x at =
      let there : new ≡ record old {
        world = latched s old.world (record { receive = x; numbers = take n values });
        present = x.raised ∷ [];
      } =
      at_some (λ (y : ReceiveInstance). new ≡ record old {
        world = latched s old.world (record { receive = y; numbers = take n values });
        present = y.raised ∷ [];
      }) (slice_get (receives s) k) x at changes in
      record {
        machine = ap (λ (v : InWorld). v.machine) there;
        world = ap (λ (v : InWorld). v.world) there ∙ ap (λ (m : ℕ). latched s old.world (record { receive = x; numbers = take m values })) (sym (count_is x at));
        present = ap (λ (v : InWorld). v.present) there;
        last = ap (λ (v : InWorld). v.last) there;
      }
