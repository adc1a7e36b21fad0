-- What is counted of a line.
use Rattle.std.proofs.Common.{◌≡◌, ℕ, true, false, List, [], ◌∷◌, length, take, slice_get, Option, Some, None, IfSome, ℤ, refl, sym, ap, ◌∙◌, subst}
use Rattle.rsml_syntax.specs.declared.syntax.Spec.{Spec}
use Rattle.rsml_syntax.specs.declared.world.World.{World}
use Rattle.rsml_meaning.specs.EventLines.{Bytes, is_skipped, LineRule, Message, Outcome, breaks, tells, read_line}
use Rattle.rsml_meaning.specs.Interfaces.{ReceiveInstance, receives}
use Rattle.event_lines.specs.declared.received.Received.{Received}
use Rattle.event_lines.specs.Told.{IsReceived}
use Rattle.simulator.specs.helpers.Turns.{said, rule_in, message_of}
use Rattle.simulator.proofs.TurnLemmas.{said_nothing, said_something, message_is, says_broken}
use Rattle.run_counts.specs.declared.counts.Counts.{Counts}
use Rattle.run_counts.specs.Series.{EventIsCounted}
use Rattle.run_counts.specs.Lines.{LineIsCounted}
use Rattle.run_counts.proofs.SumLemmas.{no_reactions}

-- nothing is counted of a line that is skipped
pub skipped_counted : (s : Spec) (text : Bytes) (w : World) (c : Counts) → is_skipped text ≡ true → LineIsCounted s (said s text) w w c c
skipped_counted s text w c h =
    let nothing : LineIsCounted s None w w c c = record { run = []; is_run = tt; leaves = refl; counted = no_reactions c } in
    subst (λ (o : Option Outcome). LineIsCounted s o w w c c) (sym (said_nothing s text h)) nothing

-- the event of a line that was received
pub line_counted : (s forms : Spec) (text : Bytes) (r : Received) (values : List ℤ) → forms ≡ s → IsReceived forms (read_line forms text) r values
    → (w w' : World) (c c' : Counts) → is_skipped text ≡ false
    → ((x : ReceiveInstance) → slice_get (receives s) r.interface ≡ Some x → EventIsCounted s (message_of x values) w w' c c') → LineIsCounted s (said s text) w w' c c'
line_counted s forms text r values same h w w' c c' not_skipped counted =
    let received : IsReceived s (read_line s text) r values = subst (λ (z : Spec). IsReceived z (read_line z text) r values) same h in
    let m = received.message in
    let event : EventIsCounted s m w w' c c' =
    subst (λ (n : Message). EventIsCounted s n w w' c c') (message_is s (read_line s text) r values received) (counted m.receive received.receive) in
    let one : LineIsCounted s (Some (tells m)) w w' c c' = record { run = event.reaction ∷ []; is_run = (event.is, tt); leaves = event.leaves; counted = event.counted } in
    subst (λ (o : Option Outcome). LineIsCounted s o w w' c c') (sym (said_something s text (tells m) not_skipped received.told)) one

some_none : {A : Type 0} (x : A) → Some x ≡ None → ⊥
some_none x h = cc

-- a line that breaks no rule is received
pub not_broken : (s forms : Spec) (text : Bytes) (rule : LineRule) → forms ≡ s → is_skipped text ≡ false → read_line forms text ≡ breaks rule → rule_in (said s text) ≡ None → ⊥
not_broken s forms text rule same not_skipped is sound =
    some_none rule (sym (ap rule_in (says_broken s forms text rule same not_skipped is)) ∙ sound)

-- What is counted of the numbers of a line.

at_some : {A : Type 0} (P : A → Type 0) (o : Option A) (x : A) → o ≡ Some x → IfSome o P → P x
at_some {A} P o x e h = let there : IfSome (Some x) P = subst (λ (z : Option A). IfSome z P) e h in there

-- the message of a receive, of which the first values are the numbers
pub told_counted : (s : Spec) (k n : ℕ) (values : List ℤ) (w w' : World) (c c' : Counts) → IfSome (slice_get (receives s) k) (λ x. length x.inputs ≡ n)
    → IfSome (slice_get (receives s) k) (λ x. EventIsCounted s (record { receive = x; numbers = take n values }) w w' c c')
    → (x : ReceiveInstance) → slice_get (receives s) k ≡ Some x → EventIsCounted s (message_of x values) w w' c c'
told_counted s k n values w w' c c' count counted x at =
    let there : EventIsCounted s (record { receive = x; numbers = take n values }) w w' c c' =
    at_some (λ (y : ReceiveInstance). EventIsCounted s (record { receive = y; numbers = take n values }) w w' c c') (slice_get (receives s) k) x at counted in
    let same : length x.inputs ≡ n = at_some (λ (y : ReceiveInstance). length y.inputs ≡ n) (slice_get (receives s) k) x at count in
    subst (λ (m : ℕ). EventIsCounted s (record { receive = x; numbers = take m values }) w w' c c') (sym same) there
