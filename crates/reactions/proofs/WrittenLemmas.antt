-- Rounds, by what a machine keeps of them, and sets of events.
use Rattle.std.proofs.Common.{◌≡◌, ◌≢◌, ℕ, zero, suc, ◌+◌, ◌<◌, ◌≤◌, Bool, true, false, List, [], ◌∷◌, length, Option, Some, None, IfSome, is_some, refl, sym, ap, ◌∙◌, true≢false, arith, zero-add}
use Rattle.std.specs.Prelude.{if◌then◌else◌}
use Rattle.rsml_syntax.specs.declared.syntax.Spec.{Spec}
use Rattle.rsml_syntax.specs.declared.world.World.{World}
use Rattle.rsml_meaning.specs.Instances.{events}
use Rattle.rsml_meaning.specs.Words.{Instance}
use Rattle.rsml_meaning.specs.Steps.{Round}
use Rattle.elaborate.specs.Machine.{GroundMachine}
use Rattle.event_graph.specs.declared.events.Events.{Events}
use Rattle.micro_step.specs.Micros.{AreEvents, IsMicro, events_in}
use Rattle.micro_step.specs.Numbers.{Kept, of_cases}
use Rattle.micro_step.specs.Places.{items_where}
use Rattle.event_graph.specs.Sets.{has}
use Rattle.reactions.specs.Rounds.{IsRoundOf}
use Rattle.reactions.proofs.EventTexts.{none_at_all}
use Rattle.reactions.specs.Stepping.{InWorld, LastRound, RoundIsDone, WasRound, last_of}

-- a micro-step of which a machine kept the numbers is a round
pub round_done : (s : Spec) (w w' : World) (present raised : Events) (k : Kept)
    → IsMicro s w present k.taken.items k.sent.items (of_cases k.values k.sent.items) w' raised
    → RoundIsDone s w (events_in s present) (last_of s w present k) w' (events_in s raised)
round_done s w w' present raised k m =
    let r : Round = record { world = w; present = events_in s present; taken = m.transitions_taken; sent = m.cases_sent } in
    record {
      round = r;
      is = record { world = refl; events = refl; micro = m.micro };
      began = refl;
      last_is = record { present_are = refl; taken_are = m.taken_are; sent_are = m.sent_are; values_are = m.values_are };
      all_taken = m.all_taken;
      all_sent = m.all_sent;
    }

-- the last round, by what the machine kept of it
pub last_round : (s : Spec) (w : World) (before : Events) (k : Kept) (r : Round) → WasRound s (last_of s w before k) r → IsRoundOf s before k r
last_round s w before k r h = record { present_are = h.present_are; taken_are = h.taken_are; sent_are = h.sent_are; values_are = h.values_are }

-- a machine in another world, with other present events
pub in_world : (m : GroundMachine) (w w' : World) (present present' : List Instance) (l : LastRound) → w ≡ w' → present ≡ present'
    → (let v : InWorld = record { machine = m; world = w; present = present; last = l } in v) ≡ record { machine = m; world = w'; present = present'; last = l }
in_world m w w' present present' l e f = cc

-- a set without a number has no events
pub no_events : (s : Spec) (set : Events) → ((q : ℕ) → 0 ≤ q → has set q ≡ false) → events_in s set ≡ []
no_events s set none = none_at_all (has set) (events s) none

pub not_empty : {A : Type 0} (x : A) (xs : List A) → x ∷ xs ≡ [] → ⊥
not_empty x xs h = cc

found : {A : Type 0} (p : ℕ → Bool) (n k : ℕ) (xs : List A) → k < length xs → p (n + k) ≡ true → items_where p n xs ≡ [] → ⊥
found p n k [] l t none = omega (arith, l)
found p n zero (x ∷ xs) l t none =
    let same : n ≡ n + 0 = omega arith in
    by (p n) (ap p same ∙ t) none
  where
    by : (b : Bool) → b ≡ true → (if b then x ∷ items_where p (suc n) xs else items_where p (suc n) xs) ≡ [] → ⊥
    by true e h = not_empty x (items_where p (suc n) xs) h
    by false e h = true≢false (sym e)
found p n (suc k) (x ∷ xs) l t none =
    let same : suc n + k ≡ n + suc k = omega arith in
    by (p n) none (found p (suc n) k xs (omega (arith, l)) (ap p same ∙ t))
  where
    by : (b : Bool) → (if b then x ∷ items_where p (suc n) xs else items_where p (suc n) xs) ≡ [] → (items_where p (suc n) xs ≡ [] → ⊥) → ⊥
    by true h rest = not_empty x (items_where p (suc n) xs) h
    by false h rest = rest h

-- one with the number of an event has some
pub some_events : (s : Spec) (set : Events) (e : ℕ) → AreEvents s set → has set e ≡ true → events_in s set ≢ []
some_events s set e are h none = found (has set) 0 e (events s) (are e h) (ap (has set) (zero-add e) ∙ h) none

-- the least number of a set tells whether it has events
pub left_of : (s : Spec) (set : Events) (o : Option ℕ) → AreEvents s set → IfSome o (λ e. (0 ≤ e) × (e < 1024) × (has set e ≡ true) × ((q : ℕ) → 0 ≤ q → q < e → has set q ≡ false))
    → (o ≡ None → (q : ℕ) → 0 ≤ q → has set q ≡ false) → (is_some o ≡ true → events_in s set ≢ []) × (is_some o ≡ false → events_in s set ≡ [])
left_of s set None are some none = ((λ q. absurd (true≢false (sym q))), λ q. no_events s set (none refl))
left_of s set (Some e) are some none = ((λ q. some_events s set e are some.2), λ q. absurd (true≢false q))
