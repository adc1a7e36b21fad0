-- The world after the transitions on the events of a set is the one that a micro-step on them leaves.
use Rattle.std.proofs.Common.{◌≡◌, ℕ, zero, suc, ◌+◌, ◌<◌, Bool, true, false, ◌&&◌, List, [], ◌∷◌, ◌++◌, take, length, fold, get_or, slice_get, Option, Some, if◌then◌else◌, refl, sym, ap, ◌∙◌, subst, arith}
use Rattle.std.specs.List.{All}
use Rattle.std.specs.Option.{option_map_or}
use Rattle.std.proofs.lemmas.List.{take_more, length-take-le}
use Rattle.std.proofs.lemmas.Option.{get_or_from_slice_get}
use Rattle.rsml_syntax.specs.declared.syntax.Spec.{Spec}
use Rattle.rsml_syntax.specs.declared.world.World.{World}
use Rattle.rsml_meaning.specs.Words.{Instance, Path}
use Rattle.rsml_meaning.specs.Words as words
use Rattle.rsml_meaning.specs.Instances.{events}
use Rattle.rsml_meaning.specs.Worlds.{IsWorld}
use Rattle.rsml_meaning.specs.Active.{active}
use Rattle.rsml_meaning.specs.Truth.{view, within}
use Rattle.rsml_meaning.specs.Transitions.{TransitionInstance, transitions}
use Rattle.rsml_meaning.specs.Transitions as meaning
use Rattle.rsml_meaning.specs.Steps.{enabled_transitions, AreOutcomes}
use Rattle.rsml_meaning.specs.Turns.{after_all}
use Rattle.rsml_meaning.specs.MicroSteps.{Result, IsResult}
use Rattle.rsml_meaning.specs.Scoped.{WellScoped}
use Rattle.rsml_meaning.proofs.WorldSteps.{micro_steps_exist, micro_steps_leave_worlds}
use Rattle.rsml_meaning.proofs.rules.Scoped.{rules_give_scopes}
use Rattle.state_tree.proofs.Lists.{beside, get_within}
use Rattle.state_arrays.proofs.Room.{few, events_few}
use Rattle.rsml_meaning.proofs.Sources.{view_active}
use Rattle.rsml_ground.specs.Truths.{guard_truth, truths_in}
use Rattle.rsml_ground.proofs.DeclaredLemmas.{path_is}
use Rattle.rsml_ground.proofs.PhraseLemmas.{guards_mean_the_text}
use Rattle.ground_members.specs.declared.transitions.GroundTransition.{GroundTransition}
use Rattle.ground_members.specs.Members.{TransitionIs}
use Rattle.ground_groups.specs.declared.group.Member.TheVariants as members
use Rattle.elaborate.specs.Machine.{GroundMachine, StandsFor}
use Rattle.elaborate.specs.Enabled.{enabled_at, is_enabled}
use Rattle.micro_step.specs.Places.{places_where, items_where, ArePlaces}
use Rattle.micro_step.specs.Numbers.{after_number, left_by}
use Rattle.micro_step.proofs.MachineLemmas.{moves_are}
use Rattle.micro_step.proofs.MicroLemmas.{world_choices}
use Rattle.micro_step.proofs.PlaceLemmas.{passing_places, same_places}
use Rattle.micro_step.proofs.PresentLemmas.{present_has}
use Rattle.micro_step.proofs.TurnLemmas.{turns_are_outcomes}
use Rattle.invariants.specs.Moves.{in_turn, after, moves_on, LeaveWorlds}

-- Places one after another.

places_append : {A : Type 0} (t : A → Bool) (n : ℕ) (xs ys : List A) → places_where t n (xs ++ ys) ≡ places_where t n xs ++ places_where t (n + length xs) ys
places_append t n [] ys = let same : n ≡ n + 0 = omega arith in ap (λ k. places_where t k ys) same
places_append t n (x ∷ xs) ys = by (t x) (places_append t (suc n) xs ys ∙ ap (λ k. places_where t (suc n) xs ++ places_where t k ys) shift)
  where
    shift : suc n + length xs ≡ n + suc (length xs)
    shift = omega arith

    by : (b : Bool) → places_where t (suc n) (xs ++ ys) ≡ places_where t (suc n) xs ++ places_where t (n + suc (length xs)) ys
        → (if b then n ∷ places_where t (suc n) (xs ++ ys) else places_where t (suc n) (xs ++ ys))
        ≡ (if b then n ∷ places_where t (suc n) xs else places_where t (suc n) xs) ++ places_where t (n + suc (length xs)) ys
    by true rest = ap (λ ks. n ∷ ks) rest
    by false rest = rest

-- one more item
place_more : {A : Type 0} (t : A → Bool) (xs : List A) (k : ℕ) (x : A) → k < length xs → slice_get xs k ≡ Some x
    → places_where t 0 (take (k + 1) xs) ≡ places_where t 0 (take k xs) ++ (if t x then k ∷ [] else [])
place_more t xs k x l at =
    let long : 0 + length (take k xs) ≡ k = let e = length-take-le k xs (omega (arith, l)) in omega (arith, e) in
    ap (places_where t 0) (take_more xs k x l)
    ∙ places_append t 0 (take k xs) (get_or xs k x ∷ [])
    ∙ ap (λ y. places_where t 0 (take k xs) ++ (if t y then (0 + length (take k xs)) ∷ [] else [])) (get_or_from_slice_get xs k x x at)
    ∙ ap (λ n. places_where t 0 (take k xs) ++ (if t x then n ∷ [] else [])) long

pub place_if : {A : Type 0} (t : A → Bool) (xs : List A) (k : ℕ) (x : A) (b : Bool) (ks more : List ℕ) → k < length xs → slice_get xs k ≡ Some x → b ≡ t x
    → ks ≡ places_where t 0 (take k xs) → more ≡ ks ++ (if b then k ∷ [] else []) → more ≡ places_where t 0 (take (k + 1) xs)
place_if t xs k x b ks more l at is before put =
    put ∙ (λ i. before i ++ (if is i then k ∷ [] else [])) ∙ sym (place_more t xs k x l at)

-- they are places of the list
places_below : {A : Type 0} (t : A → Bool) (n : ℕ) (xs : List A) → All (λ k. k < n + length xs) (places_where t n xs)
places_below t n [] = λ i d l. absurd (omega (arith, l))
places_below t n (x ∷ xs) = by (t x) (λ i d l. let h = places_below t (suc n) xs i d l in omega (arith, h))
  where
    by : (b : Bool) → All (λ k. k < n + suc (length xs)) (places_where t (suc n) xs)
        → All (λ k. k < n + suc (length xs)) (if b then n ∷ places_where t (suc n) xs else places_where t (suc n) xs)
    by true rest = front rest
      where
        front : All (λ k. k < n + suc (length xs)) (places_where t (suc n) xs) → (i d : ℕ) → i < length (n ∷ places_where t (suc n) xs)
            → get_or (n ∷ places_where t (suc n) xs) i d < n + suc (length xs)
        front rest zero d l = omega arith
        front rest (suc i) d l = rest i d (omega (arith, l))
    by false rest = rest

-- Transitions in turn.

turns_from : (m : GroundMachine) (w : World) (present : ℕ → Bool) (n : ℕ) (xs : List GroundTransition) (choices : List ℕ) → ((j : ℕ) → slice_get m.transitions (n + j) ≡ slice_get xs j)
    → fold (in_turn m w) choices (places_where (λ x. present x.event) n xs) ≡ fold (after_number m) choices (places_where (λ x. present x.event && is_enabled m w x) n xs)
turns_from m w present n [] choices at = refl
turns_from m w present n (x ∷ xs) choices at =
    by (present x.event) (is_enabled m w x) refl (λ cs. turns_from m w present (suc n) xs cs (λ j. ap (slice_get m.transitions) (shift j) ∙ at (suc j)))
  where
    shift : (j : ℕ) → suc n + j ≡ n + suc j
    shift j = omega arith

    ps : List ℕ
    ps = places_where (λ x. present x.event) (suc n) xs

    qs : List ℕ
    qs = places_where (λ x. present x.event && is_enabled m w x) (suc n) xs

    here : enabled_at m w (members.Transition n) ≡ is_enabled m w x
    here = let same : n ≡ n + 0 = omega arith in ap (λ (o : Option GroundTransition). option_map_or (is_enabled m w) o false) (ap (slice_get m.transitions) same ∙ at 0)

    by : (a b : Bool) → is_enabled m w x ≡ b → ((cs : List ℕ) → fold (in_turn m w) cs ps ≡ fold (after_number m) cs qs)
        → fold (in_turn m w) choices (if a then n ∷ ps else ps) ≡ fold (after_number m) choices (if a && b then n ∷ qs else qs)
    by false b e rest = rest choices
    by true true e rest = ap (λ (z : Bool). fold (in_turn m w) (if z then after_number m choices n else choices) ps) (here ∙ e) ∙ rest (after_number m choices n)
    by true false e rest = ap (λ (z : Bool). fold (in_turn m w) (if z then after_number m choices n else choices) ps) (here ∙ e) ∙ rest choices

-- the numbers of the transitions on these events that are enabled
abbrev pub taken_on : GroundMachine → World → (ℕ → Bool) → List ℕ
taken_on m w present = places_where (λ x. present x.event && is_enabled m w x) 0 m.transitions

-- the world after the transitions is the one that those leave
pub after_is_left : (m : GroundMachine) (w : World) (present : ℕ → Bool) → after m (moves_on m present) w ≡ left_by m w (taken_on m w present)
after_is_left m w present =
    let same = turns_from m w present 0 m.transitions w.choices (λ j. let same : 0 + j ≡ j = omega arith in ap (slice_get m.transitions) same) in
    λ i. record { choices = same i; cells = w.cells }

-- They are the transitions that a micro-step takes.

-- the present events
abbrev pub events_at : Spec → (ℕ → Bool) → List Instance
events_at s present = items_where present 0 (events s)

transition_enabled : (m : GroundMachine) → StandsFor m → (w : World) (t : TransitionInstance) (x : GroundTransition) → TransitionIs m.base.phrases m.base.spec t x
    → is_enabled m w x ≡ meaning.is_enabled (view m.base.spec w) t
transition_enabled m stands w t x is =
    ap (λ (b : Bool). b && guard_truth (truths_in m.base w) x.guard)
    (ap (active m.base.spec w) (path_is m.base.spec x.source t.source is.source) ∙ sym (ap (λ (f : Path → Bool). f t.source) (view_active m.base.spec w)))
    ∙ ap (λ (b : Bool). (view m.base.spec w).is_active t.source && b) (guards_mean_the_text m.base w stands.grounded (within t.this) t.guard x.guard is.guard)

same_taken : (m : GroundMachine) → StandsFor m → (w : World) (present : ℕ → Bool)
    → taken_on m w present ≡ places_where (λ t. words.has (events_at m.base.spec present) t.event && meaning.is_enabled (view m.base.spec w) t) 0 (transitions m.base.spec)
same_taken m stands w present =
    let s = m.base.spec in
    same_places (TransitionIs m.base.phrases s) (λ x. present x.event && is_enabled m w x) (λ t. words.has (events_at s present) t.event && meaning.is_enabled (view s w) t)
    (transitions s) m.transitions stands.transitions_are
    (λ t x is.
    ap (λ (b : Bool). b && is_enabled m w x) (sym (present_has s stands.grounded.checked present t.event x.event is.event))
    ∙ ap (λ (b : Bool). words.has (events_at s present) t.event && b) (transition_enabled m stands w t x is)) 0

pub taken_there : (m : GroundMachine) → StandsFor m → (w : World) (present : ℕ → Bool)
    → ArePlaces (transitions m.base.spec) (enabled_transitions m.base.spec (view m.base.spec w) (events_at m.base.spec present)) (taken_on m w present)
taken_there m stands w present =
    let s = m.base.spec in
    let es = events_at s present in
    subst (ArePlaces (transitions s) (enabled_transitions s (view s w) es)) (sym (same_taken m stands w present))
    (passing_places (λ x. words.has es x.event && meaning.is_enabled (view s w) x) (transitions s))

-- A micro-step leaves that world.

pub left_choices : (m : GroundMachine) → StandsFor m → (w : World) (present : ℕ → Bool)
    → (left_by m w (taken_on m w present)).choices ≡ after_all m.base.spec (enabled_transitions m.base.spec (view m.base.spec w) (events_at m.base.spec present)) w.choices
left_choices m stands w present =
    moves_are m stands (enabled_transitions m.base.spec (view m.base.spec w) (events_at m.base.spec present)) (taken_on m w present) w.choices (taken_there m stands w present)

-- What a micro-step comes to that leaves it.
pub record Leaves (m : GroundMachine) (w : World) (present : ℕ → Bool) : Type 0 where
  pub result : Result
  pub is : IsResult m.base.spec w (events_at m.base.spec present) result
  pub left : result.world ≡ left_by m w (taken_on m w present)
  pub taken : ArePlaces (transitions m.base.spec) result.taken (taken_on m w present)

pub leaves : (m : GroundMachine) → StandsFor m → (w : World) (present : ℕ → Bool) → IsWorld m.base.spec w → Leaves m w present
leaves m stands w present world =
    let s = m.base.spec in
    let es = events_at s present in
    let ts = enabled_transitions s (view s w) es in
    let one = micro_steps_exist s w es world in
    let v = left_by m w (taken_on m w present) in
    record {
      result = record { taken = one.0.taken; sent = one.0.sent; world = v; raised = one.0.raised };
      is = record {
        all_taken = one.1.all_taken;
        all_sent = one.1.all_sent;
        values = one.1.values;
        children = subst (λ us. AreOutcomes s us w.choices v.choices) (sym one.1.all_taken)
            (subst (AreOutcomes s ts w.choices) (sym (left_choices m stands w present)) (turns_are_outcomes s ts w.choices (world_choices s w world)));
        numbers = refl;
        all_raised = one.1.all_raised;
      };
      left = refl;
      taken = subst (λ us. ArePlaces (transitions s) us (taken_on m w present)) (sym one.1.all_taken) (taken_there m stands w present);
    }

pub scoped : (m : GroundMachine) → StandsFor m → WellScoped m.base.spec
scoped m stands = rules_give_scopes m.base.spec stands.grounded.checked.keeps.rules

-- so it is a world
pub leave_worlds : (m : GroundMachine) → StandsFor m → (present : ℕ → Bool) → LeaveWorlds m (moves_on m present)
leave_worlds m stands present = record {
  there = λ i d l. let h = places_below (λ x. present x.event) 0 m.transitions i d l in omega (arith, h);
  worlds = λ w world.
      let l = leaves m stands w present world in
      subst (IsWorld m.base.spec) (l.left ∙ sym (after_is_left m w present))
      (micro_steps_leave_worlds m.base.spec w (events_at m.base.spec present) l.result (scoped m stands) world l.is);
}

-- after none the world is the same
pub none_leaves : (m : GroundMachine) → LeaveWorlds m []
none_leaves m = record { there = λ i d l. absurd (omega (arith, l)); worlds = λ w world. world }

-- the event of a transition has a place in a set
pub event_below : (m : GroundMachine) → StandsFor m → (k : ℕ) (x : GroundTransition) → slice_get m.transitions k ≡ Some x → x.event < 1024
event_below m stands k x at =
    let s = m.base.spec in
    let r = beside (TransitionIs m.base.phrases s) (transitions s) m.transitions k x stands.transitions_are at in
    let l = get_within (events s) x.event r.0.event r.2.event in
    omega (arith, l, events_few s (few s stands.grounded.checked.keeps.limits))

-- on no event there is none
pub no_moves : (m : GroundMachine) (present : ℕ → Bool) → ((q : ℕ) → present q ≡ false) → moves_on m present ≡ []
no_moves m present none = by 0 m.transitions
  where
    by : (n : ℕ) (xs : List GroundTransition) → places_where (λ x. present x.event) n xs ≡ []
    by n [] = refl
    by n (x ∷ xs) = ap (λ (b : Bool). if b then n ∷ places_where (λ y. present y.event) (suc n) xs else places_where (λ y. present y.event) (suc n) xs) (none x.event) ∙ by (suc n) xs
