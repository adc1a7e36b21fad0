-- What a machine does over its numbers is what the specification does.
use Rattle.std.proofs.Common.{◌≡◌, ℕ, ◌+◌, ◌<◌, ◌==◌, ◌||◌, ◌&&◌, Bool, true, false, List, [], ◌∷◌, map, fold, length, Some, None, Option, slice_get, unwrap_or, refl, sym, ap, ◌∙◌, subst, true≢false, arith}
use Rattle.std.specs.List.{list_any, AllZip}
use Rattle.std.specs.Option.{option_map, option_map_or}
use Rattle.std.proofs.lemmas.Bool.{eqb-true}
use Rattle.std.proofs.lemmas.List.{length-map}
use Rattle.rsml_syntax.specs.declared.syntax.Spec.{Spec}
use Rattle.rsml_syntax.specs.declared.syntax.Decl.{Decl}
use Rattle.rsml_syntax.specs.declared.syntax.Decl.TheVariants as decl
use Rattle.rsml_syntax.specs.declared.world.World.{World}
use Rattle.rsml_meaning.specs.Words.{Instance, Path}
use Rattle.rsml_meaning.specs.Words as words
use Rattle.rsml_meaning.specs.Instances.{State, Component, components, states, events}
use Rattle.rsml_meaning.specs.Active.{active, enter}
use Rattle.rsml_meaning.specs.Truth.{View, bare, learn, view, within}
use Rattle.rsml_meaning.specs.Transitions.{TransitionInstance, transitions}
use Rattle.rsml_meaning.specs.Transitions as meaning
use Rattle.rsml_meaning.specs.Interfaces.{SendCaseInstance, send_cases}
use Rattle.rsml_meaning.specs.Interfaces as meaning_of
use Rattle.rsml_meaning.specs.Steps.{raised_by}
use Rattle.rsml_meaning.specs.Turns.{after_one, after_all}
use Rattle.state_arrays.specs.Places.{path_at}
use Rattle.state_tree.specs.Numbers.{component_path, path_of}
use Rattle.state_tree.proofs.Lists.{get_within, beside}
use Rattle.rsml_ground.specs.Truths.{guard_truth, truths_in}
use Rattle.rsml_ground.proofs.DeclaredLemmas.{beside_first, path_is}
use Rattle.rsml_ground.proofs.PhraseLemmas.{guards_mean_the_text}
use Rattle.ground_members.specs.declared.transitions.GroundTransition.{GroundTransition}
use Rattle.ground_members.specs.declared.send_cases.GroundSendCase.{GroundSendCase}
use Rattle.ground_members.specs.Members.{TransitionIs, SendCaseIs, IsTarget, IsEvent}
use Rattle.elaborate.specs.Machine.{GroundMachine, StandsFor}
use Rattle.elaborate.specs.Enabled.{is_enabled, is_sending}
use Rattle.event_graph.specs.declared.events.Events.{Events}
use Rattle.event_graph.specs.Sets.{has}
use Rattle.micro_step.specs.Rising.{among}
use Rattle.micro_step.specs.Places.{passes, ArePlaces}
use Rattle.micro_step.specs.Micros.{events_in, enabled_numbers, sending_numbers}
use Rattle.micro_step.specs.Numbers.{raised_at, after_move, after_number, taken_at, sent_at}
use Rattle.micro_step.proofs.PlaceLemmas.{same_places, items_are}
use Rattle.micro_step.proofs.PresentLemmas.{present_has, raises_has}

-- What a view says of activity, and its names.

learn_keeps : (d : Decl) (v : View) → (learn v d).is_active ≡ v.is_active
learn_keeps (decl.Macro x size rows) v = refl
learn_keeps (decl.Function x size cases) v = refl
learn_keeps _ v = refl

learned : (ds : List Decl) (v : View) → (fold learn v ds).is_active ≡ v.is_active
learned [] v = refl
learned (d ∷ ds) v = learned ds (learn v d) ∙ learn_keeps d v

view_active : (s : Spec) (w : World) (path : Path) → (view s w).is_active path ≡ active s w path
view_active s w path = ap (λ (f : Path → Bool). f path) (learned s.decls (bare s w))

-- Enabled transitions and cases.

transition_enabled : (m : GroundMachine) (w : World) → StandsFor m → (t : TransitionInstance) (x : GroundTransition) → TransitionIs m.base.phrases m.base.spec t x
    → is_enabled m w x ≡ meaning.is_enabled (view m.base.spec w) t
transition_enabled m w stands t x is =
    ap (λ (b : Bool). b && guard_truth (truths_in m.base w) x.guard)
    (ap (active m.base.spec w) (path_is m.base.spec x.source t.source is.source) ∙ sym (view_active m.base.spec w t.source))
    ∙ ap (λ (b : Bool). (view m.base.spec w).is_active t.source && b) (guards_mean_the_text m.base w stands.grounded (within t.this) t.guard x.guard is.guard)

case_sending : (m : GroundMachine) (w : World) → StandsFor m → (c : SendCaseInstance) (x : GroundSendCase) → SendCaseIs m.base.phrases m.base.spec c x
    → is_sending m w x ≡ meaning_of.is_sending (view m.base.spec w) c
case_sending m w stands c x is = guards_mean_the_text m.base w stands.grounded (within c.send.index) c.guard x.guard is.guard

-- the numbers of the enabled transitions are those of the enabled transitions of the specification
pub taken_numbers : (m : GroundMachine) (w : World) (set : Events) → StandsFor m
    → taken_at m w set ≡ enabled_numbers m.base.spec (view m.base.spec w) (events_in m.base.spec set)
taken_numbers m w set stands =
    let s = m.base.spec in
    let present = events_in s set in
    let pair : (t : TransitionInstance) (x : GroundTransition) → TransitionIs m.base.phrases s t x → (has set x.event && is_enabled m w x) ≡ (words.has present t.event && meaning.is_enabled (view s w) t) =
    λ t x is. ap (λ (b : Bool). b && is_enabled m w x) (sym (present_has s stands.grounded.checked (has set) t.event x.event is.event))
    ∙ ap (λ (b : Bool). words.has present t.event && b) (transition_enabled m w stands t x is) in
    same_places (TransitionIs m.base.phrases s) (λ x. has set x.event && is_enabled m w x) (λ t. words.has present t.event && meaning.is_enabled (view s w) t)
    (transitions s) m.transitions stands.transitions_are pair 0

-- so are those of the send cases
pub sent_numbers : (m : GroundMachine) (w : World) (set : Events) → StandsFor m
    → sent_at m w set ≡ sending_numbers m.base.spec (view m.base.spec w) (events_in m.base.spec set)
sent_numbers m w set stands =
    let s = m.base.spec in
    let present = events_in s set in
    let pair : (c : SendCaseInstance) (x : GroundSendCase) → SendCaseIs m.base.phrases s c x → (has set x.event && is_sending m w x) ≡ (words.has present c.event && meaning_of.is_sending (view s w) c) =
    λ c x is. ap (λ (b : Bool). b && is_sending m w x) (sym (present_has s stands.grounded.checked (has set) c.event x.event is.event))
    ∙ ap (λ (b : Bool). words.has present c.event && b) (case_sending m w stands c x is) in
    same_places (SendCaseIs m.base.phrases s) (λ x. has set x.event && is_sending m w x) (λ c. words.has present c.event && meaning_of.is_sending (view s w) c)
    (send_cases s) m.send_cases stands.cases_are pair 0

-- Raised events.

any_raised : (m : GroundMachine) → StandsFor m → (ts : List TransitionInstance) (ks : List ℕ) (e : Instance) (q : ℕ) → slice_get (events m.base.spec) q ≡ Some e
    → ArePlaces (transitions m.base.spec) ts ks → raised_at m ks q ≡ list_any (λ t. words.has t.raises e) ts
any_raised m stands [] [] e q at z = refl
any_raised m stands [] (k ∷ ks) e q at z = absurd z
any_raised m stands (t ∷ ts) [] e q at z = absurd z
any_raised m stands (t ∷ ts) (k ∷ ks) e q at z =
    let s = m.base.spec in
    let y = beside_first (TransitionIs m.base.phrases s) (transitions s) m.transitions stands.transitions_are k t z.0 in
    let here : passes (λ x. among x.raises q) m.transitions k ≡ words.has t.raises e =
    ap (λ (o : Option GroundTransition). option_map_or (λ x. among x.raises q) o false) y.1 ∙ raises_has s stands.grounded.checked t.raises y.0.raises e q y.2.raises at in
    let there = any_raised m stands ts ks e q at z.1 in
    λ i. here i || there i

-- the events that the transitions of these numbers raise
pub raised_are : (m : GroundMachine) (set : Events) (ts : List TransitionInstance) (ks : List ℕ) → StandsFor m → ArePlaces (transitions m.base.spec) ts ks
    → ((q : ℕ) → has set q ≡ raised_at m ks q) → events_in m.base.spec set ≡ raised_by m.base.spec ts
raised_are m set ts ks stands z h =
    items_are (has set) (λ e. list_any (λ t. words.has t.raises e) ts) 0 (events m.base.spec)
    (λ j e at. let same : 0 + j ≡ j = omega arith in ap (has set) same ∙ h j ∙ any_raised m stands ts ks e j at z)

within_events : (s : Spec) (rs : List Instance) (ks : List ℕ) (q : ℕ) → AllZip (IsEvent s) rs ks → among ks q ≡ true → q < length (events s)
within_events s [] [] q z h = absurd (true≢false (sym h))
within_events s [] (k ∷ ks) q z h = absurd z
within_events s (r ∷ rs) [] q z h = absurd z
within_events s (r ∷ rs) (k ∷ ks) q z h = by (k == q) refl (λ m. within_events s rs ks q z.1 m)
  where
    by : (b : Bool) → (k == q) ≡ b → (among ks q ≡ true → q < length (events s)) → q < length (events s)
    by true e rest = subst (λ n. n < length (events s)) (eqb-true k q e) (get_within (events s) k r z.0)
    by false e rest = rest (sym (ap (λ (b : Bool). b || among ks q) e) ∙ h)

-- events that are raised are events of the specification
pub raised_within : (m : GroundMachine) (ks : List ℕ) (q : ℕ) → StandsFor m → raised_at m ks q ≡ true → q < length (events m.base.spec)
raised_within m [] q stands h = absurd (true≢false (sym h))
raised_within m (k ∷ ks) q stands h = by (slice_get m.transitions k) refl (passes (λ x. among x.raises q) m.transitions k) refl (λ n. raised_within m ks q stands n)
  where
    s : Spec
    s = m.base.spec

    by : (o : Option GroundTransition) → slice_get m.transitions k ≡ o → (b : Bool) → passes (λ x. among x.raises q) m.transitions k ≡ b → (raised_at m ks q ≡ true → q < length (events s)) → q < length (events s)
    by o at false e rest = rest (sym (ap (λ (z : Bool). z || raised_at m ks q) e) ∙ h)
    by None at true e rest = absurd (true≢false (sym e ∙ ap (λ (o : Option GroundTransition). option_map_or (λ x. among x.raises q) o false) at))
    by (Some x) at true e rest =
        let r = beside (TransitionIs m.base.phrases s) (transitions s) m.transitions k x stands.transitions_are at in
        within_events s r.0.raises x.raises q r.2.raises (sym (ap (λ (o : Option GroundTransition). option_map_or (λ x. among x.raises q) o false) at) ∙ e)

-- Moves.

component_is : (s : Spec) (k : ℕ) (p : Path) → slice_get (map (λ (c : Component). c.path) (components s)) k ≡ Some p → component_path s k ≡ p
component_is s k p h = ap (λ (o : Option Path). unwrap_or o []) h

move_is : (m : GroundMachine) (t : TransitionInstance) (x : GroundTransition) (choices : List ℕ) → TransitionIs m.base.phrases m.base.spec t x → after_move m choices x ≡ after_one m.base.spec choices t
move_is m t x choices is = by t.target x.target is.target
  where
    s : Spec
    s = m.base.spec

    by : (o : Option Path) (k : Option ℕ) → IsTarget s o k
        → ◌≡◌ {A = List ℕ} (elim k [ None ↦ choices | Some target ↦ enter s (component_path s x.component) (path_of s target) choices ])
        (elim o [ None ↦ choices | Some target ↦ enter s t.component target choices ])
    by None None h = refl
    by None (Some k) h = absurd h
    by (Some p) None h = absurd h
    by (Some p) (Some k) h =
        ap (λ (c : Path). enter s c (path_of s k) choices) (component_is s x.component t.component is.component)
        ∙ ap (λ (target : Path). enter s t.component target choices) (path_is s k p h)

-- entering the transitions of these numbers one after another
pub moves_are : (m : GroundMachine) → StandsFor m → (ts : List TransitionInstance) (ks : List ℕ) (choices : List ℕ) → ArePlaces (transitions m.base.spec) ts ks
    → fold (after_number m) choices ks ≡ after_all m.base.spec ts choices
moves_are m stands [] [] choices z = refl
moves_are m stands [] (k ∷ ks) choices z = absurd z
moves_are m stands (t ∷ ts) [] choices z = absurd z
moves_are m stands (t ∷ ts) (k ∷ ks) choices z =
    let s = m.base.spec in
    let y = beside_first (TransitionIs m.base.phrases s) (transitions s) m.transitions stands.transitions_are k t z.0 in
    let here : after_number m choices k ≡ after_one s choices t =
    ap (λ (o : Option GroundTransition). option_map_or (after_move m choices) o choices) y.1 ∙ move_is m t y.0 choices y.2 in
    ap (λ (ns : List ℕ). fold (after_number m) ns ks) here ∙ moves_are m stands ts ks (after_one s choices t) z.1

-- What a transition names is there.

path_below : (s : Spec) (k : ℕ) (p : Path) → path_at (states s) k ≡ Some p → k < length (states s)
path_below s k p h = by (slice_get (states s) k) refl h
  where
    by : (o : Option State) → slice_get (states s) k ≡ o → option_map (λ x. x.path) o ≡ Some p → k < length (states s)
    by None e h = absurd (let no : ⊥ = cc in no)
    by (Some x) e h = get_within (states s) k x e

pub source_below : (m : GroundMachine) (k : ℕ) (x : GroundTransition) → StandsFor m → slice_get m.transitions k ≡ Some x → x.source < length (states m.base.spec)
source_below m k x stands at =
    let r = beside (TransitionIs m.base.phrases m.base.spec) (transitions m.base.spec) m.transitions k x stands.transitions_are at in
    path_below m.base.spec x.source r.0.source r.2.source

pub component_below : (m : GroundMachine) (k : ℕ) (x : GroundTransition) → StandsFor m → slice_get m.transitions k ≡ Some x → x.component < length (components m.base.spec)
component_below m k x stands at =
    let r = beside (TransitionIs m.base.phrases m.base.spec) (transitions m.base.spec) m.transitions k x stands.transitions_are at in
    let long = length-map (components m.base.spec) (λ (c : Component). c.path) in
    let l = get_within (map (λ (c : Component). c.path) (components m.base.spec)) x.component r.0.component r.2.component in
    omega (arith, l, long)

pub target_below : (m : GroundMachine) (k target : ℕ) (x : GroundTransition) → StandsFor m → slice_get m.transitions k ≡ Some x → x.target ≡ Some target → target < length (states m.base.spec)
target_below m k target x stands at is =
    let r = beside (TransitionIs m.base.phrases m.base.spec) (transitions m.base.spec) m.transitions k x stands.transitions_are at in
    by r.0.target (subst (IsTarget m.base.spec r.0.target) is r.2.target)
  where
    by : (o : Option Path) → IsTarget m.base.spec o (Some target) → target < length (states m.base.spec)
    by None h = absurd h
    by (Some p) h = path_below m.base.spec target p h

pub raises_below : (m : GroundMachine) (k q : ℕ) (x : GroundTransition) → StandsFor m → slice_get m.transitions k ≡ Some x → among x.raises q ≡ true → q < length (events m.base.spec)
raises_below m k q x stands at h =
    let r = beside (TransitionIs m.base.phrases m.base.spec) (transitions m.base.spec) m.transitions k x stands.transitions_are at in
    within_events m.base.spec r.0.raises x.raises q r.2.raises h
