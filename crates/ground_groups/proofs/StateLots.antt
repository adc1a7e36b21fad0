-- The transitions by source and event, and the cases of sends by send and event.
use Rattle.std.proofs.Common.{◌≡◌, ℕ, suc, ◌+◌, ◌<◌, ◌≤◌, ◌^◌, Bool, true, false, ◌&&◌, List, [], ◌∷◌, map, filter, flat_map, length, Option, Some, None, inl, inr, refl, sym, ap, ◌∙◌, subst, slice_get, unwrap_or, if◌then◌else◌, arith, nat_eq}
use Rattle.std.specs.List.{AllZip, list_any}
use Rattle.std.specs.Prelude.{IfOk}
use Rattle.std.specs.declared.result.Result.{Result}
use Rattle.std.specs.declared.result.Result.TheVariants.{Ok, Err}
use Rattle.std.specs.Option.{option_map}
use Rattle.std.specs.Cmp.{first_so, second_so}
use Rattle.std.proofs.lemmas.Option.{same_Some}
use Rattle.rsml_syntax.specs.declared.syntax.Spec.{Spec}
use Rattle.rsml_syntax.specs.limits.Checked.{IsChecked}
use Rattle.rsml_meaning.specs.Words.{Instance, Path, Each, IsOne, same_instance, same_path}
use Rattle.rsml_meaning.specs.Instances.{State, states, events}
use Rattle.rsml_meaning.specs.Transitions.{TransitionInstance, transitions, is_on, is_from}
use Rattle.rsml_meaning.specs.Interfaces.{SendCaseInstance, send_cases, sends, is_case}
use Rattle.rsml_meaning.specs.Groups.{Group, state, send, state_groups, send_groups}
use Rattle.rsml_meaning.proofs.Prefixes.{same_path_is, same_path_self}
use Rattle.rsml_meaning.proofs.Same.{instance_same, instance_itself, nat_itself}
use Rattle.state_arrays.specs.Places.{path_at}
use Rattle.state_tree.specs.Numbers.{path_of}
use Rattle.state_tree.proofs.Lists.{get_within, within_get, get_map, same_truth}
use Rattle.state_tree.proofs.Spread.{one_place}
use Rattle.state_tree.proofs.Walks.{path_is}
use Rattle.rsml_ground.specs.declared.phrases.GroundPhrase.{GroundPhrase}
use Rattle.ground_members.specs.declared.transitions.GroundTransition.{GroundTransition}
use Rattle.ground_members.specs.declared.send_cases.GroundSendCase.{GroundSendCase}
use Rattle.ground_members.specs.Members.{TransitionIs, SendCaseIs, AreTransitions, AreSendCases}
use Rattle.ground_groups.specs.declared.key.Key.{Key}
use Rattle.ground_groups.specs.Heads.{same_key, places_of}
use Rattle.ground_groups.specs.Stored.{event_at, own_of, IsStateKey, IsSendKey, ArePlaces, AreCasesAt, AreLots, AreStateLots, AreSendLots}
use Rattle.ground_groups.proofs.Rising.{key_same}
use Rattle.ground_groups.proofs.Tables.{table}
use Rattle.ground_groups.proofs.Matched.{key_fits, Matches, IsMade, matched, fits_key, heads_are, members_at, table_made, test}
use Rattle.ground_groups.proofs.Instances.{one_event, one_send}

-- Results and lists.

pub ok_so : {X E : Type 0} (P Q : X → Type 0) (r : Result X E) → IfOk r P → ((x : X) → P x → Q x) → IfOk r Q
ok_so P Q (Ok x) h f = f x h
ok_so P Q (Err e) h f = tt

pub zip_so : {A B : Type 0} (R Q : A → B → Type 0) (xs : List A) (ys : List B) → AllZip R xs ys → ((x : A) (y : B) → R x y → Q x y) → AllZip Q xs ys
zip_so R Q [] [] h f = tt
zip_so R Q (x ∷ xs) (y ∷ ys) h f = (f x y h.0, zip_so R Q xs ys h.1 f)
zip_so R Q [] (y ∷ ys) h f = elim h [ ]
zip_so R Q (x ∷ xs) [] h f = elim h [ ]

zip_map : {A B C : Type 0} (R : A → B → Type 0) (Q : A → C → Type 0) (f : B → C) (xs : List A) (ys : List B) → AllZip R xs ys → ((x : A) (y : B) → R x y → Q x (f y)) → AllZip Q xs (map f ys)
zip_map R Q f [] [] h g = tt
zip_map R Q f (x ∷ xs) (y ∷ ys) h g = (g x y h.0, zip_map R Q f xs ys h.1 g)
zip_map R Q f [] (y ∷ ys) h g = elim h [ ]
zip_map R Q f (x ∷ xs) [] h g = elim h [ ]

zip_image : {A B : Type 0} (Q : A → B → Type 0) (f : A → B) (xs : List A) → ((x : A) → IsOne x xs → Q x (f x)) → AllZip Q xs (map f xs)
zip_image Q f [] g = tt
zip_image Q f (x ∷ xs) g = (g x (inl refl), zip_image Q f xs (λ y m. g y (inr m)))

few_places : (k : Key) (at : ℕ) (xs : List Key) → length (places_of k at xs) ≤ length xs
few_places k at [] = omega arith
few_places k at (x ∷ xs) = by_test (same_key x k) (few_places k (suc at) xs)
  where
    by_test : (b : Bool) → length (places_of k (suc at) xs) ≤ length xs → length (if b then at ∷ places_of k (suc at) xs else places_of k (suc at) xs) ≤ suc (length xs)
    by_test true h = omega (arith, h)
    by_test false h = omega (arith, h)

few_each : (keys heads : List Key) → length keys < 2 ^ 32 → Each (λ ls. length ls < 2 ^ 32) (map (λ k. places_of k 0 keys) heads)
few_each keys [] h = tt
few_each keys (k ∷ heads) h = (let l = few_places k 0 keys in omega (arith, l, h), few_each keys heads h)

key_test : (q : Key) (k j : ℕ) → q.owner ≡ k → q.event ≡ j → same_key q (record { owner = k; event = j }) ≡ true
key_test q k j e f = λ i. both i
  where
    both : same_key q (record { owner = k; event = j }) ≡ true
    both = subst (λ z. (nat_eq q.owner z && nat_eq q.event j) ≡ true) e (subst (λ z. (nat_eq q.owner q.owner && nat_eq q.event z) ≡ true) f (λ i. nat_itself q.owner i && nat_itself q.event i))

-- States.

state_there : (xs : List State) (k : ℕ) (p : Path) → path_at xs k ≡ Some p → (x : State) × (slice_get xs k ≡ Some x) × (x.path ≡ p)
state_there xs k p h = by_item (slice_get xs k) refl h
  where
    by_item : (o : Option State) → slice_get xs k ≡ o → option_map (λ (x : State). x.path) o ≡ Some p → (x : State) × (slice_get xs k ≡ Some x) × (x.path ≡ p)
    by_item None e g = absurd (let no : ⊥ = cc in no)
    by_item (Some x) e g = (x, e, same_Some x.path p g)

pub path_here : (s : Spec) (k : ℕ) (x : State) → slice_get (states s) k ≡ Some x → path_of s k ≡ x.path
path_here s k x h = path_is s k x.path (get_map (λ (y : State). y.path) (states s) k x h)

pub event_here : (s : Spec) (j : ℕ) (e : Instance) → slice_get (events s) j ≡ Some e → event_at s j ≡ e
event_here s j e h = ap (λ o. unwrap_or o (record { name = s.top; index = 0 })) h

abbrev is_of : State → Instance → TransitionInstance → Bool
is_of x e t = is_from x.path e t

transition_matches : (ps : List GroundPhrase) (s : Spec) → IsChecked s → (t : TransitionInstance) (x : GroundTransition) → TransitionIs ps s t x → Matches is_of (states s) (events s) t (record { owner = x.source; event = x.event })
transition_matches ps s checked t x h =
    let r = state_there (states s) x.source t.source h.source in
    record {
      owner = r.0;
      event = t.event;
      owner_there = r.1;
      event_there = h.event;
      decides = λ k j y e a b. same_truth (is_of y e t) (same_key (record { owner = x.source; event = x.event }) (record { owner = k; event = j }))
          (λ f.
          let same : t.event ≡ e = instance_same t.event e (first_so (is_on e t) (same_path t.source y.path) f) in
          let from : t.source ≡ y.path = same_path_is t.source y.path (second_so (is_on e t) (same_path t.source y.path) f) in
          key_test (record { owner = x.source; event = x.event }) k j
          (one_place s checked x.source k y.path (get_map (λ (z : State). z.path) (states s) x.source r.0 r.1 ∙ ap (λ z. Some z) (r.2 ∙ from)) (get_map (λ (z : State). z.path) (states s) k y a))
          (one_event s checked x.event j e (h.event ∙ ap (λ z. Some z) same) b))
          (λ f.
          let is = key_same (record { owner = x.source; event = x.event }) (record { owner = k; event = j }) f in
          let owner : x.source ≡ k = ap (λ z. z.owner) is in
          let event : x.event ≡ j = ap (λ z. z.event) is in
          let from : y.path ≡ t.source = ap (λ (z : State). z.path) (same_Some y r.0 (sym a ∙ ap (slice_get (states s)) (sym owner) ∙ r.1)) ∙ r.2 in
          let same : e ≡ t.event = same_Some e t.event (sym b ∙ ap (slice_get (events s)) (sym event) ∙ h.event) in
          λ i. subst (λ z. same_instance t.event z ≡ true) (sym same) (instance_itself t.event) i && subst (λ z. same_path t.source z ≡ true) (sym from) (same_path_self t.source) i);
    }

pub state_lots_are : (ps : List GroundPhrase) (s : Spec) (xs : List GroundTransition) (keys heads : List Key) (places : List (List ℕ)) → IsChecked s → AreTransitions ps s xs
    → keys ≡ map (λ x. record { owner = x.source; event = x.event }) xs → AreLots keys heads places → AreStateLots s heads places
state_lots_are ps s xs keys heads places checked are e a = record {
  groups = subst (λ hs. AllZip (IsStateKey s) (flat_map (λ x. state_groups s x.path) (states s)) hs) (sym (heads_are is_of (states s) (events s) (transitions s) keys heads all a.are_heads))
      (zip_so (IsMade (λ x e. state x.path e) (test is_of (states s) (events s) (transitions s)) (states s) (events s)) (IsStateKey s) (flat_map (λ x. state_groups s x.path) (states s)) (table (test is_of (states s) (events s) (transitions s)) 0 (states s) (events s))
      (table_made (λ x e. state x.path e) (test is_of (states s) (events s) (transitions s)) (states s) (events s) 0 (states s) (λ i x g. subst (λ n. slice_get (states s) n ≡ Some x) (plus i) g))
      (λ g q m. made g q m));
  own = subst (λ ls. AllZip (λ q ls. ArePlaces (transitions s) (own_of s q) ls) heads ls) (sym a.are_places) (zip_image (λ q ls. ArePlaces (transitions s) (own_of s q) ls) (λ q. places_of q 0 keys) heads (λ q m. own_at q (matched is_of (states s) (events s) (transitions s) keys q all (a.are_heads.only q m))));
  rising = a.are_heads.rising;
  all = λ q l m h. reacts q h (within_get (states s) q.owner l) (within_get (events s) q.event m);
  only = λ q m. fires q (a.are_heads.only q m) (matched is_of (states s) (events s) (transitions s) keys q all (a.are_heads.only q m));
  few = subst (Each (λ ls. length ls < 2 ^ 32)) (sym a.are_places) (few_each keys heads a.few);
}
  where
    plus : (i : ℕ) → i ≡ 0 + i
    plus i = omega arith

    all : AllZip (Matches is_of (states s) (events s)) (transitions s) keys
    all = subst (AllZip (Matches is_of (states s) (events s)) (transitions s)) (sym e) (zip_map (TransitionIs ps s) (Matches is_of (states s) (events s)) (λ x. record { owner = x.source; event = x.event }) (transitions s) xs are (transition_matches ps s checked))

    made : (g : Group) (q : Key) → IsMade (λ x e. state x.path e) (test is_of (states s) (events s) (transitions s)) (states s) (events s) g q → IsStateKey s g q
    made g q m = record {
      state_there = get_within (states s) q.owner m.owner m.owner_there;
      event_there = get_within (events s) q.event m.event m.event_there;
      is = let p = sym (path_here s q.owner m.owner m.owner_there) in let e = sym (event_here s q.event m.event m.event_there) in m.is ∙ (λ i. state (p i) (e i));
    }

    own_at : (q : Key) → (t : TransitionInstance) × Matches is_of (states s) (events s) t q → ArePlaces (transitions s) (own_of s q) (places_of q 0 keys)
    own_at q r =
        let m = r.1 in
        let p = sym (path_here s q.owner m.owner m.owner_there) in
        let e = sym (event_here s q.event m.event m.event_there) in
        subst (λ ts. ArePlaces (transitions s) ts (places_of q 0 keys)) (λ i. filter (is_from (p i) (e i)) (transitions s))
        (members_at is_of (states s) (events s) (transitions s) (transitions s) 0 keys q.owner q.event m.owner m.event all m.owner_there m.event_there (λ i t g. subst (λ n. slice_get (transitions s) n ≡ Some t) (plus i) g))

    fires : (q : Key) → IsOne q keys → (t : TransitionInstance) × Matches is_of (states s) (events s) t q → list_any (is_from (path_of s q.owner) (event_at s q.event)) (transitions s) ≡ true
    fires q m r =
        let x = r.1 in
        let p = path_here s q.owner x.owner x.owner_there in
        let d = event_here s q.event x.event x.event_there in
        (λ i. list_any (is_from (p i) (d i)) (transitions s)) ∙ key_fits is_of (states s) (events s) (transitions s) keys q.owner q.event x.owner x.event all x.owner_there x.event_there m

    reacts : (q : Key) → list_any (is_from (path_of s q.owner) (event_at s q.event)) (transitions s) ≡ true → (x : State) × (slice_get (states s) q.owner ≡ Some x) → (e : Instance) × (slice_get (events s) q.event ≡ Some e) → IsOne q heads
    reacts q h x e =
        let p = sym (path_here s q.owner x.0 x.1) in
        let d = sym (event_here s q.event e.0 e.1) in
        a.are_heads.all q (fits_key is_of (states s) (events s) (transitions s) keys q.owner q.event x.0 e.0 all x.1 e.1
        ((λ i. list_any (is_from (p i) (d i)) (transitions s)) ∙ h))

-- Sends.

case_matches : (ps : List GroundPhrase) (s : Spec) → IsChecked s → (c : SendCaseInstance) (x : GroundSendCase) → SendCaseIs ps s c x → Matches is_case (sends s) (events s) c (record { owner = x.send; event = x.event })
case_matches ps s checked c x h = record {
  owner = c.send;
  event = c.event;
  owner_there = h.send;
  event_there = h.event;
  decides = λ k j y e a b. same_truth (is_case y e c) (same_key (record { owner = x.send; event = x.event }) (record { owner = k; event = j }))
      (λ f.
      let send : c.send ≡ y = instance_same c.send y (first_so (same_instance c.send y) (same_instance c.event e) f) in
      let event : c.event ≡ e = instance_same c.event e (second_so (same_instance c.send y) (same_instance c.event e) f) in
      key_test (record { owner = x.send; event = x.event }) k j (one_send s checked x.send k y (h.send ∙ ap (λ z. Some z) send) a) (one_event s checked x.event j e (h.event ∙ ap (λ z. Some z) event) b))
      (λ f.
      let is = key_same (record { owner = x.send; event = x.event }) (record { owner = k; event = j }) f in
      let owner : x.send ≡ k = ap (λ z. z.owner) is in
      let event : x.event ≡ j = ap (λ z. z.event) is in
      let send : y ≡ c.send = same_Some y c.send (sym a ∙ ap (slice_get (sends s)) (sym owner) ∙ h.send) in
      let same : e ≡ c.event = same_Some e c.event (sym b ∙ ap (slice_get (events s)) (sym event) ∙ h.event) in
      λ i. subst (λ z. same_instance c.send z ≡ true) (sym send) (instance_itself c.send) i && subst (λ z. same_instance c.event z ≡ true) (sym same) (instance_itself c.event) i);
}

pub send_lots_are : (ps : List GroundPhrase) (s : Spec) (xs : List GroundSendCase) (keys heads : List Key) (places : List (List ℕ)) → IsChecked s → AreSendCases ps s xs
    → keys ≡ map (λ x. record { owner = x.send; event = x.event }) xs → AreLots keys heads places → AreSendLots s heads places
send_lots_are ps s xs keys heads places checked are e a = record {
  groups = subst (λ hs. AllZip (IsSendKey s) (flat_map (send_groups s) (sends s)) hs) (sym (heads_are is_case (sends s) (events s) (send_cases s) keys heads all a.are_heads))
      (zip_so (IsMade send (test is_case (sends s) (events s) (send_cases s)) (sends s) (events s)) (IsSendKey s) (flat_map (send_groups s) (sends s)) (table (test is_case (sends s) (events s) (send_cases s)) 0 (sends s) (events s))
      (table_made send (test is_case (sends s) (events s) (send_cases s)) (sends s) (events s) 0 (sends s) (λ i x g. subst (λ n. slice_get (sends s) n ≡ Some x) (plus i) g))
      (λ g q m. record { instance = m.owner; event = m.event; send_there = m.owner_there; event_there = m.event_there; is = m.is }));
  own = subst (AllZip (AreCasesAt s) heads) (sym a.are_places) (zip_image (AreCasesAt s) (λ q. places_of q 0 keys) heads
      (λ q m x e b c. members_at is_case (sends s) (events s) (send_cases s) (send_cases s) 0 keys q.owner q.event x e all b c (λ i t g. subst (λ n. slice_get (send_cases s) n ≡ Some t) (plus i) g)));
  few = subst (Each (λ ls. length ls < 2 ^ 32)) (sym a.are_places) (few_each keys heads a.few);
}
  where
    plus : (i : ℕ) → i ≡ 0 + i
    plus i = omega arith

    all : AllZip (Matches is_case (sends s) (events s)) (send_cases s) keys
    all = subst (AllZip (Matches is_case (sends s) (events s)) (send_cases s)) (sym e) (zip_map (SendCaseIs ps s) (Matches is_case (sends s) (events s)) (λ x. record { owner = x.send; event = x.event }) (send_cases s) xs are (case_matches ps s checked))
