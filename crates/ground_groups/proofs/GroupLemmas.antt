-- Groups by place.
use Rattle.std.proofs.Common.{◌≡◌, ℕ, zero, suc, ◌+◌, ◌<◌, ◌≤◌, ◌-◌, ◌^◌, List, [], ◌∷◌, ◌++◌, map, filter, flat_map, length, Option, Some, None, ⊎_elim, refl, sym, ap, ◌∙◌, subst, slice_get, slice_index_or, get_or, arith, length-append}
use Rattle.std.specs.List.{AllZip}
use Rattle.std.proofs.lemmas.List.{length-map}
use Rattle.std.proofs.lemmas.Option.{same_Some}
use Rattle.rsml_syntax.specs.declared.syntax.Spec.{Spec}
use Rattle.rsml_meaning.specs.Instances.{states, events}
use Rattle.rsml_meaning.specs.Transitions.{TransitionInstance, transitions}
use Rattle.rsml_meaning.specs.Interfaces.{functions, sends, FunctionInstance, send_cases, is_case}
use Rattle.rsml_meaning.specs.Groups.{state, Group, function, groups, state_groups, send_groups, members, transition, send_case, case}
use Rattle.state_tree.specs.Numbers.{path_of}
use Rattle.state_tree.proofs.Lists.{as_long, within_get, get_of_map, get_map, beside, one_at, get_within}
use Rattle.state_tree.proofs.Kin.{get_index}
use Rattle.std.proofs.lemmas.Bool.{cases_lt}
use Rattle.ground_groups.specs.declared.key.Key.{Key}
use Rattle.ground_groups.specs.declared.functions.FunctionGroup.{FunctionGroup}
use Rattle.ground_groups.specs.declared.stored.Stored.{Stored}
use Rattle.ground_groups.specs.declared.group.GroupKind.TheVariants as kinds
use Rattle.rsml_syntax.specs.limits.Checked.{IsChecked}
use Rattle.ground_groups.specs.Below.{AreThere, below_of}
use Rattle.ground_groups.proofs.Inside.{below_right}
use Rattle.ground_groups.specs.Groups.{AreBelow, KindIs, IsMemberAt}
use Rattle.ground_groups.specs.declared.group.Member.TheVariants as member
use Rattle.ground_groups.specs.declared.lines.Line.{Line}
use Rattle.ground_groups.specs.Stored.{IsStateKey, IsSendKey, IsFunctionGroup, event_at, IsLine, IsOuter, line_of, own_of, AreCasesAt, ArePlaces, AreStateLots, AreSendLots, AreStored}
use Rattle.ground_groups.specs.Places.{IsStored, IsTransitionAt}
use Rattle.ground_groups.proofs.Rising.{each_one}
use Rattle.ground_groups.proofs.LineLemmas.{lower_place}
use Rattle.std.specs.Option.{option_map}
use Rattle.state_arrays.specs.Places.{path_at}
use Rattle.ground_groups.proofs.StateLots.{path_here, event_here}

-- Lists one behind another.

front_get : {A : Type 0} (xs ys : List A) (i : ℕ) (x : A) → slice_get (xs ++ ys) i ≡ Some x → i < length xs → slice_get xs i ≡ Some x
front_get [] ys i x h l = absurd (omega (arith, l))
front_get (z ∷ xs) ys zero x h l = h
front_get (z ∷ xs) ys (suc i) x h l = front_get xs ys i x h (omega (arith, l))

back_get : {A : Type 0} (xs ys : List A) (i j : ℕ) (x : A) → slice_get (xs ++ ys) i ≡ Some x → i ≡ length xs + j → slice_get ys j ≡ Some x
back_get [] ys i j x h e = subst (λ n. slice_get ys n ≡ Some x) (e ∙ none) h
  where
    none : 0 + j ≡ j
    none = omega arith
back_get (z ∷ xs) ys zero j x h e = absurd (omega (arith, e))
back_get (z ∷ xs) ys (suc i) j x h e = back_get xs ys i j x h (omega (arith, e))

beside_both : {A B : Type 0} (R : A → B → Type 0) (xs : List A) (ys : List B) (i : ℕ) (x : A) (y : B) → AllZip R xs ys → slice_get xs i ≡ Some x → slice_get ys i ≡ Some y → R x y
beside_both R [] [] i x y h e f = absurd (let no : ⊥ = cc in no)
beside_both R (a ∷ xs) (b ∷ ys) zero x y h e f = subst (R x) (same_Some b y f) (subst (λ z. R z b) (same_Some a x e) h.0)
beside_both R (a ∷ xs) (b ∷ ys) (suc i) x y h e f = beside_both R xs ys i x y h.1 e f
beside_both R [] (b ∷ ys) i x y h e f = elim h [ ]
beside_both R (a ∷ xs) [] i x y h e f = elim h [ ]

pub get_at : {A : Type 0} (xs ys : List A) (i : ℕ) (d : A) → xs ≡ ys → i < length ys → slice_get ys i ≡ Some (slice_index_or xs i d)
get_at xs ys i d e l = subst (λ z. slice_get ys i ≡ Some (slice_index_or z i d)) (sym e) (there ys i l)
  where
    there : (zs : List _) (n : ℕ) → n < length zs → slice_get zs n ≡ Some (slice_index_or zs n d)
    there [] n m = absurd (omega (arith, m))
    there (z ∷ zs) zero m = refl
    there (z ∷ zs) (suc n) m = there zs n (omega (arith, m))

pub item_at : {A : Type 0} (xs : List A) (i : ℕ) (x d : A) → i < length xs → x ≡ get_or xs i d → slice_get xs i ≡ Some x
item_at [] i x d l e = absurd (omega (arith, l))
item_at (y ∷ xs) zero x d l e = ap (λ z. Some z) (sym e)
item_at (y ∷ xs) (suc i) x d l e = item_at xs i x d (omega (arith, l)) e

pub list_at : {A : Type 0} (f : A → List ℕ) (ps : List A) (i : ℕ) (v d : A) → i < length ps → v ≡ get_or ps i d → slice_get (map f ps) i ≡ Some (f v)
list_at f ps i v d l e = get_map f ps i v (item_at ps i v d l e)

get_front : {A : Type 0} (xs ys : List A) (i : ℕ) (x : A) → slice_get xs i ≡ Some x → slice_get (xs ++ ys) i ≡ Some x
get_front [] ys i x h = absurd (let no : ⊥ = cc in no)
get_front (z ∷ xs) ys zero x h = h
get_front (z ∷ xs) ys (suc i) x h = get_front xs ys i x h

get_behind : {A : Type 0} (xs ys : List A) (i j : ℕ) (x : A) → slice_get ys j ≡ Some x → i ≡ length xs + j → slice_get (xs ++ ys) i ≡ Some x
get_behind [] ys i j x h e = subst (λ n. slice_get ys n ≡ Some x) (sym (e ∙ none)) h
  where
    none : 0 + j ≡ j
    none = omega arith
get_behind (z ∷ xs) ys zero j x h e = absurd (omega (arith, e))
get_behind (z ∷ xs) ys (suc i) j x h e = get_behind xs ys i j x h (omega (arith, e))

all_functions_zip : (s : Spec) (fs : List FunctionInstance) (xs : List FunctionGroup) → AllZip (IsFunctionGroup s) fs xs → length (map function fs) ≡ length xs
all_functions_zip s fs xs h = length-map fs function ∙ as_long (IsFunctionGroup s) fs xs h

module _ (s : Spec) (x : Stored) (h : IsStored s x) where
  states_long : length (flat_map (λ y. state_groups s y.path) (states s)) ≡ length x.states.heads.keys
  states_long = as_long (IsStateKey s) (flat_map (λ y. state_groups s y.path) (states s)) x.states.heads.keys h.of_states.groups

  sends_long : length (flat_map (send_groups s) (sends s)) ≡ length x.sends.heads.keys
  sends_long = as_long (IsSendKey s) (flat_map (send_groups s) (sends s)) x.sends.heads.keys h.of_sends.groups

  pub groups_long : length (groups s) ≡ length x.states.heads.keys + (length x.sends.heads.keys + length x.functions.items)
  groups_long =
      let a = length-append (flat_map (λ y. state_groups s y.path) (states s)) (flat_map (send_groups s) (sends s) ++ map function (functions s)) in
      let b = length-append (flat_map (send_groups s) (sends s)) (map function (functions s)) in
      let c = all_functions_zip s (functions s) x.functions.items h.of_functions in
      let d = states_long in
      let e = sends_long in
      omega (arith, a, b, c, d, e)

  pub state_group : (group place : ℕ) (g : Group) (q : Key) → slice_get (groups s) group ≡ Some g → group ≡ place → place < length x.states.heads.keys → slice_get x.states.heads.keys place ≡ Some q → IsStateKey s g q
  state_group group place g q e p l k =
      let d = states_long in
      beside_both (IsStateKey s) (flat_map (λ y. state_groups s y.path) (states s)) x.states.heads.keys place g q h.of_states.groups
      (front_get (flat_map (λ y. state_groups s y.path) (states s)) (flat_map (send_groups s) (sends s) ++ map function (functions s)) place g (subst (λ n. slice_get (groups s) n ≡ Some g) p e) (omega (arith, l, d))) k

  behind_states : (group place : ℕ) (g : Group) → slice_get (groups s) group ≡ Some g → group ≡ length x.states.heads.keys + place → slice_get (flat_map (send_groups s) (sends s) ++ map function (functions s)) place ≡ Some g
  behind_states group place g e p =
      back_get (flat_map (λ y. state_groups s y.path) (states s)) (flat_map (send_groups s) (sends s) ++ map function (functions s)) group place g e (let d = states_long in omega (arith, p, d))

  pub send_group : (group place : ℕ) (g : Group) (q : Key) → slice_get (groups s) group ≡ Some g → group ≡ length x.states.heads.keys + place → place < length x.sends.heads.keys → slice_get x.sends.heads.keys place ≡ Some q → IsSendKey s g q
  send_group group place g q e p l k =
      let d = sends_long in
      beside_both (IsSendKey s) (flat_map (send_groups s) (sends s)) x.sends.heads.keys place g q h.of_sends.groups
      (front_get (flat_map (send_groups s) (sends s)) (map function (functions s)) place g (behind_states group place g e p) (omega (arith, l, d))) k

  pub function_group : (group place : ℕ) (g : Group) (f : FunctionGroup) → slice_get (groups s) group ≡ Some g → group ≡ length x.states.heads.keys + (length x.sends.heads.keys + place) → slice_get x.functions.items place ≡ Some f
      → (i : FunctionInstance) × (g ≡ function i) × IsFunctionGroup s i f
  function_group group place g f e p k =
      let d = sends_long in
      let r = get_of_map function (functions s) place g (back_get (flat_map (send_groups s) (sends s)) (map function (functions s)) (length x.sends.heads.keys + place) place g (behind_states group (length x.sends.heads.keys + place) g e p) (omega (arith, d))) in
      (r.0, sym r.2, beside_both (IsFunctionGroup s) (functions s) x.functions.items place r.0 f h.of_functions r.1 k)

  -- Kinds.

  pub state_kind : (group place : ℕ) (g : Group) (q : Key) → slice_get (groups s) group ≡ Some g → group ≡ place → place < length x.states.heads.keys → slice_get x.states.heads.keys place ≡ Some q → KindIs s g (kinds.State q.owner q.event)
  state_kind group place g q e p l k =
      let r = state_group group place g q e p l k in
      subst (λ z. KindIs s z (kinds.State q.owner q.event)) (sym r.is) (path_at_of q.owner r.state_there, event_at_of q.event r.event_there)
    where
      path_at_of : (n : ℕ) → n < length (states s) → path_at (states s) n ≡ Some (path_of s n)
      path_at_of n m =
          let r = within_get (states s) n m in
          ap (option_map (λ y. y.path)) r.1 ∙ ap (λ z. Some z) (sym (path_here s n r.0 r.1))

      event_at_of : (n : ℕ) → n < length (events s) → slice_get (events s) n ≡ Some (event_at s n)
      event_at_of n m = let r = within_get (events s) n m in r.1 ∙ ap (λ z. Some z) (sym (event_here s n r.0 r.1))

  pub send_kind : (group place : ℕ) (g : Group) (q : Key) → slice_get (groups s) group ≡ Some g → group ≡ length x.states.heads.keys + place → place < length x.sends.heads.keys → slice_get x.sends.heads.keys place ≡ Some q → KindIs s g (kinds.Send q.owner q.event)
  send_kind group place g q e p l k =
      let r = send_group group place g q e p l k in
      subst (λ z. KindIs s z (kinds.Send q.owner q.event)) (sym r.is) (r.send_there, r.event_there)

  pub function_kind : (group place : ℕ) (g : Group) (f : FunctionGroup) → slice_get (groups s) group ≡ Some g → group ≡ length x.states.heads.keys + (length x.sends.heads.keys + place) → slice_get x.functions.items place ≡ Some f → KindIs s g (kinds.Function f.function)
  function_kind group place g f e p k = let r = function_group group place g f e p k in subst (λ z. KindIs s z (kinds.Function f.function)) (sym r.1) r.2.there

  -- Members.

  pub lines_count : length x.lines.items ≡ length x.states.heads.keys
  lines_count = sym (as_long (IsLine s x.states.heads.keys) x.states.heads.keys x.lines.items h.lines_are)

  pub line_at : (place : ℕ) (q : Key) (l d : Line) → slice_get x.states.heads.keys place ≡ Some q → place < length x.lines.items → l ≡ get_or x.lines.items place d → IsLine s x.states.heads.keys q l
  line_at place q l d e m k = beside_both (IsLine s x.states.heads.keys) x.states.heads.keys x.lines.items place q l h.lines_are e (item_at x.lines.items place l d m k)

  pub state_members : (group place : ℕ) (g : Group) (q : Key) (l d : Line) → slice_get (groups s) group ≡ Some g → group ≡ place → slice_get x.states.heads.keys place ≡ Some q → place < length x.states.heads.keys → place < length x.lines.items
      → l ≡ get_or x.lines.items place d → l.members ≡ length (members s g)
  state_members group place g q l d e p k m n o =
      let r = state_group group place g q e p m k in
      (line_at place q l d k n o).members ∙ sym (length-map (line_of s q) transition) ∙ ap (λ z. length (members s z)) (sym r.is)

  pub sends_count : length x.sends.places.items ≡ length x.sends.heads.keys
  sends_count = sym (length-map x.sends.places.items (λ l. l.items)) ∙ sym (as_long (AreCasesAt s) x.sends.heads.keys (map (λ l. l.items) x.sends.places.items) h.of_sends.own)

  pub states_count : length x.states.places.items ≡ length x.states.heads.keys
  states_count = sym (length-map x.states.places.items (λ l. l.items)) ∙ sym (as_long (λ q ls. ArePlaces (transitions s) (own_of s q) ls) x.states.heads.keys (map (λ l. l.items) x.states.places.items) h.of_states.own)

  pub few_cases : (place : ℕ) (v : List ℕ) → slice_get (map (λ l. l.items) x.sends.places.items) place ≡ Some v → length v < 2 ^ 32
  few_cases place v e = each_one (λ ls. length ls < 2 ^ 32) (map (λ l. l.items) x.sends.places.items) v h.of_sends.few (one_at (map (λ l. l.items) x.sends.places.items) place v e)

  cases_at : (group place : ℕ) (g : Group) (q : Key) (v : List ℕ) → slice_get (groups s) group ≡ Some g → group ≡ length x.states.heads.keys + place → place < length x.sends.heads.keys → slice_get x.sends.heads.keys place ≡ Some q
      → slice_get (map (λ l. l.items) x.sends.places.items) place ≡ Some v → (r : IsSendKey s g q) × ArePlaces (send_cases s) (filter (is_case r.instance r.event) (send_cases s)) v
  cases_at group place g q v e p l k m =
      let r = send_group group place g q e p l k in
      (r, beside_both (AreCasesAt s) x.sends.heads.keys (map (λ l. l.items) x.sends.places.items) place q v h.of_sends.own k m r.instance r.event r.send_there r.event_there)

  pub send_members : (group place : ℕ) (g : Group) (q : Key) (v : List ℕ) → slice_get (groups s) group ≡ Some g → group ≡ length x.states.heads.keys + place → place < length x.sends.heads.keys → slice_get x.sends.heads.keys place ≡ Some q
      → slice_get (map (λ l. l.items) x.sends.places.items) place ≡ Some v → length v ≡ length (members s g)
  send_members group place g q v e p l k m =
      let r = cases_at group place g q v e p l k m in
      sym (as_long (λ c i. slice_get (send_cases s) i ≡ Some c) (filter (is_case r.0.instance r.0.event) (send_cases s)) v r.1) ∙ sym (length-map (filter (is_case r.0.instance r.0.event) (send_cases s)) send_case)
      ∙ ap (λ z. length (members s z)) (sym r.0.is)

  pub function_members : (group place : ℕ) (g : Group) (f : FunctionGroup) → slice_get (groups s) group ≡ Some g → group ≡ length x.states.heads.keys + (length x.sends.heads.keys + place) → slice_get x.functions.items place ≡ Some f → f.cases ≡ length (members s g)
  function_members group place g f e p k =
      let r = function_group group place g f e p k in
      r.2.cases ∙ sym (length-map r.0.cases (case r.0.function)) ∙ ap (λ z. length (members s z)) (sym r.1)

  -- States below.

  pub below_count : length x.below.items ≡ length x.states.heads.keys
  below_count = sym (length-map x.below.items (λ l. l.items)) ∙ ap length h.below_is ∙ length-map x.states.heads.keys (below_of s x.states.heads.keys)

  pub state_below : (group place : ℕ) (g : Group) (q : Key) (v : List ℕ) → slice_get (groups s) group ≡ Some g → group ≡ place → place < length x.states.heads.keys → slice_get x.states.heads.keys place ≡ Some q → slice_get (map (λ l. l.items) x.below.items) place ≡ Some v
      → AreBelow s g v
  state_below group place g q v e p l k m =
      let r = state_group group place g q e p l k in
      let is = same_Some (below_of s x.states.heads.keys q) v (sym (get_map (below_of s x.states.heads.keys) x.states.heads.keys place q k) ∙ ap (λ z. slice_get z place) (sym h.below_is) ∙ m) in
      subst (λ z. AreBelow s z v) (sym r.is) (subst (AreBelow s (state (path_of s q.owner) (event_at s q.event))) is
      (below_right s h.checked x.states.heads.keys (map (λ l. l.items) x.states.places.items) q h.of_states r.state_there r.event_there))

  pub send_below : (group place : ℕ) (g : Group) (q : Key) → slice_get (groups s) group ≡ Some g → group ≡ length x.states.heads.keys + place → place < length x.sends.heads.keys → slice_get x.sends.heads.keys place ≡ Some q → AreBelow s g []
  send_below group place g q e p l k = let r = send_group group place g q e p l k in subst (λ z. AreBelow s z []) (sym r.is) (λ n m. m)

  pub function_below : (group place : ℕ) (g : Group) (f : FunctionGroup) → slice_get (groups s) group ≡ Some g → group ≡ length x.states.heads.keys + (length x.sends.heads.keys + place) → slice_get x.functions.items place ≡ Some f → AreBelow s g []
  function_below group place g f e p k = let r = function_group group place g f e p k in subst (λ z. AreBelow s z []) (sym r.1) (λ n m. m)

  -- The member at a place.

  pub send_member : (group place : ℕ) (g : Group) (q : Key) (v : List ℕ) (n k : ℕ) → slice_get (groups s) group ≡ Some g → group ≡ length x.states.heads.keys + place → place < length x.sends.heads.keys → slice_get x.sends.heads.keys place ≡ Some q
      → slice_get (map (λ l. l.items) x.sends.places.items) place ≡ Some v → slice_get v n ≡ Some k → IsMemberAt s g n (member.SendCase k)
  send_member group place g q v n k e p l o m i =
      let r = cases_at group place g q v e p l o m in
      let c = beside (λ c i. slice_get (send_cases s) i ≡ Some c) (filter (is_case r.0.instance r.0.event) (send_cases s)) v n k r.1 i in
      subst (λ z. IsMemberAt s z n (member.SendCase k)) (sym r.0.is) (send_case c.0, get_map send_case (filter (is_case r.0.instance r.0.event) (send_cases s)) n c.0 c.1, c.2)

  pub function_member : (group place : ℕ) (g : Group) (f : FunctionGroup) (n : ℕ) → slice_get (groups s) group ≡ Some g → group ≡ length x.states.heads.keys + (length x.sends.heads.keys + place) → slice_get x.functions.items place ≡ Some f → n < length (members s g)
      → IsMemberAt s g n (member.FunctionCase f.function n)
  function_member group place g f n e p k l =
      let r = function_group group place g f e p k in
      let m = ap (λ z. length (members s z)) r.1 ∙ length-map r.0.cases (case r.0.function) in
      let c = within_get r.0.cases n (omega (arith, l, m)) in
      subst (λ z. IsMemberAt s z n (member.FunctionCase f.function n)) (sym r.1)
      (case r.0.function c.0, get_map (case r.0.function) r.0.cases n c.0 c.1, record { instance = r.0; there = r.2.there; is = refl; case_is = c.1 })

  pub state_line : (group place : ℕ) (g : Group) (q : Key) (n : ℕ) → slice_get (groups s) group ≡ Some g → group ≡ place → place < length x.states.heads.keys → slice_get x.states.heads.keys place ≡ Some q → n < length (members s g) → n < length (line_of s q)
  state_line group place g q n e p l k m =
      let r = state_group group place g q e p l k in
      let o = ap (λ z. length (members s z)) r.is ∙ length-map (line_of s q) transition in
      omega (arith, m, o)

  pub state_member : (group place : ℕ) (g : Group) (q : Key) (n k : ℕ) → slice_get (groups s) group ≡ Some g → group ≡ place → place < length x.states.heads.keys → slice_get x.states.heads.keys place ≡ Some q → IsTransitionAt s (line_of s q) n k → IsMemberAt s g n (member.Transition k)
  state_member group place g q n k e p l m t =
      let r = state_group group place g q e p l m in
      subst (λ z. IsMemberAt s z n (member.Transition k)) (sym r.is) (transition t.0, get_map transition (line_of s q) n t.0 t.1, t.2)

  -- Lines.

  own_at : (at : ℕ) (q : Key) (v : List ℕ) → slice_get x.states.heads.keys at ≡ Some q → slice_get (map (λ l. l.items) x.states.places.items) at ≡ Some v → ArePlaces (transitions s) (own_of s q) v
  own_at at q v e m = beside_both (λ q ls. ArePlaces (transitions s) (own_of s q) ls) x.states.heads.keys (map (λ l. l.items) x.states.places.items) at q v h.of_states.own e m

  -- a line is what is before, and then its own
  record Split (q : Key) (l : Line) : Type 0 where
    pub before : List TransitionInstance
    pub is : line_of s q ≡ before ++ own_of s q
    pub outer : (o : ℕ) → l.outer ≡ Some o → (k : Key) × (slice_get x.states.heads.keys o ≡ Some k) × (k.owner < q.owner) × (before ≡ line_of s k)
    pub none : l.outer ≡ None → before ≡ []

  split : (q : Key) (l : Line) → IsLine s x.states.heads.keys q l → Split q l
  split q l i = by_outer l.outer refl i.outer
    where
      by_outer : (o : Option ℕ) → l.outer ≡ o → IsOuter s x.states.heads.keys q o → Split q l
      by_outer None e k = record { before = []; is = k; outer = λ o f. absurd (let g = sym e ∙ f in let no : ⊥ = cc in no); none = λ f. refl }
      by_outer (Some g) e k = record {
        before = line_of s k.0;
        is = k.3;
        outer = λ o f. (k.0, subst (λ n. slice_get x.states.heads.keys n ≡ Some k.0) (same_Some g o (sym e ∙ f)) k.1, k.2, refl);
        none = λ f. absurd (let g = sym e ∙ f in let no : ⊥ = cc in no);
      }

  -- how many are before
  pub own_within : (at : ℕ) (q : Key) (l : Line) (v : List ℕ) → slice_get x.states.heads.keys at ≡ Some q → slice_get (map (λ l. l.items) x.states.places.items) at ≡ Some v → IsLine s x.states.heads.keys q l → length v ≤ l.members
  own_within at q l v e m i =
      let r = split q l i in
      let a = i.members in
      let b = ap length r.is in
      let c = length-append r.before (own_of s q) in
      let d = as_long (λ t i. slice_get (transitions s) i ≡ Some t) (own_of s q) v (own_at at q v e m) in
      omega (arith, a, b, c, d)

  before_long : (q : Key) (l : Line) (v : List ℕ) (first : ℕ) → (r : Split q l) → l.members ≡ length (line_of s q) → ArePlaces (transitions s) (own_of s q) v → first ≡ l.members - length v → first ≡ length r.before
  before_long q l v first r a p f =
      let b = ap length r.is in
      let c = length-append r.before (own_of s q) in
      let d = as_long (λ t i. slice_get (transitions s) i ≡ Some t) (own_of s q) v p in
      omega (arith, a, b, c, d, f)

  pub own_transition : (at : ℕ) (q : Key) (l : Line) (v : List ℕ) (first n k : ℕ) → slice_get x.states.heads.keys at ≡ Some q → slice_get (map (λ l. l.items) x.states.places.items) at ≡ Some v → IsLine s x.states.heads.keys q l
      → first ≡ l.members - length v → first ≤ n → slice_get v (n - first) ≡ Some k → IsTransitionAt s (line_of s q) n k
  own_transition at q l v first n k e m i f o g =
      let r = split q l i in
      let p = own_at at q v e m in
      let b = before_long q l v first r i.members p f in
      let c = beside (λ t i. slice_get (transitions s) i ≡ Some t) (own_of s q) v (n - first) k p g in
      (c.0, subst (λ ts. slice_get ts n ≡ Some c.0) (sym r.is) (get_behind r.before (own_of s q) n (n - first) c.0 c.1 (omega (arith, b, o))), c.2)

  -- a place past what is before is one of its own
  pub own_room : (at : ℕ) (q : Key) (l : Line) (v : List ℕ) (first n : ℕ) → slice_get x.states.heads.keys at ≡ Some q → slice_get (map (λ l. l.items) x.states.places.items) at ≡ Some v → IsLine s x.states.heads.keys q l
      → first ≡ l.members - length v → first ≤ n → n < length (line_of s q) → n - first < length v
  own_room at q l v first n e m i f o g =
      let w = own_within at q l v e m i in
      let a = i.members in
      omega (arith, w, a, f, o, g)

  -- the key of the line before, where the place is in that
  pub outer_there : (at : ℕ) (q : Key) (l : Line) (v : List ℕ) (first n o : ℕ) → slice_get x.states.heads.keys at ≡ Some q → slice_get (map (λ l. l.items) x.states.places.items) at ≡ Some v → IsLine s x.states.heads.keys q l
      → first ≡ l.members - length v → n < first → l.outer ≡ Some o → (k : Key) × (slice_get x.states.heads.keys o ≡ Some k) × (o < at) × (n < length (line_of s k)) × ((t : TransitionInstance) → slice_get (line_of s k) n ≡ Some t → slice_get (line_of s q) n ≡ Some t)
  outer_there at q l v first n o e m i f g j =
      let r = split q l i in
      let p = own_at at q v e m in
      let b = before_long q l v first r i.members p f in
      let k = r.outer o j in
      let len = ap length k.3 in (
        k.0,
        k.1,
        lower_place x.states.heads.keys o at k.0 q h.of_states.rising k.1 e k.2,
        omega (arith, b, g, len),
        λ t z. subst (λ ts. slice_get ts n ≡ Some t) (sym r.is) (get_front r.before (own_of s q) n t (subst (λ ts. slice_get ts n ≡ Some t) (sym k.3) z)),
      )

  pub no_outer_there : (at : ℕ) (q : Key) (l : Line) (v : List ℕ) (first n : ℕ) → slice_get x.states.heads.keys at ≡ Some q → slice_get (map (λ l. l.items) x.states.places.items) at ≡ Some v → IsLine s x.states.heads.keys q l
      → first ≡ l.members - length v → n < first → l.outer ≡ None → ⊥
  no_outer_there at q l v first n e m i f g j =
      let r = split q l i in
      let b = before_long q l v first r i.members (own_at at q v e m) f in
      let z = ap length (r.none j) in
      omega (arith, b, g, z)

-- how many members a group has does not hang on the specification, but on what is stored
pub members_same : (s t : Spec) (x : Stored) → IsStored s x → IsStored t x → (group : ℕ) (g k : Group) → slice_get (groups s) group ≡ Some g → slice_get (groups t) group ≡ Some k → length (members s g) ≡ length (members t k)
members_same s t x h j group g k e f = ⊎_elim of_state
    (λ l. ⊎_elim (of_send l) (of_function l) (cases_lt (group - length x.states.heads.keys) (length x.sends.heads.keys)))
    (cases_lt group (length x.states.heads.keys))
  where
    of_state : group < length x.states.heads.keys → length (members s g) ≡ length (members t k)
    of_state l =
        let c = lines_count s x h in
        let m : group < length x.lines.items = omega (arith, l, c) in
        let q = within_get x.states.heads.keys group l in
        let y = within_get x.lines.items group m in
        let i = sym (get_index x.lines.items group y.0 y.0 y.1) in
        sym (state_members s x h group group g q.0 y.0 y.0 e refl q.1 l m i) ∙ state_members t x j group group k q.0 y.0 y.0 f refl q.1 l m i

    of_send : length x.states.heads.keys ≤ group → group - length x.states.heads.keys < length x.sends.heads.keys → length (members s g) ≡ length (members t k)
    of_send l m =
        let place = group - length x.states.heads.keys in
        let p : group ≡ length x.states.heads.keys + place = omega (arith, l) in
        let c = sends_count s x h in
        let n = length-map x.sends.places.items (λ l. l.items) in
        let q = within_get x.sends.heads.keys place m in
        let v = within_get (map (λ l. l.items) x.sends.places.items) place (omega (arith, m, c, n)) in
        sym (send_members s x h group place g q.0 v.0 e p m q.1 v.1) ∙ send_members t x j group place k q.0 v.0 f p m q.1 v.1

    of_function : length x.states.heads.keys ≤ group → length x.sends.heads.keys ≤ group - length x.states.heads.keys → length (members s g) ≡ length (members t k)
    of_function l m =
        let place = group - length x.states.heads.keys - length x.sends.heads.keys in
        let p : group ≡ length x.states.heads.keys + (length x.sends.heads.keys + place) = omega (arith, l, m) in
        let a = groups_long s x h in
        let b = get_within (groups s) group g e in
        let y = within_get x.functions.items place (omega (arith, a, b, l, m)) in
        sym (function_members s x h group place g y.0 e p y.1) ∙ function_members t x j group place k y.0 f p y.1

-- the parts that are stored
pub all_stored : (s t u : Spec) (keys : List Key) (places : List (List ℕ)) (ls : List Line) (below : List (List ℕ)) (send_keys : List Key) (send_places : List (List ℕ)) (fs : List FunctionGroup) (count : ℕ) → t ≡ s → u ≡ s → IsChecked s → AreStateLots s keys places
    → AllZip (IsLine u keys) keys ls → below ≡ map (below_of u keys) keys → AreSendLots s send_keys send_places → AllZip (IsFunctionGroup s) (functions s) fs → count ≡ length keys + (length send_keys + length fs) → AreStored t keys places ls below send_keys send_places fs count
all_stored s t u keys places ls below send_keys send_places fs count e f checked a b k c d n = subst (λ z. AreStored z keys places ls below send_keys send_places fs count) (sym e) record {
  checked = checked;
  of_states = a;
  below_is = k ∙ (λ i. map (below_of (f i) keys) keys);
  lines_are = subst (λ z. AllZip (IsLine z keys) keys ls) f b;
  of_sends = c;
  of_functions = d;
  count_is = n;
}

each_there : (s : Spec) (gs : List Group) (keys : List Key) → AllZip (IsStateKey s) gs keys → AreThere s keys
each_there s [] [] h = tt
each_there s (g ∷ gs) (q ∷ keys) h = (h.0.state_there, each_there s gs keys h.1)
each_there s [] (q ∷ keys) h = elim h [ ]
each_there s (g ∷ gs) [] h = elim h [ ]

-- the keys of groups of states are of states
pub keys_there : (s t : Spec) (heads keys : List Key) (places : List (List ℕ)) → t ≡ s → keys ≡ heads → AreStateLots s heads places → AreThere t keys
keys_there s t heads keys places e f h = subst (λ z. AreThere z keys) (sym e) (subst (AreThere s) (sym f) (each_there s (flat_map (λ y. state_groups s y.path) (states s)) heads h.groups))
