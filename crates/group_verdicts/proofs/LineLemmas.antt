-- A transition that stands on two lines has the same transitions before it on both.
use Rattle.std.proofs.Common.{◌≡◌, ℕ, zero, suc, ◌+◌, Bool, true, false, cond, ◌&&◌, List, [], ◌∷◌, ◌++◌, map, filter, take, Some, inl, inr, ⊎_elim, refl, sym, ap, ◌∙◌, subst, slice_get, true≢false, append-nil, add-one}
use Rattle.std.specs.Cmp.{first_so, second_so}
use Rattle.std.proofs.lemmas.List.{take-map}
use Rattle.std.proofs.lemmas.Option.{same_Some}
use Rattle.rsml_syntax.specs.declared.syntax.Spec.{Spec}
use Rattle.rsml_syntax.specs.limits.Checked.{IsChecked}
use Rattle.rsml_meaning.specs.Words.{Instance, Path, IsOne, is_prefix, is_proper_prefix}
use Rattle.rsml_meaning.specs.Transitions.{TransitionInstance, transitions, is_on, line}
use Rattle.rsml_meaning.specs.Groups.{Group, Member, case, function, members, send, send_case, state, transition}
use Rattle.rsml_meaning.specs.Interfaces.{is_case, send_cases}
use Rattle.rsml_meaning.proofs.Prefixes.{linear, prefix_append, prefix_rest, prefix_self, prefix_then, proper_append}
use Rattle.rsml_meaning.proofs.Same.{instance_same}
use Rattle.state_tree.proofs.Lists.{get_of_map, one_at}
use Rattle.ground_groups.specs.declared.group.Member.TheVariants as member
use Rattle.ground_groups.specs.Groups.{IsMemberAt, MemberIs}
use Rattle.ground_groups.proofs.Rising.{each_one}
use Rattle.group_verdicts.proofs.PairLemmas.{ArePairs}
use Rattle.group_verdicts.proofs.OrderLemmas.{transitions_in_order}
use Rattle.group_verdicts.proofs.SourceLemmas.{Precedes}

-- the transition is on the event, from the path or a prefix of it
abbrev on_line : Instance → Path → TransitionInstance → Bool
on_line e p t = is_on e t && is_prefix t.source p

of_filter : {A : Type 0} (t : A → Bool) (xs : List A) (x : A) → IsOne x (filter t xs) → IsOne x xs × (t x ≡ true)
of_filter t [] x m = absurd m
of_filter t (y ∷ xs) x m = by_test (t y) refl m (of_filter t xs x)
  where
    by_test : (b : Bool) → b ≡ t y → IsOne x (cond b (y ∷ filter t xs) (filter t xs)) → (IsOne x (filter t xs) → IsOne x xs × (t x ≡ true)) → IsOne x (y ∷ xs) × (t x ≡ true)
    by_test true e (inl p) f = (inl p, ap t p ∙ sym e)
    by_test true e (inr n) f = let r = f n in (inr r.0, r.1)
    by_test false e n f = let r = f n in (inr r.0, r.1)

-- of two transitions on a line, the source of the first is around that of the second, or is it
around : (e : Instance) (p : Path) (u t : TransitionInstance) → Precedes u t → on_line e p u ≡ true → on_line e p t ≡ true → is_prefix u.source t.source ≡ true
around e p u t before a b =
    let r = prefix_rest u.source p (second_so (is_on e u) (is_prefix u.source p) a) in
    let q = prefix_rest t.source p (second_so (is_on e t) (is_prefix t.source p) b) in
    ⊎_elim
    (λ h. subst (λ z. is_prefix u.source z ≡ true) (sym h.1) (prefix_append u.source h.0))
    (λ h. by_rest h.0 h.1)
    (linear u.source t.source r.0 q.0 (sym r.1 ∙ q.1))
  where
    by_rest : (r : Path) → u.source ≡ t.source ++ r → is_prefix u.source t.source ≡ true
    by_rest [] h = subst (λ z. is_prefix z t.source ≡ true) (sym (h ∙ append-nil t.source)) (prefix_self t.source)
    by_rest (x ∷ r) h = absurd (true≢false (sym (subst (λ z. is_proper_prefix t.source z ≡ true) (sym h) (proper_append t.source x r)) ∙ before.outside))

-- so the first is on each line that the second is on
on_other : (e : Instance) (p q : Path) (u t : TransitionInstance) → Precedes u t → on_line e p u ≡ true → on_line e p t ≡ true → on_line e q t ≡ true → on_line e q u ≡ true
on_other e p q u t before a b c = λ i.
    first_so (is_on e u) (is_prefix u.source p) a i && prefix_then u.source t.source q (around e p u t before a b) (second_so (is_on e t) (is_prefix t.source q) c) i

-- the transitions up to one that is on both lines
same_front : (e : Instance) (p q : Path) (t : TransitionInstance) (ts : List TransitionInstance) (j i : ℕ) → ArePairs Precedes ts → on_line e p t ≡ true → on_line e q t ≡ true
    → slice_get (filter (on_line e p) ts) j ≡ Some t → slice_get (filter (on_line e q) ts) i ≡ Some t → take (suc j) (filter (on_line e p) ts) ≡ take (suc i) (filter (on_line e q) ts)
same_front e p q t [] j i pairs a b h k = absurd (let no : ⊥ = cc in no)
same_front e p q t (u ∷ ts) j i pairs a b h k = by_tests (on_line e p u) (on_line e q u) refl refl (λ j i h k. same_front e p q t ts j i pairs.1 a b h k) j i h k
  where
    here : (z : TransitionInstance → Bool) → z t ≡ true → z u ≡ false → Some u ≡ Some t → ⊥
    here z on off same = true≢false (sym on ∙ ap z (sym (same_Some u t same)) ∙ off)

    behind : (z : TransitionInstance → Bool) (n : ℕ) → slice_get (filter z ts) n ≡ Some t → Precedes u t
    behind z n h = each_one (Precedes u) ts t pairs.0 (of_filter z ts t (one_at (filter z ts) n t h)).0

    by_tests : (x y : Bool) → on_line e p u ≡ x → on_line e q u ≡ y → ((j i : ℕ) → slice_get (filter (on_line e p) ts) j ≡ Some t → slice_get (filter (on_line e q) ts) i ≡ Some t → take (suc j) (filter (on_line e p) ts) ≡ take (suc i) (filter (on_line e q) ts))
        → (j i : ℕ) → slice_get (cond x (u ∷ filter (on_line e p) ts) (filter (on_line e p) ts)) j ≡ Some t → slice_get (cond y (u ∷ filter (on_line e q) ts) (filter (on_line e q) ts)) i ≡ Some t
        → take (suc j) (cond x (u ∷ filter (on_line e p) ts) (filter (on_line e p) ts)) ≡ take (suc i) (cond y (u ∷ filter (on_line e q) ts) (filter (on_line e q) ts))
    by_tests false false f g rest j i h k = rest j i h k
    by_tests true true f g rest zero zero h k = refl
    by_tests true true f g rest zero (suc i) h k = absurd ((behind (on_line e q) i k).other (same_Some u t h))
    by_tests true true f g rest (suc j) zero h k = absurd ((behind (on_line e p) j h).other (same_Some u t k))
    by_tests true true f g rest (suc j) (suc i) h k = ap (λ z. u ∷ z) (rest j i h k)
    by_tests true false f g rest zero i h k = absurd (here (on_line e q) b g h)
    by_tests true false f g rest (suc j) i h k = absurd (true≢false (sym (on_other e p q u t (behind (on_line e p) j h) f a b) ∙ g))
    by_tests false true f g rest j zero h k = absurd (here (on_line e p) a f k)
    by_tests false true f g rest j (suc i) h k = absurd (true≢false (sym (on_other e q p u t (behind (on_line e q) i k) g b a) ∙ f))

pub same_line : (s : Spec) → IsChecked s → (e f : Instance) (p q : Path) (t : TransitionInstance) (j i : ℕ) → slice_get (line s e p) j ≡ Some t → slice_get (line s f q) i ≡ Some t
    → take (suc j) (line s e p) ≡ take (suc i) (line s f q)
same_line s checked e f p q t j i h k =
    let a = (of_filter (on_line e p) (transitions s) t (one_at (line s e p) j t h)).1 in
    let b = (of_filter (on_line f q) (transitions s) t (one_at (line s f q) i t k)).1 in
    let event : f ≡ e = sym (instance_same t.event f (first_so (is_on f t) (is_prefix t.source q) b)) ∙ instance_same t.event e (first_so (is_on e t) (is_prefix t.source p) a) in
    let other : on_line e q t ≡ true = subst (λ z. on_line z q t ≡ true) event b in
    let there : slice_get (line s e q) i ≡ Some t = subst (λ z. slice_get (line s z q) i ≡ Some t) event k in
    same_front e p q t (transitions s) j i (transitions_in_order s checked) a other h there ∙ ap (λ z. take (suc i) (line s z q)) (sym event)

-- Groups.

-- The member at a place of a group is a transition, so the group is that of a state on an event.
record IsOnLine (s : Spec) (g : Group) (j k : ℕ) : Type 0 where
  path : Path
  event : Instance
  is : g ≡ state path event
  item : TransitionInstance
  there : slice_get (line s event path) j ≡ Some item
  number : slice_get (transitions s) k ≡ Some item

of_member : (s : Spec) (g : Group) (j k : ℕ) → IsMemberAt s g j (member.Transition k) → IsOnLine s g j k
of_member s (state p e) j k h =
    let r = get_of_map transition (line s e p) j h.0 h.1 in
    record { path = p; event = e; is = refl; item = r.0; there = r.1; number = subst (λ (m : Member). MemberIs s m (member.Transition k)) (sym r.2) h.2 }
of_member s (send x e) j k h =
    let r = get_of_map send_case (filter (is_case x e) (send_cases s)) j h.0 h.1 in
    absurd (subst (λ (m : Member). MemberIs s m (member.Transition k)) (sym r.2) h.2)
of_member s (function f) j k h =
    let r = get_of_map (case f.function) f.cases j h.0 h.1 in
    absurd (subst (λ (m : Member). MemberIs s m (member.Transition k)) (sym r.2) h.2)

-- where a transition is a member of two groups, the members up to it are the same
pub same_members : (s : Spec) → IsChecked s → (g h : Group) (k j i : ℕ) → IsMemberAt s g j (member.Transition k) → IsMemberAt s h i (member.Transition k) → take (j + 1) (members s g) ≡ take (i + 1) (members s h)
same_members s checked g h k j i a b =
    let one = of_member s g j k a in
    let other = of_member s h i k b in
    let item : other.item ≡ one.item = same_Some other.item one.item (sym other.number ∙ one.number) in
    let there : slice_get (line s other.event other.path) i ≡ Some one.item = subst (λ (t : TransitionInstance). slice_get (line s other.event other.path) i ≡ Some t) item other.there in
    let lines = same_line s checked one.event other.event one.path other.path one.item j i one.there there in
    ap (λ z. take (j + 1) (members s z)) one.is
    ∙ front j (line s one.event one.path)
    ∙ ap (λ z. map transition z) lines
    ∙ sym (front i (line s other.event other.path))
    ∙ ap (λ z. take (i + 1) (members s z)) (sym other.is)
  where
    front : (n : ℕ) (ts : List TransitionInstance) → take (n + 1) (map transition ts) ≡ map transition (take (suc n) ts)
    front n ts = take-map transition (n + 1) ts ∙ ap (λ z. map transition (take z ts)) (add-one n)
