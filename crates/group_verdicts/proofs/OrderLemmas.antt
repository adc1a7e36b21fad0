-- Each transition of a checked specification stands once, and none comes after one from inside its source.
use Rattle.std.proofs.Common.{◌≡◌, ℕ, suc, ◌<◌, ◌≤◌, false, ◌&&◌, List, [], ◌∷◌, map, flat_map, filter_map, Option, Some, None, ⊎_elim, inl, inr, refl, ap, ◌∙◌, subst, slice_get, arith, nat_le, nat_lt}
use Rattle.std.specs.List.{cons_option}
use Rattle.std.proofs.lemmas.Bool.Decides.{nat_tests}
use Rattle.rsml_syntax.specs.declared.syntax.Spec.{Spec}
use Rattle.rsml_syntax.specs.declared.syntax.Transition.{Transition}
use Rattle.rsml_syntax.specs.text.Names.{Name}
use Rattle.rsml_syntax.specs.rules.Globals.{Globals}
use Rattle.rsml_syntax.specs.limits.Checked.{IsChecked}
use Rattle.rsml_syntax.proofs.Clean.{each_append}
use Rattle.rsml_meaning.specs.Words.{Each, IsOne, Path, at, is_prefix, numbered, numbered_from, item_of}
use Rattle.rsml_meaning.specs.Instances.{State, Component, states, globals_of}
use Rattle.rsml_meaning.specs.Transitions.{TransitionInstance, transitions, transitions_of, new_transition, sources}
use Rattle.rsml_meaning.proofs.Prefixes.{head_or, prefix_off}
use Rattle.state_tree.proofs.Lists.{each_flat_map, get_map}
use Rattle.state_tree.proofs.Spread.{end_is}
use Rattle.ground_groups.proofs.Rising.{each_one, each_so}
use Rattle.group_verdicts.proofs.BusLemmas.{IsFit, all_fit, sources_apart}
use Rattle.group_verdicts.proofs.PairLemmas.{ArePairs, each_map, one_split, pairs_append, pairs_at, pairs_map}
use Rattle.group_verdicts.proofs.SourceLemmas.{IsOf, Precedes, across, beside}

-- One component.

module _ (g : Globals) (c : Component) where
  abbrev made : ℕ × Transition → List TransitionInstance
  made t = map (new_transition g c t) (sources c (item_of t).source)

  is_of : (t : ℕ × Transition) (name : Name) → IsOf c.path (new_transition g c t name)
  is_of t name = record { in_it = refl; step = at name 0; from = refl }

  all_of : (ts : List (ℕ × Transition)) → Each (IsOf c.path) (flat_map made ts)
  all_of ts = each_flat_map (IsOf c.path) made ts (λ t m. each_map (IsOf c.path) (new_transition g c t) (sources c (item_of t).source) (is_of t))

  one_name : (t : ℕ × Transition) (x y : Name) → new_transition g c t x ≡ new_transition g c t y → x ≡ y
  one_name t x y e =
      let steps = prefix_off c.path (at x 0 ∷ []) (at y 0 ∷ []) (ap (λ (z : TransitionInstance). z.source) e) in
      ap (λ (p : Path). (head_or (at x 0) p).name) steps

  later : (n : ℕ) (ts : List Transition) → Each (λ u. n ≤ u.ordinal) (flat_map made (numbered_from n ts))
  later n [] = tt
  later n (t ∷ ts) = each_append (λ u. n ≤ u.ordinal) (made (n, t)) (flat_map made (numbered_from (suc n) ts))
      (each_map (λ u. n ≤ u.ordinal) (new_transition g c (n, t)) (sources c t.source) (λ name. omega arith))
      (each_so (λ u. suc n ≤ u.ordinal) (λ u. n ≤ u.ordinal) (flat_map made (numbered_from (suc n) ts)) (λ u l. omega (arith, l)) (later (suc n) ts))

  of_numbered : ((name : Name) → ArePairs (λ x y. x ≡ y → ⊥) (sources c name)) → (n : ℕ) (ts : List Transition) → ArePairs Precedes (flat_map made (numbered_from n ts))
  of_numbered names n [] = tt
  of_numbered names n (t ∷ ts) =
      let rest = flat_map made (numbered_from (suc n) ts) in
      pairs_append Precedes (made (n, t)) rest
      (pairs_map (λ x y. x ≡ y → ⊥) Precedes (new_transition g c (n, t)) (sources c t.source)
      (λ x y no. record { other = λ e. no (one_name (n, t) x y e); outside = beside c.path (new_transition g c (n, t) x) (new_transition g c (n, t) y) (is_of (n, t) x) (is_of (n, t) y) })
      (names t.source))
      (of_numbered names (suc n) ts)
      (λ u v m k. record {
        other = λ e.
            let first : u.ordinal ≡ n = each_one (λ z. z.ordinal ≡ n) (made (n, t)) u (each_map (λ z. z.ordinal ≡ n) (new_transition g c (n, t)) (sources c t.source) (λ name. refl)) m in
            let second : suc n ≤ v.ordinal = each_one (λ z. suc n ≤ z.ordinal) rest v (later (suc n) ts) k in
            let same = ap (λ (z : TransitionInstance). z.ordinal) e in
            omega (arith, first, second, same);
        outside = beside c.path u v
            (each_one (IsOf c.path) (made (n, t)) u (each_map (IsOf c.path) (new_transition g c (n, t)) (sources c t.source) (is_of (n, t))) m)
            (each_one (IsOf c.path) rest v (all_of (numbered_from (suc n) ts)) k);
      })

-- All components.

-- a later state is not around an earlier one
later_not : (s : Spec) → IsChecked s → (i j : ℕ) (x y : State) → slice_get (states s) i ≡ Some x → slice_get (states s) j ≡ Some y → i < j → is_prefix y.path x.path ≡ false
later_not s c i j x y h k l =
    let r = end_is s c j y.path (get_map (λ (z : State). z.path) (states s) j y k) in
    r.1 i x.path (get_map (λ (z : State). z.path) (states s) i x h) ∙ before_test j i r.0 l
  where
    before_test : (a j e : ℕ) → j < a → (nat_le a j && nat_lt j e) ≡ false
    before_test a j e h = grind (arith, nat_tests)

module _ (g : Globals) where
  abbrev all : List State → List TransitionInstance
  all xs = flat_map (transitions_of g) (filter_map (λ x. x.component) xs)

  -- a transition of these states, of a component that one of them is
  owner : (xs : List State) (t : TransitionInstance) → Each IsFit xs → IsOne t (all xs) → (x : State) × IsOne x xs × IsOf x.path t
  owner [] t h m = absurd m
  owner (x ∷ xs) t h m = by_component x.component refl m (owner xs t h.1)
    where
      by_component : (o : Option Component) → x.component ≡ o → IsOne t (flat_map (transitions_of g) (cons_option o (filter_map (λ x. x.component) xs)))
          → (IsOne t (all xs) → (y : State) × IsOne y xs × IsOf y.path t) → (y : State) × IsOne y (x ∷ xs) × IsOf y.path t
      by_component None e k f = let r = f k in (r.0, inr r.1, r.2)
      by_component (Some c) e k f = ⊎_elim
          (λ n. (x, inl refl, subst (λ p. IsOf p t) (h.0 c e).0 (each_one (IsOf c.path) (transitions_of g c) t (all_of g c (numbered c.transitions)) n)))
          (λ n. let r = f n in (r.0, inr r.1, r.2))
          (one_split t (transitions_of g c) (all xs) k)

  of_states : (xs : List State) → ArePairs (λ x y. is_prefix y.path x.path ≡ false) xs → Each IsFit xs → ArePairs Precedes (all xs)
  of_states [] h fit = tt
  of_states (x ∷ xs) h fit = by_component x.component refl (of_states xs h.1 fit.1)
    where
      by_component : (o : Option Component) → x.component ≡ o → ArePairs Precedes (all xs) → ArePairs Precedes (flat_map (transitions_of g) (cons_option o (filter_map (λ x. x.component) xs)))
      by_component None e k = k
      by_component (Some c) e k = pairs_append Precedes (transitions_of g c) (all xs) (of_numbered g c (λ name. sources_apart c name (fit.0 c e).1) 1 c.transitions) k
          (λ u t m n.
          let r = owner xs t fit.1 n in
          across x.path r.0.path u t (subst (λ p. IsOf p u) (fit.0 c e).0 (each_one (IsOf c.path) (transitions_of g c) u (all_of g c (numbered c.transitions)) m)) r.2
          (each_one (λ y. is_prefix y.path x.path ≡ false) xs r.0 h.0 r.1))

pub transitions_in_order : (s : Spec) → IsChecked s → ArePairs Precedes (transitions s)
transitions_in_order s checked = of_states (globals_of s) (states s) (pairs_at (λ x y. is_prefix y.path x.path ≡ false) (states s) (λ i j x y h k l. later_not s checked i j x y h k l)) (all_fit s checked)
