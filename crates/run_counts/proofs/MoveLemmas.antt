-- Which of the taken transitions are moves, by their numbers.
use Rattle.std.proofs.Common.{◌≡◌, ℕ, suc, ◌≤◌, Bool, true, false, cond, List, [], ◌∷◌, length, filter, Option, Some, None, slice_get, refl, ap, ◌∙◌, arith}
use Rattle.std.specs.Prelude.{is_some, if◌then◌else◌}
use Rattle.std.specs.Option.{option_map_or}
use Rattle.rsml_syntax.specs.declared.syntax.Spec.{Spec}
use Rattle.rsml_meaning.specs.Words.{Path}
use Rattle.rsml_meaning.specs.Transitions.{TransitionInstance, transitions}
use Rattle.state_tree.proofs.Lists.{as_long}
use Rattle.rsml_ground.proofs.DeclaredLemmas.{beside_first}
use Rattle.ground_members.specs.declared.transitions.GroundTransition.{GroundTransition}
use Rattle.ground_members.specs.Members.{IsTarget, TransitionIs}
use Rattle.elaborate.specs.Machine.{GroundMachine, StandsFor}
use Rattle.micro_step.specs.Places.{ArePlaces, places_where}
use Rattle.run_counts.specs.Counts.{is_move}
use Rattle.run_counts.specs.Ready.{moves_at}
use Rattle.run_counts.proofs.TransitionBounds.{few_transitions}

same_kind : (s : Spec) (target : Option Path) (number : Option ℕ) → IsTarget s target number → is_some number ≡ is_some target
same_kind s None None h = refl
same_kind s (Some path) (Some k) h = refl
same_kind s None (Some k) h = elim h [ ]
same_kind s (Some path) None h = elim h [ ]

module _ (m : GroundMachine) (stands : StandsFor m) where
  move_is : (t : TransitionInstance) (k : ℕ) → slice_get (transitions m.base.spec) k ≡ Some t → moves_at m k ≡ is_move t
  move_is t k at =
      let x = beside_first (TransitionIs m.base.phrases m.base.spec) (transitions m.base.spec) m.transitions stands.transitions_are k t at in
      ap (λ (o : Option GroundTransition). option_map_or (λ y. is_some y.target) o false) x.1 ∙ same_kind m.base.spec t.target x.0.target x.2.target

  -- as many are moves
  pub moves_are : (ts : List TransitionInstance) (ks : List ℕ) → ArePlaces (transitions m.base.spec) ts ks → length (filter (moves_at m) ks) ≡ length (filter is_move ts)
  moves_are [] [] h = refl
  moves_are (t ∷ ts) (k ∷ ks) h =
      ap (λ (b : Bool). length (cond b (k ∷ filter (moves_at m) ks) (filter (moves_at m) ks))) (move_is t k h.0)
      ∙ by (is_move t) (moves_are ts ks h.1)
    where
      by : (b : Bool) → length (filter (moves_at m) ks) ≡ length (filter is_move ts)
          → length (cond b (k ∷ filter (moves_at m) ks) (filter (moves_at m) ks)) ≡ length (cond b (t ∷ filter is_move ts) (filter is_move ts))
      by true e = ap suc e
      by false e = e
  moves_are [] (k ∷ ks) h = elim h [ ]
  moves_are (t ∷ ts) [] h = elim h [ ]

  -- there are at most 8,192
  pub few : length m.transitions ≤ 8192
  few =
      let long = as_long (TransitionIs m.base.phrases m.base.spec) (transitions m.base.spec) m.transitions stands.transitions_are in
      let most = few_transitions m.base.spec stands.grounded.checked.keeps in
      omega (arith, long, most)

places_few : {A : Type 0} (t : A → Bool) (n : ℕ) (xs : List A) → length (places_where t n xs) ≤ length xs
places_few t n [] = omega arith
places_few t n (x ∷ xs) = by (t x) (places_few t (suc n) xs)
  where
    by : (b : Bool) → length (places_where t (suc n) xs) ≤ length xs → length (if b then n ∷ places_where t (suc n) xs else places_where t (suc n) xs) ≤ suc (length xs)
    by true h = omega (arith, h)
    by false h = omega (arith, h)

-- no more are taken than there are
pub taken_few : {A : Type 0} (t : A → Bool) (xs : List A) (ks : List ℕ) → ks ≡ places_where t 0 xs → length ks ≤ length xs
taken_few t xs ks are = let same = ap (λ (ns : List ℕ). length ns) are in let less = places_few t 0 xs in omega (arith, same, less)
