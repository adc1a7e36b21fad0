-- At or below each active source of a transition on an event there is a lowest active line for it.
use Rattle.std.proofs.Common.{◌≡◌, ℕ, ◌≤◌, Bool, true, false, not, ◌&&◌, List, [], ◌∷◌, ◌++◌, map, flat_map, filter, length, le_trans, ltb-false, ltb-true, ◌⊎◌, inl, inr, ⊎_elim, refl, sym, ap, ◌∙◌, subst, true≢false, arith, nat_lt}
use Rattle.std.specs.List.{list_any}
use Rattle.std.specs.Cmp.{first_so, second_so}
use Rattle.rsml_syntax.specs.declared.syntax.Spec.{Spec}
use Rattle.rsml_syntax.specs.declared.world.World.{World}
use Rattle.rsml_meaning.specs.Words.{IsOne, Instance, Path, same_path, is_prefix, is_proper_prefix}
use Rattle.rsml_meaning.specs.Instances.{State, states, events}
use Rattle.rsml_meaning.specs.Truth.{View, view}
use Rattle.rsml_meaning.specs.Transitions.{TransitionInstance, transitions, is_on, is_from}
use Rattle.rsml_meaning.specs.Interfaces.{sends, functions}
use Rattle.rsml_meaning.specs.Groups.{state, function, state_groups, send_groups, groups, reacts_inside, meets, Sound}
use Rattle.rsml_meaning.proofs.Same.{instance_same}
use Rattle.rsml_meaning.specs.Scoped.{WellScoped, IsState, IsEvent}
use Rattle.rsml_meaning.specs.Deterministic.{IsActiveSource, IsLowestLine, HasLowestLine}
use Rattle.rsml_meaning.specs.RunLaws.{LowestLinesEnableOne, SourcesHaveLowestLines}
use Rattle.rsml_meaning.proofs.Lists.{both, is_false, each_one, one_map, one_of_map, one_filter, one_front, one_flat_map, any_one, any_some, none_any}
use Rattle.rsml_meaning.proofs.Prefixes.{prefix_self, prefix_then, same_path_self, same_path_is}
use Rattle.rsml_meaning.proofs.Sources.{active_in_view, active_of_view}

-- One of the longest items that pass.

either_le : (a b : ℕ) → (a ≤ b) ⊎ (b ≤ a)
either_le a b = by_order (nat_lt a b) refl
  where
    by_order : (t : Bool) → nat_lt a b ≡ t → (a ≤ b) ⊎ (b ≤ a)
    by_order true e = inl (omega (arith, ltb-true a b e))
    by_order false e = inr (omega (arith, ltb-false a b e))

-- none passes, or one of the longest that pass
Best : {A : Type 0} → (A → ℕ) → (A → Bool) → List A → Type 0
Best {A} n p xs = ((z : A) → IsOne z xs → p z ≡ true → ⊥) ⊎ ((y : A) × IsOne y xs × (p y ≡ true) × ((z : A) → IsOne z xs → p z ≡ true → n z ≤ n y))

best : {A : Type 0} (n : A → ℕ) (p : A → Bool) (xs : List A) → Best n p xs
unfolding Best
best n p [] = inl (λ z m h. absurd m)
best {A} n p (x ∷ xs) = by_test (p x) refl (best n p xs)
  where
    by_test : (b : Bool) → p x ≡ b → Best n p xs → Best n p (x ∷ xs)
    by_test false e (inl f) = inl (λ z m h. ⊎_elim (λ d. true≢false (sym h ∙ ap p d ∙ e)) (λ k. f z k h) m)
    by_test false e (inr r) = inr (r.0, inr r.1, r.2, λ z m h. ⊎_elim (λ d. absurd (true≢false (sym h ∙ ap p d ∙ e))) (λ k. r.3 z k h) m)
    by_test true e (inl f) = inr (x, inl refl, e, λ z m h. ⊎_elim (λ d. subst (λ a. n z ≤ n a) d (omega arith)) (λ k. absurd (f z k h)) m)
    by_test true e (inr r) = ⊎_elim
        (λ (l : n x ≤ n r.0). inr (r.0, inr r.1, r.2, λ z m h. ⊎_elim (λ d. subst (λ a. n a ≤ n r.0) (sym d) l) (λ k. r.3 z k h) m))
        (λ (l : n r.0 ≤ n x). inr (x, inl refl, e, λ z m h. ⊎_elim (λ d. subst (λ a. n z ≤ n a) d (omega arith)) (λ k. le_trans (r.3 z k h) l) m))
        (either_le (n x) (n r.0))

-- Active sources.

module _ (s : Spec) (w : World) (scoped : WellScoped s) where
  abbrev v : View
  v = view s w

  abbrev ts : List TransitionInstance
  ts = transitions s

  is_group : (p : Path) (e : Instance) → IsState s p → IsEvent s e → list_any (is_from p e) ts ≡ true → IsOne (state p e) (groups s)
  is_group p e m k h =
      let x = one_of_map (λ (x : State). x.path) (states s) p m in
      let mine : IsOne (state p e) (state_groups s p) = one_map (state p) (filter (λ e. list_any (is_from p e) ts) (events s)) e (one_filter (λ e. list_any (is_from p e) ts) (events s) e k h) in
      one_front (state p e) (flat_map (λ x. state_groups s x.path) (states s)) (flat_map (send_groups s) (sends s) ++ map function (functions s))
      (one_flat_map (λ x. state_groups s x.path) (states s) x.0 (state p e) x.1 (subst (λ z. IsOne (state p e) (state_groups s z)) x.2 mine))

  -- the source of a transition on an event
  is_source : (t : TransitionInstance) (e : Instance) → IsOne t ts → is_on e t ≡ true → list_any (is_from t.source e) ts ≡ true
  is_source t e m h = any_one (is_from t.source e) ts t m (both (is_on e t) (same_path t.source t.source) h (same_path_self t.source))

  -- What is known of an active source: the transition.
  record Source (p : Path) (e : Instance) (t : TransitionInstance) : Type 0 where
    among : IsOne t ts
    on : is_on e t ≡ true
    is : t.source ≡ p

  source_of : (p : Path) (e : Instance) → list_any (is_from p e) ts ≡ true → (t : TransitionInstance) × Source p e t
  source_of p e h =
      let t = any_some (is_from p e) ts h in (
        t.0,
        record {
          among = t.1;
          on = first_so (is_on e t.0) (same_path t.0.source p) t.2;
          is = same_path_is t.0.source p (second_so (is_on e t.0) (same_path t.0.source p) t.2);
        },
      )

  -- it has a group
  has_group : (p : Path) (e : Instance) → list_any (is_from p e) ts ≡ true → IsOne (state p e) (groups s)
  has_group p e h =
      let t = source_of p e h in
      is_group p e
      (subst (IsState s) t.1.is (each_one (λ (t : TransitionInstance). IsState s t.source) ts t.0 scoped.sources t.1.among))
      (subst (IsEvent s) (instance_same t.0.event e t.1.on) (each_one (λ (t : TransitionInstance). IsEvent s t.event) ts t.0 scoped.triggers t.1.among)) h

  abbrev reacts : Instance → Path → TransitionInstance → Bool
  reacts e p z = is_on e z && (is_proper_prefix p z.source && v.is_active z.source)

  -- where no active source is strictly inside, the condition of its group holds
  is_met : (p : Path) (e : Instance) → IsLowestLine s w p e → meets s v (state p e) ≡ true
  is_met p e l = both (v.is_active p) (not (reacts_inside s v p e)) (active_in_view s w p l.here.active) (ap not (none_any (reacts e p) ts none))
    where
      none : (z : TransitionInstance) → IsOne z ts → reacts e p z ≡ false
      none z m = is_false (reacts e p z) (λ h.
          let on = first_so (is_on e z) (is_proper_prefix p z.source && v.is_active z.source) h in
          let rest = second_so (is_on e z) (is_proper_prefix p z.source && v.is_active z.source) h in
          l.lowest z.source (first_so (is_proper_prefix p z.source) (v.is_active z.source) rest) (record {
            active = active_of_view s w z.source (second_so (is_proper_prefix p z.source) (v.is_active z.source) rest);
            source = is_source z e m on;
          }))

  -- The lowest active line.

  -- active, on e, and at or below q
  abbrev under : Instance → Path → TransitionInstance → Bool
  under e q z = is_on e z && (v.is_active z.source && is_prefix q z.source)

  -- One of the longest such.
  record Lowest (e : Instance) (q : Path) (y : TransitionInstance) : Type 0 where
    among : IsOne y ts
    on : is_on e y ≡ true
    active : v.is_active y.source ≡ true
    below : is_prefix q y.source ≡ true
    most : (z : TransitionInstance) → IsOne z ts → under e q z ≡ true → length z.source ≤ length y.source

  lowest : (t : TransitionInstance) (e : Instance) → IsOne t ts → is_on e t ≡ true → v.is_active t.source ≡ true → (y : TransitionInstance) × Lowest e t.source y
  unfolding Best
  lowest t e m h k =
      ⊎_elim
      (λ f. absurd (f t m (both (is_on e t) (v.is_active t.source && is_prefix t.source t.source) h (both (v.is_active t.source) (is_prefix t.source t.source) k (prefix_self t.source)))))
      (λ r. (r.0, of r.0 r.1 r.2 r.3))
      (best (λ z. length z.source) (under e t.source) ts)
    where
      of : (y : TransitionInstance) → IsOne y ts → under e t.source y ≡ true → ((z : TransitionInstance) → IsOne z ts → under e t.source z ≡ true → length z.source ≤ length y.source) → Lowest e t.source y
      of y a u l =
          let rest = second_so (is_on e y) (v.is_active y.source && is_prefix t.source y.source) u in
          record {
            among = a;
            on = first_so (is_on e y) (v.is_active y.source && is_prefix t.source y.source) u;
            active = first_so (v.is_active y.source) (is_prefix t.source y.source) rest;
            below = second_so (v.is_active y.source) (is_prefix t.source y.source) rest;
            most = l;
          }

  -- below the lowest none is an active source
  none_inside : (e : Instance) (q : Path) (y : TransitionInstance) → Lowest e q y → (inner : Path) → is_proper_prefix y.source inner ≡ true → IsActiveSource s w inner e → ⊥
  none_inside e q y low inner proper a =
      let z = source_of inner e a.source in
      let down = first_so (is_prefix y.source inner) (nat_lt (length y.source) (length inner)) proper in
      let longer = ltb-true (length y.source) (length inner) (second_so (is_prefix y.source inner) (nat_lt (length y.source) (length inner)) proper) in
      let act = ap v.is_active z.1.is ∙ active_in_view s w inner a.active in
      let below = subst (λ r. is_prefix q r ≡ true) (sym z.1.is) (prefix_then q y.source inner low.below down) in
      let shorter = low.most z.0 z.1.among (both (is_on e z.0) (v.is_active z.0.source && is_prefix q z.0.source) z.1.on (both (v.is_active z.0.source) (is_prefix q z.0.source) act below)) in
      omega (arith, longer, subst (λ (r : Path). length r ≤ length y.source) z.1.is shorter)

  pub lowest_line : (t : TransitionInstance) (e : Instance) → IsOne t ts → is_on e t ≡ true → v.is_active t.source ≡ true → HasLowestLine s w t.source e
  lowest_line t e m h k =
      let low = lowest t e m h k in
      let y = low.0 in
      let l = low.1 in
      let line : IsLowestLine s w y.source e = record {
        here = record { active = active_of_view s w y.source l.active; source = is_source y e l.among l.on };
        lowest = none_inside e t.source y l;
      } in
      (y.source, line, l.below)

pub lowest_lines_enable_one : LowestLinesEnableOne
lowest_lines_enable_one s w path e scoped c i l = each_one (Sound s) (groups s) (state path e) c.sound (has_group s w scoped path e l.here.source) w i (is_met s w scoped path e l)

pub sources_have_lowest_lines : SourcesHaveLowestLines
sources_have_lowest_lines s w path e scoped a =
    let t = source_of s w scoped path e a.source in
    let l = lowest_line s w scoped t.0 e t.1.among t.1.on (ap (view s w).is_active t.1.is ∙ active_in_view s w path a.active) in
    (l.0, l.1, subst (λ z. is_prefix z l.0 ≡ true) t.1.is l.2)
