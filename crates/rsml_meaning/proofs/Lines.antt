-- In a certified specification no two taken sources lie on one line.
use Rattle.std.proofs.Common.{◌≡◌, ℕ, ◌≤◌, Bool, true, false, cond, not, ◌&&◌, List, [], ◌∷◌, filter, length, inl, inr, ⊎_elim, refl, sym, ap, ◌∙◌, subst, arith}
use Rattle.std.specs.List.{list_any}
use Rattle.std.specs.Cmp.{first_so, second_so}
use Rattle.rsml_syntax.specs.declared.syntax.Spec.{Spec}
use Rattle.rsml_syntax.specs.declared.world.World.{World}
use Rattle.rsml_meaning.specs.Words.{Each, IsOne, Instance, same_instance, has, is_prefix, on_one_line}
use Rattle.rsml_meaning.specs.Worlds.{IsWorld}
use Rattle.rsml_meaning.specs.Truth.{View, view}
use Rattle.rsml_meaning.specs.Transitions.{TransitionInstance, transitions, is_on, is_enabled, line}
use Rattle.rsml_meaning.specs.Groups.{transition, enabled}
use Rattle.rsml_meaning.specs.Chains.{Ends, meet_in_a_send}
use Rattle.rsml_meaning.specs.Certified.{Certified}
use Rattle.rsml_meaning.specs.Steps.{enabled_transitions}
use Rattle.rsml_meaning.proofs.Same.{instance_same, instance_itself}
use Rattle.rsml_meaning.specs.Scoped.{WellScoped}
use Rattle.rsml_meaning.specs.MicroSteps.{NoTwoOnALine}
use Rattle.rsml_meaning.proofs.Lists.{both, or_left, or_cases, is_false, each_one, each_ones, each_more, each_filter, any_one, any_some, Two, two_one, two_counted, many_map, filter_twice}
use Rattle.rsml_meaning.proofs.Prefixes.{prefix_self, prefix_then}
use Rattle.rsml_meaning.proofs.Sources.{source_active}
use Rattle.rsml_meaning.proofs.Lowest.{lowest_line, lowest_lines_enable_one}

-- a present event ends such a chain
pub present_ends : (s : Spec) (x : Instance) (n : ℕ) (present : List Instance) → Each (Ends s x n) present → (e : Instance) → has present e ≡ true → Ends s x n e
present_ends s x n present h e k =
    let f = any_some (same_instance e) present k in
    subst (Ends s x n) (sym (instance_same e f.0 f.2)) (each_one (Ends s x n) present f.0 h f.1)

module _ (s : Spec) (w : World) (scoped : WellScoped s) (cert : Certified s) (is_world : IsWorld s w) where
  abbrev v : View
  v = view s w

  abbrev ts : List TransitionInstance
  ts = transitions s

  -- two enabled transitions on one event, both at or above an active source of one on it, cannot be
  no_pair : (t u low : TransitionInstance) (e : Instance) → Two t u ts → IsOne low ts → is_on e t ≡ true → is_on e u ≡ true → is_on e low ≡ true
      → is_enabled v t ≡ true → is_enabled v u ≡ true → is_enabled v low ≡ true → is_prefix t.source low.source ≡ true → is_prefix u.source low.source ≡ true → ⊥
  no_pair t u low e two m ot ou ol et eu el pt pu =
      let l = lowest_line s w scoped low e m ol (source_active s w low el) in
      let on_line : TransitionInstance → Bool = λ z. is_on e z && is_prefix z.source l.0 in
      let more = two_counted (λ z. on_line z && is_enabled v z) ts t u two
      (both (on_line t) (is_enabled v t) (both (is_on e t) (is_prefix t.source l.0) ot (prefix_then t.source low.source l.0 pt l.2)) et)
      (both (on_line u) (is_enabled v u) (both (is_on e u) (is_prefix u.source l.0) ou (prefix_then u.source low.source l.0 pu l.2)) eu) in
      let one = sym (many_map transition (enabled v) (line s e l.0)) ∙ lowest_lines_enable_one s w l.0 e scoped cert is_world l.1 in
      let twice = filter_twice on_line (is_enabled v) ts in
      two_not_one (subst (λ n. 2 ≤ n) (sym (ap length twice) ∙ one) more)
    where
      two_not_one : 2 ≤ 1 → ⊥
      two_not_one h = omega (arith, h)

  abbrev takes : List Instance → TransitionInstance → Bool
  takes present t = has present t.event && is_enabled v t

  apart : (x : Instance) (n : ℕ) (present : List Instance) → Each (Ends s x n) present → (t u : TransitionInstance) → Two t u ts → takes present t ≡ true → takes present u ≡ true → on_one_line t.source u.source ≡ false
  apart x n present h t u two kt ku = is_false (on_one_line t.source u.source) (by_event (same_instance t.event u.event) refl)
    where
      et : is_enabled v t ≡ true
      et = second_so (has present t.event) (is_enabled v t) kt

      eu : is_enabled v u ≡ true
      eu = second_so (has present u.event) (is_enabled v u) ku

      ones : IsOne t ts × IsOne u ts
      ones = two_one t u ts two

      by_event : (b : Bool) → same_instance t.event u.event ≡ b → on_one_line t.source u.source ≡ true → ⊥
      by_event false e l = cert.no_clash x n t.event u.event (record {
        differ = ap not e;
        one = present_ends s x n present h t.event (first_so (has present t.event) (is_enabled v t) kt);
        two = present_ends s x n present h u.event (first_so (has present u.event) (is_enabled v u) ku);
        together = or_left (list_any (λ a. is_on t.event a && list_any (λ b. is_on u.event b && on_one_line a.source b.source) ts) ts) (meet_in_a_send s t.event u.event)
            (any_one (λ a. is_on t.event a && list_any (λ b. is_on u.event b && on_one_line a.source b.source) ts) ts t ones.0
            (both (is_on t.event t) (list_any (λ b. is_on u.event b && on_one_line t.source b.source) ts) (instance_itself t.event)
            (any_one (λ b. is_on u.event b && on_one_line t.source b.source) ts u ones.1 (both (is_on u.event u) (on_one_line t.source u.source) (instance_itself u.event) l))));
      })
      by_event true e l =
          let same = instance_same t.event u.event e in
          ⊎_elim
          (λ k. no_pair t u u u.event two ones.1 e (instance_itself u.event) (instance_itself u.event) et eu eu k (prefix_self u.source))
          (λ k. no_pair t u t t.event two ones.0 (instance_itself t.event) (subst (λ z. same_instance z t.event ≡ true) same (instance_itself t.event)) (instance_itself t.event) et eu et (prefix_self t.source) k)
          (or_cases (is_prefix t.source u.source) (is_prefix u.source t.source) l)

no_two : (p : TransitionInstance → Bool) (xs : List TransitionInstance) → ((t u : TransitionInstance) → Two t u xs → p t ≡ true → p u ≡ true → on_one_line t.source u.source ≡ false) → NoTwoOnALine (filter p xs)
no_two p [] f = tt
no_two p (x ∷ xs) f = by_test (p x) refl (no_two p xs (λ t u m. f t u (inr m)))
  where
    by_test : (b : Bool) → p x ≡ b → NoTwoOnALine (filter p xs) → NoTwoOnALine (cond b (x ∷ filter p xs) (filter p xs))
    by_test false e r = r
    by_test true e r = (
      each_more (λ u. IsOne u xs × (p u ≡ true)) (λ u. on_one_line x.source u.source ≡ false) (λ u h. f x u (inl (refl, h.0)) e h.1) (filter p xs)
          (each_filter (λ u. IsOne u xs) p xs (each_ones (λ u. IsOne u xs) xs (λ u m. m))),
      r,
    )

-- where all present events end chains of n events from one, no two taken sources lie on one line
pub taken_apart : (s : Spec) (w : World) → WellScoped s → Certified s → IsWorld s w → (x : Instance) (n : ℕ) (present : List Instance) → Each (Ends s x n) present
    → NoTwoOnALine (enabled_transitions s (view s w) present)
taken_apart s w k c i x n present h = no_two (λ t. has present t.event && is_enabled (view s w) t) (transitions s) (apart s w k c i x n present h)
