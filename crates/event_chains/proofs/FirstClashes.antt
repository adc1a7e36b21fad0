-- First clashes: the order of clashes is that of their numbers.
use Rattle.std.proofs.Common.{◌≡◌, ℕ, ◌<◌, ◌≤◌, true, [], ◌∷◌, Option, Some, None, ◌⊎◌, inl, inr, ⊎_elim, slice_get, refl, sym, ap, ◌∙◌, subst, arith}
use Rattle.std.specs.Ordering.{ordering_then, nat_cmp}
use Rattle.std.specs.Cmp.Lexicographic.{slice_cmp}
use Rattle.std.specs.declared.cmp.Ordering.{Ordering}
use Rattle.std.specs.declared.cmp.Ordering.TheVariants.{Less, Equal, Greater}
use Rattle.rsml_syntax.specs.declared.syntax.Spec.{Spec}
use Rattle.rsml_syntax.specs.limits.Checked.{IsChecked}
use Rattle.rsml_meaning.specs.Words.{Instance, same_instance, has}
use Rattle.rsml_meaning.specs.Instances.{events}
use Rattle.rsml_meaning.specs.Chains.{is_external}
use Rattle.rsml_meaning.specs.Report.{ClashFound, IsFirstClash}
use Rattle.rsml_meaning.proofs.Same.{instance_itself}
use Rattle.rsml_meaning.proofs.Lists.{any_one}
use Rattle.state_tree.proofs.Lists.{one_at, within_get}
use Rattle.ground_members.specs.Members.{IsEvent}
use Rattle.event_graph.specs.declared.clash.Clash.{Clash as Numbers}
use Rattle.event_graph.specs.Graphs.{Graph}
use Rattle.event_graph.specs.Chains as by_number
use Rattle.event_graph.specs.Clashes as by_clash
use Rattle.event_graph.proofs.ClashLemmas.{ends_below}
use Rattle.event_chains.specs.Draws.{Draws}
use Rattle.event_chains.specs.Found.{ClashIs, IsFirst}
use Rattle.event_chains.proofs.Numbers.{event_there, declared_event, place_of_event}
use Rattle.event_chains.proofs.ChainLemmas.{event_below, clash_there, clash_back, length_agrees, length_back}

-- the first numbers decide, unless they are equal
less_first : (a b : ℕ) (o : Ordering) → ordering_then (nat_cmp a b) o ≡ Less → (a < b) ⊎ ((a ≡ b) × (o ≡ Less))
less_first a b o h = by_order (nat_cmp a b) refl h
  where
    by_order : (r : Ordering) → nat_cmp a b ≡ r → ordering_then r o ≡ Less → (a < b) ⊎ ((a ≡ b) × (o ≡ Less))
    by_order Less e k = inl (grind arith)
    by_order Equal e k = inr ((grind arith), k)
    by_order Greater e k = cc

-- numbers that are not above others do not go before them
not_before : (a b c i j k : ℕ) → i ≤ a → (a ≡ i → j ≤ b) → (a ≡ i → b ≡ j → k ≤ c) → slice_cmp nat_cmp (a ∷ b ∷ c ∷ []) (i ∷ j ∷ k ∷ []) ≡ Less → ⊥
not_before a b c i j k first second third h = ⊎_elim
    (λ l. omega (arith, l, first))
    (λ r. ⊎_elim
    (λ l. let m = second r.0 in omega (arith, l, m))
    (λ q. ⊎_elim (λ l. let m = third r.0 q.0 in omega (arith, l, m)) (λ z. let no : ⊥ = cc (z.1) in no) (less_first c k (slice_cmp nat_cmp [] []) q.1))
    (less_first b j (slice_cmp nat_cmp (c ∷ []) (k ∷ [])) r.1))
    (less_first a i (slice_cmp nat_cmp (b ∷ c ∷ []) (j ∷ k ∷ [])) h)

module _ (s : Spec) (g : Graph) (checked : IsChecked s) (d : Draws s g) where
  declared : (e : Instance) (k : ℕ) → IsEvent s e k → has (events s) e ≡ true
  declared e k h = any_one (same_instance e) (events s) e (one_at (events s) k e h) (instance_itself e)

  -- the clash of these events, by their numbers
  first_is : (a : ℕ) (x : Instance) → IsEvent s x a → is_external s x ≡ true → (c : Numbers) → by_clash.IsFirstClash g a c
      → (e f : Instance) → IsEvent s e c.one → IsEvent s f c.two → IsFirstClash s x (record { round = c.round; one = e; two = f })
  first_is a x k external c is e f l m = record {
    clash = record {
      declared_one = declared e c.one l;
      declared_two = declared f c.two m;
      clash = clash_there s g checked d a c.one c.two x e f k l m external c.round is.clash;
    };
    first = λ z other before.
        let i = event_there s z.one (declared_event s z.one other.declared_one) in
        let j = event_there s z.two (declared_event s z.two other.declared_two) in
        let clash = clash_back s g checked d a i.0 j.0 x z.one z.two k i.1 j.1 z.round other.clash in
        not_before z.round i.0 j.0 c.round c.one c.two
        (is.least_round z.round i.0 j.0 clash)
        (λ p. is.least_one i.0 j.0 (subst (λ n. by_number.IsClash g a n i.0 j.0) p clash))
        (λ p q. is.least_two j.0 (subst (λ n. by_number.IsClash g a c.round n j.0) q (subst (λ n. by_number.IsClash g a n i.0 j.0) p clash)))
        ((λ t. slice_cmp nat_cmp (z.round ∷ sym (place_of_event s checked z.one i.0 i.1) t ∷ sym (place_of_event s checked z.two j.0 j.1) t ∷ [])
        (c.round ∷ sym (place_of_event s checked e c.one l) t ∷ sym (place_of_event s checked f c.two m) t ∷ []))
        ∙ before);
  }

  pub first_agrees : (a : ℕ) (x : Instance) → IsEvent s x a → is_external s x ≡ true → (c : Numbers) → by_clash.IsFirstClash g a c → (z : ClashFound) × ClashIs s x z c × IsFirstClash s x z
  first_agrees a x k external c is =
      let e = within_get (events s) c.one (let l = ends_below g d.of_events a c.round c.one (event_below s g checked d a x k) is.clash.one in omega (arith, l, d.counted)) in
      let f = within_get (events s) c.two (let l = ends_below g d.of_events a c.round c.two (event_below s g checked d a x k) is.clash.two in omega (arith, l, d.counted)) in (
        record { round = c.round; one = e.0; two = f.0 },
        record { start = ap (slice_get (events s)) is.of_start ∙ k; round = refl; one = e.1; two = f.1 },
        first_is a x k external c is e.0 f.0 e.1 f.1,
      )

  -- the answer of a number is that of its event
  pub answer_agrees : (a : ℕ) (x : Instance) → IsEvent s x a → is_external s x ≡ true → (o : Option Numbers) → by_clash.IsClashAnswer g a o → IsFirst s x o
  answer_agrees a x k external None none = (
    None,
    λ long z clash.
        let i = event_there s z.one (declared_event s z.one clash.declared_one) in
        let j = event_there s z.two (declared_event s z.two clash.declared_two) in
        none (long.0, length_back s g checked d a x k external long.0 long.1) z.round i.0 j.0 (clash_back s g checked d a i.0 j.0 x z.one z.two k i.1 j.1 z.round clash.clash),
    tt,
  )
  answer_agrees a x k external (Some c) some =
      let r = first_agrees a x k external c some.1 in
      (Some r.0, ((some.0.0, length_agrees s g checked d a x k external (Some some.0.0) some.0.1), r.2), r.1)
