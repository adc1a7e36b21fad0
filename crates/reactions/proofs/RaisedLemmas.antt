-- The event that a receive raises, and the set of it.
use Rattle.std.proofs.Common.{◌≡◌, ℕ, ◌+◌, ◌<◌, ◌==◌, ◌||◌, Bool, true, false, List, [], ◌∷◌, length, Option, Some, IfSome, slice_get, sym, ap, ◌∙◌, subst, arith}
use Rattle.std.proofs.lemmas.Bool.{eqb-true}
use Rattle.std.specs.Cmp.{nat_eq_equiv}
use Rattle.rsml_syntax.specs.declared.syntax.Spec.{Spec}
use Rattle.rsml_meaning.specs.Words.{Instance, place_in, same_instance}
use Rattle.rsml_meaning.specs.Instances.{events}
use Rattle.rsml_meaning.specs.Interfaces.{ReceiveInstance, receives}
use Rattle.rsml_meaning.specs.Chains.{is_external}
use Rattle.rsml_meaning.proofs.Same.{instance_itself}
use Rattle.rsml_meaning.proofs.Lists.{is_false, any_one}
use Rattle.state_tree.proofs.Lists.{get_within, within_get, one_at}
use Rattle.ground_members.proofs.Numbers.{place_is}
use Rattle.event_graph.specs.declared.events.Events.{Events}
use Rattle.micro_step.specs.Micros.{AreEvents, events_in}
use Rattle.micro_step.specs.Places.{items_where}
use Rattle.event_graph.specs.Sets.{has}
use Rattle.reactions.proofs.EventTexts.{all_first, next_first}

-- the receive of a number, and its event
pub raised_at : (s : Spec) (k n : ℕ) → k < length (receives s) → IfSome (slice_get (receives s) k) (λ x. place_in (events s) x.raised ≡ Some n)
    → (x : ReceiveInstance) × (slice_get (receives s) k ≡ Some x) × (slice_get (events s) n ≡ Some x.raised)
raised_at s k n l h =
    let x = within_get (receives s) k l in
    (x.0, x.1, place_is (events s) x.0.raised n (subst (λ (o : Option ReceiveInstance). IfSome o (λ y. place_in (events s) y.raised ≡ Some n)) x.1 h))

only_one : {A : Type 0} (p : ℕ → Bool) (n : ℕ) (xs : List A) (x : A) → slice_get xs n ≡ Some x → p n ≡ true → ((q : ℕ) → p q ≡ true → n ≡ q) → items_where p 0 xs ≡ x ∷ []
only_one p n xs x at t only =
    sym (all_first p (n + 1) xs (λ q l. is_false (p q) (λ h. let same = only q h in omega (arith, l, same))))
    ∙ next_first p 0 n xs x (omega arith) t (λ q a b. is_false (p q) (λ h. let same = only q h in omega (arith, b, same))) at

-- what is in a set of one number
in_one : (n q : ℕ) (old new : Bool) → old ≡ false → new ≡ (old || n == q) → new ≡ true → n ≡ q
in_one n q old new none put h =
    let same : (n == q) ≡ true = sym (put ∙ ap (λ (b : Bool). b || n == q) none) ∙ h in
    eqb-true n q same

module _ (s : Spec) (n : ℕ) (e : Instance) (old new : Events) (none : (q : ℕ) → has old q ≡ false) (put : (q : ℕ) → has new q ≡ (has old q || n == q)) (at : slice_get (events s) n ≡ Some e) where
  -- the set is one of events
  pub set_is : AreEvents s new
  set_is q h = subst (λ (k : ℕ). k < length (events s)) (in_one n q (has old q) (has new q) (none q) (put q) h) (get_within (events s) n e at)

  -- it has this event alone
  pub set_has : events_in s new ≡ e ∷ []
  set_has =
      let here : has new n ≡ true = put n ∙ ap (λ (b : Bool). b || n == n) (none n) ∙ nat_eq_equiv.refl n in
      only_one (has new) n (events s) e at here (λ q h. in_one n q (has old q) (has new q) (none q) (put q) h)

-- what a receive raises is external
pub raised_external : (s : Spec) (k : ℕ) (x : ReceiveInstance) → slice_get (receives s) k ≡ Some x → is_external s x.raised ≡ true
raised_external s k x at = any_one (λ (r : ReceiveInstance). same_instance r.raised x.raised) (receives s) x (one_at (receives s) k x at) (instance_itself x.raised)
