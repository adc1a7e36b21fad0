-- The events of a set are the instances of their numbers.
use Rattle.std.proofs.Common.{◌≡◌, ℕ, zero, suc, ◌+◌, ◌==◌, ◌||◌, Bool, true, false, List, [], ◌∷◌, Some, if◌then◌else◌, slice_get, refl, sym, ap, ◌∙◌, subst, arith}
use Rattle.std.specs.List.{AllZip}
use Rattle.std.proofs.lemmas.Bool.{eqb-true}
use Rattle.std.proofs.lemmas.Option.{same_Some}
use Rattle.std.specs.Cmp.{nat_eq_equiv}
use Rattle.rsml_syntax.specs.declared.syntax.Spec.{Spec}
use Rattle.rsml_syntax.specs.limits.Checked.{IsChecked}
use Rattle.rsml_meaning.specs.Words.{Instance, same_instance, has}
use Rattle.rsml_meaning.specs.Instances.{events}
use Rattle.rsml_meaning.proofs.Same.{instance_same, instance_itself}
use Rattle.rsml_meaning.proofs.Lists.{same_truth}
use Rattle.ground_members.specs.Members.{IsEvent}
use Rattle.micro_step.specs.Rising.{among}
use Rattle.micro_step.specs.Places.{items_where}
use Rattle.ground_groups.proofs.Instances.{one_event}

-- the instance is at one place alone
abbrev IsAlone : List Instance → Instance → ℕ → Type 0
IsAlone xs e k = (j : ℕ) (d : Instance) → slice_get xs j ≡ Some d → same_instance e d ≡ true → j ≡ k

none_has : (p : ℕ → Bool) (n : ℕ) (xs : List Instance) (e : Instance) → ((j : ℕ) (d : Instance) → slice_get xs j ≡ Some d → same_instance e d ≡ true → ⊥) → has (items_where p n xs) e ≡ false
none_has p n [] e h = refl
none_has p n (d ∷ xs) e h = by (p n) (same_instance e d) refl (none_has p (suc n) xs e (λ j x q r. h (suc j) x q r))
  where
    by : (a b : Bool) → same_instance e d ≡ b → has (items_where p (suc n) xs) e ≡ false → has (if a then d ∷ items_where p (suc n) xs else items_where p (suc n) xs) e ≡ false
    by true true q rest = absurd (h 0 d refl q)
    by true false q rest = ap (λ (z : Bool). z || has (items_where p (suc n) xs) e) q ∙ rest
    by false b q rest = rest

one_has : (p : ℕ → Bool) (n : ℕ) (xs : List Instance) (e : Instance) (k : ℕ) → slice_get xs k ≡ Some e → IsAlone xs e k → has (items_where p n xs) e ≡ p (n + k)
one_has p n [] e k h alone = absurd (let no : ⊥ = cc in no)
one_has p n (d ∷ xs) e zero h alone =
    let same : n ≡ n + 0 = omega arith in
    by (p n) ∙ ap p same
  where
    is : same_instance e d ≡ true
    is = subst (λ x. same_instance e x ≡ true) (sym (same_Some d e h)) (instance_itself e)

    tail : has (items_where p (suc n) xs) e ≡ false
    tail = none_has p (suc n) xs e (λ j x q r. let no = alone (suc j) x q r in omega (arith, no))

    by : (a : Bool) → has (if a then d ∷ items_where p (suc n) xs else items_where p (suc n) xs) e ≡ a
    by true = ap (λ (z : Bool). z || has (items_where p (suc n) xs) e) is
    by false = tail
one_has p n (d ∷ xs) e (suc k) h alone =
    let same : suc n + k ≡ n + suc k = omega arith in
    by (p n) (same_instance e d) refl (one_has p (suc n) xs e k h (λ j x q r. let l = alone (suc j) x q r in omega (arith, l))) ∙ ap p same
  where
    by : (a b : Bool) → same_instance e d ≡ b → has (items_where p (suc n) xs) e ≡ p (suc n + k) → has (if a then d ∷ items_where p (suc n) xs else items_where p (suc n) xs) e ≡ p (suc n + k)
    by true true q rest = absurd (let no = alone 0 d refl q in omega (arith, no))
    by true false q rest = ap (λ (z : Bool). z || has (items_where p (suc n) xs) e) q ∙ rest
    by false b q rest = rest

same_event : (s : Spec) → IsChecked s → (e d : Instance) (k j : ℕ) → slice_get (events s) k ≡ Some e → slice_get (events s) j ≡ Some d → same_instance e d ≡ true → j ≡ k
same_event s c e d k j h q r =
    let same = instance_same e d r in
    sym (one_event s c k j d (subst (λ x. slice_get (events s) k ≡ Some x) same h) q)

-- an event is among those of the set where its number is in the set
pub present_has : (s : Spec) → IsChecked s → (p : ℕ → Bool) (e : Instance) (k : ℕ) → IsEvent s e k → has (items_where p 0 (events s)) e ≡ p k
present_has s c p e k h =
    let same : 0 + k ≡ k = omega arith in
    one_has p 0 (events s) e k h (λ j d q r. same_event s c e d k j h q r) ∙ ap p same

-- an event is among others where its number is among theirs
pub raises_has : (s : Spec) → IsChecked s → (rs : List Instance) (ks : List ℕ) (e : Instance) (q : ℕ) → AllZip (IsEvent s) rs ks → slice_get (events s) q ≡ Some e → among ks q ≡ has rs e
raises_has s c [] [] e q z h = refl
raises_has s c [] (k ∷ ks) e q z h = absurd z
raises_has s c (r ∷ rs) [] e q z h = absurd z
raises_has s c (r ∷ rs) (k ∷ ks) e q z h = (λ i. here i || raises_has s c rs ks e q z.1 h i)
  where
    here : (k == q) ≡ same_instance e r
    here = same_truth (k == q) (same_instance e r)
        (λ l. subst (λ x. same_instance e x ≡ true) (same_Some e r (sym h ∙ ap (slice_get (events s)) (sym (eqb-true k q l)) ∙ z.0)) (instance_itself e))
        (λ l. subst (λ n. (k == n) ≡ true) (same_event s c e r q k h z.0 l) (nat_eq_equiv.refl k))
