-- Events and sends by their numbers.
use Rattle.std.proofs.Common.{◌≡◌, ℕ, zero, suc, ◌+◌, ◌==◌, Bool, true, false, cond, ◌||◌, ◌&&◌, List, [], ◌∷◌, Some, unwrap_or, slice_get, refl, sym, ap, ◌∙◌, subst, true≢false}
use Rattle.std.specs.List.{AllZip, list_any, position_from}
use Rattle.std.specs.Cmp.{nat_eq_equiv, second_so}
use Rattle.std.proofs.lemmas.Bool.{eqb-true}
use Rattle.std.proofs.lemmas.Option.{same_Some}
use Rattle.rsml_syntax.specs.declared.syntax.Spec.{Spec}
use Rattle.rsml_syntax.specs.limits.Checked.{IsChecked}
use Rattle.rsml_meaning.specs.Words.{Instance, Each, IsOne, same_instance, has}
use Rattle.rsml_meaning.specs.Instances.{events}
use Rattle.rsml_meaning.specs.Interfaces.{receives, sends}
use Rattle.rsml_meaning.specs.Transitions.{transitions, is_on}
use Rattle.rsml_meaning.specs.Chains.{is_external, leads}
use Rattle.rsml_meaning.specs.Report.{event_place}
use Rattle.rsml_meaning.proofs.Same.{instance_same, instance_itself}
use Rattle.rsml_meaning.specs.Scoped as scoped
use Rattle.rsml_meaning.proofs.Lists.{same_truth, each_one, any_some}
use Rattle.rsml_meaning.proofs.rules.Scoped.{rules_give_scopes}
use Rattle.state_tree.proofs.Lists.{place_of_one}
use Rattle.ground_members.specs.Members.{IsEvent, IsSend}
use Rattle.ground_members.proofs.Numbers.{place_is}
use Rattle.ground_groups.proofs.Instances.{one_event, one_send}

-- tests that answer alike on lists that stand for one another
pub any_zip : {A B : Type 0} (R : A → B → Type 0) (p : A → Bool) (q : B → Bool) → ((x : A) (y : B) → R x y → q y ≡ p x) → (xs : List A) (ys : List B) → AllZip R xs ys → list_any q ys ≡ list_any p xs
any_zip R p q h [] [] z = refl
any_zip R p q h [] (y ∷ ys) z = absurd z
any_zip R p q h (x ∷ xs) [] z = absurd z
any_zip R p q h (x ∷ xs) (y ∷ ys) z = λ i. h x y z.0 i || any_zip R p q h xs ys z.1 i

-- where one number has one item, the items are one where the numbers are
numbers_same : (xs : List Instance) → ((i j : ℕ) (x : Instance) → slice_get xs i ≡ Some x → slice_get xs j ≡ Some x → i ≡ j)
    → (a b : ℕ) (e f : Instance) → slice_get xs a ≡ Some e → slice_get xs b ≡ Some f → (a == b) ≡ same_instance e f
numbers_same xs one a b e f h k = same_truth (a == b) (same_instance e f) there back
  where
    there : (a == b) ≡ true → same_instance e f ≡ true
    there p = let same = same_Some e f (sym h ∙ ap (slice_get xs) (eqb-true a b p) ∙ k) in subst (λ z. same_instance e z ≡ true) same (instance_itself e)

    back : same_instance e f ≡ true → (a == b) ≡ true
    back p = let same = one a b f (h ∙ ap (λ z. Some z) (instance_same e f p)) k in subst (λ n. (a == n) ≡ true) same (nat_eq_equiv.refl a)

pub same_event : (s : Spec) → IsChecked s → (a b : ℕ) (e f : Instance) → IsEvent s e a → IsEvent s f b → (a == b) ≡ same_instance e f
same_event s checked = numbers_same (events s) (one_event s checked)

pub same_send : (s : Spec) → IsChecked s → (a b : ℕ) (x y : Instance) → IsSend s x a → IsSend s y b → (a == b) ≡ same_instance x y
same_send s checked = numbers_same (sends s) (one_send s checked)

-- the other way round
pub event_same : (s : Spec) → IsChecked s → (a b : ℕ) (e f : Instance) → IsEvent s e a → IsEvent s f b → (b == a) ≡ same_instance e f
event_same s checked a b e f h k = turned (a == b) (b == a) (λ p. subst (λ n. (n == a) ≡ true) (eqb-true a b p) (nat_eq_equiv.refl a)) (λ p. subst (λ n. (n == b) ≡ true) (eqb-true b a p) (nat_eq_equiv.refl b)) ∙ same_event s checked a b e f h k
  where
    turned : (p q : Bool) → (p ≡ true → q ≡ true) → (q ≡ true → p ≡ true) → q ≡ p
    turned p q f g = same_truth q p g f

-- an event of the specification has a number
pub event_there : (s : Spec) (e : Instance) → IsOne e (events s) → (k : ℕ) × IsEvent s e k
event_there s e m = place_of_one (events s) e m

-- what a transition raises is an event
pub raised_event : (s : Spec) → IsChecked s → (e f : Instance) → leads s e f ≡ true → IsOne f (events s)
raised_event s checked e f h =
    let t = any_some (λ t. is_on e t && has t.raises f) (transitions s) h in
    let r = any_some (same_instance f) t.0.raises (second_so (is_on e t.0) (has t.0.raises f) t.2) in
    let all = each_one (λ t. Each (scoped.IsEvent s) t.raises) (transitions s) t.0 (rules_give_scopes s checked.keeps.rules).raises t.1 in
    subst (λ z. IsOne z (events s)) (sym (instance_same f r.0 r.2)) (each_one (scoped.IsEvent s) t.0.raises r.0 all r.1)

-- what a receive raises is an event
pub external_event : (s : Spec) → IsChecked s → (e : Instance) → is_external s e ≡ true → IsOne e (events s)
external_event s checked e h =
    let r = any_some (λ r. same_instance r.raised e) (receives s) h in
    subst (λ z. IsOne z (events s)) (instance_same r.0.raised e r.2) (each_one (λ r. scoped.IsEvent s r.raised) (receives s) r.0 (rules_give_scopes s checked.keeps.rules).receives r.1)

-- what is among events is an event
pub declared_event : (s : Spec) (e : Instance) → has (events s) e ≡ true → IsOne e (events s)
declared_event s e h = let r = any_some (same_instance e) (events s) h in subst (λ z. IsOne z (events s)) (sym (instance_same e r.0 r.2)) r.1

-- the number of an event is its place
pub place_of_event : (s : Spec) → IsChecked s → (e : Instance) (k : ℕ) → IsEvent s e k → event_place s e ≡ k
place_of_event s checked e k h =
    let p = placed (events s) 0 k h in
    ap (λ o. unwrap_or o 0) p.1 ∙ one_event s checked p.0 k e (place_is (events s) e p.0 p.1) h
  where
    placed : (xs : List Instance) (i k : ℕ) → slice_get xs k ≡ Some e → (n : ℕ) × (position_from (same_instance e) i xs ≡ Some n)
    placed [] i k l = absurd (let no : ⊥ = cc in no)
    placed (x ∷ xs) i zero l = by_test (same_instance e x) (subst (λ z. same_instance e z ≡ true) (sym (same_Some x e l)) (instance_itself e))
      where
        by_test : (b : Bool) → b ≡ true → (n : ℕ) × (cond b (Some i) (position_from (same_instance e) (i + 1) xs) ≡ Some n)
        by_test true q = (i, refl)
        by_test false q = absurd (true≢false (sym q))
    placed (x ∷ xs) i (suc k) l = by_test (same_instance e x) (placed xs (i + 1) k l)
      where
        by_test : (b : Bool) → (n : ℕ) × (position_from (same_instance e) (i + 1) xs ≡ Some n) → (n : ℕ) × (cond b (Some i) (position_from (same_instance e) (i + 1) xs) ≡ Some n)
        by_test true r = (i, refl)
        by_test false r = r
