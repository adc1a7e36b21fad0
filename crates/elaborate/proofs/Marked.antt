-- Events that receives raise, marked one after another.
use Rattle.std.proofs.Common.{◌≡◌, ℕ, zero, suc, ◌+◌, ◌<◌, ◌≤◌, Bool, true, false, ◌||◌, List, [], ◌∷◌, ◌++◌, length, take, replicate, Option, Some, None, slice_get, slice_set, get_or, ◌==◌, IfSome, refl, sym, ap, ◌∙◌, subst, arith}
use Rattle.std.specs.List.{list_any}
use Rattle.std.proofs.lemmas.Bool.Decides.{nat_tests}
use Rattle.std.proofs.lemmas.List.{take_all, take_more}
use Rattle.std.proofs.lemmas.List.Folds.{list_any-append}
use Rattle.std.proofs.lemmas.Option.{same_Some, slice_get-get_or}
use Rattle.rsml_syntax.specs.declared.syntax.Spec.{Spec}
use Rattle.rsml_syntax.specs.limits.Checked.{IsChecked}
use Rattle.rsml_meaning.specs.Words.{Instance, same_instance, place_in}
use Rattle.rsml_meaning.specs.Instances.{events}
use Rattle.rsml_meaning.specs.Interfaces.{ReceiveInstance, receives}
use Rattle.rsml_meaning.specs.Chains.{is_external}
use Rattle.rsml_meaning.proofs.Same.{instance_same, instance_itself}
use Rattle.rsml_meaning.proofs.Lists.{is_false}
use Rattle.phrase_builder.proofs.Lists.{get_below, there_is}
use Rattle.ground_members.proofs.Numbers.{place_is}
use Rattle.ground_groups.proofs.Instances.{one_event}
use Rattle.elaborate.specs.Parts.{AreExternal, AreReceives}

-- for each event whether one of these receives raises it
pub record AreMarked (s : Spec) (rs : List ReceiveInstance) (marks : List Bool) : Type 0 where
  pub long : length marks ≡ length (events s)
  pub marked : (k : ℕ) (e : Instance) → slice_get (events s) k ≡ Some e → slice_get marks k ≡ Some (list_any (λ r. same_instance r.raised e) rs)

set_same : (xs : List Bool) (k : ℕ) (x : Bool) → k < length xs → slice_get (slice_set xs k x) k ≡ Some x
set_same [] k x l = absurd (omega (arith, l))
set_same (y ∷ ys) zero x l = refl
set_same (y ∷ ys) (suc k) x l = set_same ys k x (omega (arith, l))

set_other : (xs : List Bool) (k j : ℕ) (x : Bool) → (j ≡ k → ⊥) → slice_get (slice_set xs k x) j ≡ slice_get xs j
set_other [] k j x ne = refl
set_other (y ∷ ys) zero zero x ne = absurd (ne refl)
set_other (y ∷ ys) zero (suc j) x ne = refl
set_other (y ∷ ys) (suc k) zero x ne = refl
set_other (y ∷ ys) (suc k) (suc j) x ne = set_other ys k j x (λ e. ne (ap suc e))

long_set : (xs : List Bool) (k : ℕ) (x : Bool) → length (slice_set xs k x) ≡ length xs
long_set [] k x = refl
long_set (y ∷ ys) zero x = refl
long_set (y ∷ ys) (suc k) x = ap suc (long_set ys k x)

module _ (s : Spec) (checked : IsChecked s) (i n : ℕ) (x : ReceiveInstance) (here : slice_get (receives s) i ≡ Some x) (place : place_in (events s) x.raised ≡ Some n) where
  -- the receive raises an event of another place
  other_event : (k : ℕ) (e : Instance) → slice_get (events s) k ≡ Some e → (k ≡ n → ⊥) → same_instance x.raised e ≡ false
  other_event k e at ne = is_false (same_instance x.raised e) (λ h.
      ne (one_event s checked k n e at (subst (λ z. slice_get (events s) n ≡ Some z) (instance_same x.raised e h) (place_is (events s) x.raised n place))))

  all_more : (e : Instance) → list_any (λ r. same_instance r.raised e) (take (i + 1) (receives s)) ≡ (list_any (λ r. same_instance r.raised e) (take i (receives s)) || same_instance x.raised e)
  all_more e =
      ap (list_any (λ r. same_instance r.raised e))
      (take_more (receives s) i x within ∙ ap (λ z. take i (receives s) ++ (z ∷ [])) (same_Some (get_or (receives s) i x) x (sym (slice_get-get_or (receives s) i x within) ∙ here)))
      ∙ list_any-append (λ r. same_instance r.raised e) (take i (receives s)) (x ∷ [])
      ∙ ap (λ b. list_any (λ r. same_instance r.raised e) (take i (receives s)) || b) (or_none (same_instance x.raised e))
    where
      within : i < length (receives s)
      within = get_below (receives s) i x here

      or_none : (b : Bool) → (b || false) ≡ b
      or_none true = refl
      or_none false = refl

  pub marked_more : (marks : List Bool) → AreMarked s (take i (receives s)) marks → AreMarked s (take (i + 1) (receives s)) (slice_set marks n true)
  marked_more marks are = record {
    long = long_set marks n true ∙ are.long;
    marked = λ k e at. by k e at (k == n) refl;
  }
    where
      any : Instance → Bool
      any e = list_any (λ r. same_instance r.raised e) (take i (receives s))

      or_true : (b : Bool) → (b || true) ≡ true
      or_true true = refl
      or_true false = refl

      or_false : (b : Bool) → (b || false) ≡ b
      or_false true = refl
      or_false false = refl

      by : (k : ℕ) (e : Instance) → slice_get (events s) k ≡ Some e → (b : Bool) → (k == n) ≡ b
          → slice_get (slice_set marks n true) k ≡ Some (list_any (λ r. same_instance r.raised e) (take (i + 1) (receives s)))
      by k e at true q =
          let same : k ≡ n = grind (arith, nat_tests) in
          let l : n < length marks = subst (λ z. z < length marks) same (subst (λ z. k < z) (sym are.long) (get_below (events s) k e at)) in
          let raised : x.raised ≡ e = same_Some x.raised e (sym (place_is (events s) x.raised n place) ∙ ap (slice_get (events s)) (sym same) ∙ at) in
          ap (slice_get (slice_set marks n true)) same ∙ set_same marks n true l
          ∙ ap Some (sym (all_more e ∙ ap (λ b. any e || b) (subst (λ z. same_instance x.raised z ≡ true) raised (instance_itself x.raised)) ∙ or_true (any e)))
      by k e at false q =
          let ne : k ≡ n → ⊥ = λ same. absurd (let no : ⊥ = grind (arith, nat_tests) in no) in
          set_other marks n k true ne ∙ are.marked k e at
          ∙ ap Some (sym (all_more e ∙ ap (λ b. any e || b) (other_event k e at ne) ∙ or_false (any e)))

-- no event is marked before
pub none_marked : (s : Spec) (marks : List Bool) → marks ≡ replicate (length (events s)) false → AreMarked s [] marks
none_marked s marks h = record {
  long = ap length h ∙ many (length (events s));
  marked = λ k e at. ap (λ z. slice_get z k) h ∙ all_false (length (events s)) k (get_below (events s) k e at);
}
  where
    many : (n : ℕ) → length (replicate n false) ≡ n
    many zero = refl
    many (suc n) = ap suc (many n)

    all_false : (n k : ℕ) → k < n → slice_get (replicate n false) k ≡ Some false
    all_false zero k l = absurd (omega (arith, l))
    all_false (suc n) zero l = refl
    all_false (suc n) (suc k) l = all_false n k (omega (arith, l))

-- what is raised by the receive at a place
pub raised_there : (s : Spec) (k n : ℕ) → k < length (receives s) → IfSome (slice_get (receives s) k) (λ x. place_in (events s) x.raised ≡ Some n)
    → (x : ReceiveInstance) × (slice_get (receives s) k ≡ Some x) × (place_in (events s) x.raised ≡ Some n)
raised_there s k n l h =
    let x = there_is (receives s) k l in
    let P : Option ReceiveInstance → Type 0 = λ o. IfSome o (λ x. place_in (events s) x.raised ≡ Some n) in
    (x.0, x.1, subst P x.1 h)

pub raised_below : (s : Spec) (k n : ℕ) (marks : List Bool) → k < length (receives s) → IfSome (slice_get (receives s) k) (λ x. place_in (events s) x.raised ≡ Some n)
    → length marks ≡ length (events s) → n < length marks
raised_below s k n marks l h e =
    let x = raised_there s k n l h in
    subst (λ z. n < z) (sym e) (get_below (events s) n x.0.raised (place_is (events s) x.0.raised n x.2))

-- all receives are gone through
pub all_marked : (s : Spec) (i : ℕ) (marks : List Bool) → length (receives s) ≤ i → AreMarked s (take i (receives s)) marks → AreExternal s marks
all_marked s i marks l are = λ k e at. are.marked k e at ∙ ap (λ rs. Some (list_any (λ r. same_instance r.raised e) rs)) (take_all i (receives s) l)

-- the mark of an event
pub mark_at : (s : Spec) (count k : ℕ) (marks : List Bool) (v : Bool) (e : Instance) → AreReceives s count marks → slice_get (events s) k ≡ Some e → v ≡ get_or marks k v → v ≡ is_external s e
mark_at s count k marks v e are at h = by marks k (are.marks_are k e at) h
  where
    by : (xs : List Bool) (j : ℕ) → slice_get xs j ≡ Some (is_external s e) → v ≡ get_or xs j v → v ≡ is_external s e
    by [] j h g = absurd (let no : ⊥ = cc in no)
    by (x ∷ xs) zero h g = g ∙ same_Some x (is_external s e) h
    by (x ∷ xs) (suc j) h g = by xs j h g
