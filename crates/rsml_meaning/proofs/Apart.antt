-- Where no two taken sources lie on one line, each component gets one child.
use Rattle.std.proofs.Common.{◌≡◌, ℕ, Bool, true, false, List, [], ◌∷◌, filter_map, Option, Some, None, if◌then◌else◌, ◌⊎◌, inl, inr, ⊎_elim, refl, sym, ap, ◌∙◌, subst, true≢false}
use Rattle.std.specs.List.{cons_option}
use Rattle.rsml_meaning.specs.Words.{Path, is_prefix, on_one_line, Each, IsOne, AllThree}
use Rattle.rsml_meaning.specs.Instances.{Component}
use Rattle.rsml_meaning.specs.Active.{child_place, entered, given}
use Rattle.rsml_meaning.specs.Transitions.{TransitionInstance}
use Rattle.rsml_meaning.specs.Steps.{given_by, or_kept, outcomes}
use Rattle.rsml_meaning.specs.MicroSteps.{NoTwoOnALine}
use Rattle.rsml_meaning.proofs.Sources.{IsTaken, one_line}

given_cases : (c : Component) (t : TransitionInstance) → (given_by c t ≡ None) ⊎ ((m : ℕ) × (given_by c t ≡ Some m) × (is_prefix t.component c.path ≡ true))
given_cases c t = by_target t.target
  where
    by_test : (b : Bool) (m : ℕ) → ((if b then Some m else None) ≡ None) ⊎ ((k : ℕ) × ((if b then Some m else None) ≡ Some k) × (b ≡ true))
    by_test true m = inr (m, refl, refl)
    by_test false m = inl refl

    by_target : (o : Option Path) → (elim o [ None ↦ None | Some target ↦ given t.component target c ] ≡ None)
        ⊎ ((k : ℕ) × (elim o [ None ↦ None | Some target ↦ given t.component target c ] ≡ Some k) × (is_prefix t.component c.path ≡ true))
    by_target None = inl refl
    by_target (Some target) = by_test (is_prefix t.component c.path) (child_place c (entered target c))

none_left : (cs : List (Component × ℕ)) (c : Component) (t : TransitionInstance) → IsTaken cs t → is_prefix t.component c.path ≡ true
    → (ts : List TransitionInstance) → Each (IsTaken cs) ts → Each (λ u. on_one_line t.source u.source ≡ false) ts → filter_map (given_by c) ts ≡ []
none_left cs c t a h [] b n = refl
none_left cs c t a h (u ∷ ts) b n =
    ⊎_elim
    (λ e. ap (λ o. cons_option o (filter_map (given_by c) ts)) e ∙ none_left cs c t a h ts b.1 n.1)
    (λ r. absurd (true≢false (sym (one_line cs t u a b.0 c.path h r.2) ∙ n.0)))
    (given_cases c u)

-- What transitions give a component: nothing, or one child.
pub data Gift (c : Component) (ts : List TransitionInstance) : Type 0 where
  nothing : filter_map (given_by c) ts ≡ [] → Gift c ts
  single : (m : ℕ) → filter_map (given_by c) ts ≡ m ∷ [] → Gift c ts

pub gift : (cs : List (Component × ℕ)) (c : Component) (ts : List TransitionInstance) → Each (IsTaken cs) ts → NoTwoOnALine ts → Gift c ts
gift cs c [] b h = nothing refl
gift cs c (t ∷ ts) b h = ⊎_elim
    (λ e. more e (gift cs c ts b.1 h.1))
    (λ r. single r.0 (ap (λ o. cons_option o (filter_map (given_by c) ts)) r.1 ∙ ap (λ z. r.0 ∷ z) (none_left cs c t b.0 r.2 ts b.1 h.0)))
    (given_cases c t)
  where
    more : given_by c t ≡ None → Gift c ts → Gift c (t ∷ ts)
    more e (nothing d) = nothing (ap (λ o. cons_option o (filter_map (given_by c) ts)) e ∙ d)
    more e (single m d) = single m (ap (λ o. cons_option o (filter_map (given_by c) ts)) e ∙ d)

pub one_outcome : (cs : List (Component × ℕ)) (c : Component) (n : ℕ) (ts : List TransitionInstance) → Each (IsTaken cs) ts → NoTwoOnALine ts → (m : ℕ) × (outcomes ts c n ≡ m ∷ [])
one_outcome cs c n ts b h = by_gift (gift cs c ts b h)
  where
    by_gift : Gift c ts → (m : ℕ) × (outcomes ts c n ≡ m ∷ [])
    by_gift (nothing e) = (n, ap (or_kept n) e)
    by_gift (single m e) = (m, ap (or_kept n) e)

pub only_one : (m x : ℕ) → IsOne x (m ∷ []) → x ≡ m
only_one m x (inl e) = e
only_one m x (inr k) = absurd k

-- children that are chosen among one each are the same
pub same_children : (R : Component → ℕ → List ℕ) → ((c : Component) (n : ℕ) → (m : ℕ) × (R c n ≡ m ∷ [])) → (cs : List Component) (ns xs ys : List ℕ)
    → AllThree (λ c n m. IsOne m (R c n)) cs ns xs → AllThree (λ c n m. IsOne m (R c n)) cs ns ys → xs ≡ ys
same_children R one [] [] [] [] h k = refl
same_children R one (c ∷ cs) (n ∷ ns) (x ∷ xs) (y ∷ ys) h k =
    let m = one c n in
    let a = only_one m.0 x (subst (λ z. IsOne x z) m.1 h.0) in
    let b = only_one m.0 y (subst (λ z. IsOne y z) m.1 k.0) in
    λ i. (a ∙ sym b) i ∷ same_children R one cs ns xs ys h.1 k.1 i
same_children R one [] [] [] (y ∷ ys) h k = elim k [ ]
same_children R one [] [] (x ∷ xs) ys h k = elim h [ ]
same_children R one [] (n ∷ ns) xs ys h k = elim h [ ]
same_children R one (c ∷ cs) [] xs ys h k = elim h [ ]
same_children R one (c ∷ cs) (n ∷ ns) [] ys h k = elim h [ ]
same_children R one (c ∷ cs) (n ∷ ns) (x ∷ xs) [] h k = elim k [ ]
