-- A function in place of a level, and levels forgotten one after another.
use Rattle.std.proofs.Common.{◌≡◌, ℕ, ◌<◌, ◌≤◌, ◌↔◌, ◌+◌, Bool, true, false, ◌||◌, List, [], ◌∷◌, refl, sym, ap, subst, ◌∙◌, inl, inr, ◌⊎◌, length, drop, get_or, true≢false}
use Rattle.std.proofs.lemmas.Bool.{cases_eq}
use Rattle.std.proofs.lemmas.List.{drop_more, drop_all}
use Rattle.bdd_core.specs.Diagram.{Diagram, IsRef, meaning}
use Rattle.bdd_core.specs.Calls.{with_value}
use Rattle.bdd_core.proofs.CanonicalLemmas.{with_value-same, with_value-apart}
use Rattle.free_levels.specs.Values.{is_in, AgreeOff, TrueOff, IsForgotten, IgnoresAll}
use Rattle.free_levels.proofs.ValueLemmas.{by_levels, with_value-own, with_value-twice, or-by_left, or-by_right, not_in-first, not_in-rest, not_in-cons}

-- one of the two is true: the value, and that it is
some_value : (p q : Bool) → (p || q) ≡ true → (p ≡ true) ⊎ (q ≡ true)
some_value true q e = inl refl
some_value false q e = inr e

either_value : (F : (ℕ → Bool) → Bool) (v : ℕ → Bool) (l : ℕ) (b : Bool) → F (with_value v l b) ≡ true → (F (with_value v l false) || F (with_value v l true)) ≡ true
either_value F v l true e = or-by_right (F (with_value v l false)) _ e
either_value F v l false e = or-by_left _ (F (with_value v l true)) e

-- values with one level changed differ in that level and those where they differed
agree_more : (l : ℕ) (ls : List ℕ) (u v : ℕ → Bool) (b : Bool) → AgreeOff ls u v → AgreeOff (l ∷ ls) (with_value u l b) v
agree_more l ls u v b agree k out = with_value-apart u l k b (not_in-first l ls k out) ∙ agree k (not_in-rest l ls k out)

-- a level forgotten first
pub forget-first : (F G : (ℕ → Bool) → Bool) (l : ℕ) (ls : List ℕ) → ((v : ℕ → Bool) → G v ≡ (F (with_value v l false) || F (with_value v l true)))
    → (v : ℕ → Bool) → TrueOff G ls v ↔ TrueOff F (l ∷ ls) v
forget-first F G l ls is v = (
  λ t. elim (some_value (F (with_value t.other l false)) (F (with_value t.other l true)) (sym (is t.other) ∙ t.holds)) [
    | inl e ↦ record { other = with_value t.other l false; agree = agree_more l ls t.other v false t.agree; holds = e }
    | inr e ↦ record { other = with_value t.other l true; agree = agree_more l ls t.other v true t.agree; holds = e }
  ],
  λ t. record {
    other = with_value t.other l (v l);
    agree = λ k out. elim (cases_eq k l) [
      | inl same ↦ ap (with_value t.other l (v l)) same ∙ with_value-same t.other l (v l) ∙ ap v (sym same)
      | inr ne ↦ with_value-apart t.other l k (v l) ne ∙ t.agree k (not_in-cons l ls k ne out)
    ];
    holds = is (with_value t.other l (v l)) ∙ either_value F (with_value t.other l (v l)) l (t.other l)
        (ap F (with_value-twice t.other l (v l) (t.other l) ∙ with_value-own t.other l (t.other l) refl) ∙ t.holds);
  },
)

-- nothing left to forget
pub forget-none : (F : (ℕ → Bool) → Bool) (v : ℕ → Bool) → (F v ≡ true) ↔ TrueOff F [] v
forget-none F v = (
  λ e. record { other = v; agree = λ k out. refl; holds = e },
  λ t. ap F (by_levels v t.other (λ k. sym (t.agree k refl))) ∙ t.holds,
)

pub iff-trans : {P Q R : Type 0} → (P ↔ Q) → (Q ↔ R) → (P ↔ R)
iff-trans p q = (λ x. q.0 (p.0 x), λ x. p.1 (q.1 x))

-- one more level forgotten
pub forget-step : (F G : (ℕ → Bool) → Bool) (levels : List ℕ) (i : ℕ) → i < length levels
    → ((v : ℕ → Bool) → G v ≡ (F (with_value v (get_or levels i 0) false) || F (with_value v (get_or levels i 0) true)))
    → (v : ℕ → Bool) → TrueOff G (drop (i + 1) levels) v ↔ TrueOff F (drop i levels) v
forget-step F G levels i h is v = subst (λ ls. TrueOff G (drop (i + 1) levels) v ↔ TrueOff F ls v) (sym (drop_more levels i 0 h)) (forget-first F G (get_or levels i 0) (drop (i + 1) levels) is v)

-- all levels forgotten
pub forget-end : (a b : Diagram) (f r : ℕ) (levels : List ℕ) (i : ℕ) → IsRef b r → length levels ≤ i
    → ((v : ℕ → Bool) → TrueOff (meaning b r) (drop i levels) v ↔ TrueOff (meaning a f) levels v) → IsForgotten a b f levels r
forget-end a b f r levels i p h same = record {
  is_ref = p;
  means = λ v. iff-trans (forget-none (meaning b r) v) (subst (λ ls. TrueOff (meaning b r) ls v ↔ TrueOff (meaning a f) levels v) (drop_all i levels h) (same v));
}

-- a level that is forgotten does not matter
off_moves : (F : (ℕ → Bool) → Bool) (ls : List ℕ) (l : ℕ) (v : ℕ → Bool) (b : Bool) → is_in ls l ≡ true → TrueOff F ls v → TrueOff F ls (with_value v l b)
off_moves F ls l v b there t = record {
  other = t.other;
  agree = λ k out. t.agree k out ∙ sym (with_value-apart v l k b (λ same. true≢false (sym (ap (is_in ls) same ∙ there) ∙ out)));
  holds = t.holds;
}

off_back : (F : (ℕ → Bool) → Bool) (ls : List ℕ) (l : ℕ) (v : ℕ → Bool) (b : Bool) → is_in ls l ≡ true → TrueOff F ls (with_value v l b) → TrueOff F ls v
off_back F ls l v b there t = record {
  other = t.other;
  agree = λ k out. t.agree k out ∙ with_value-apart v l k b (λ same. true≢false (sym (ap (is_in ls) same ∙ there) ∙ out));
  holds = t.holds;
}

same_truth : (a b : Bool) → (a ≡ true → b ≡ true) → (b ≡ true → a ≡ true) → a ≡ b
same_truth true true f g = refl
same_truth true false f g = sym (f refl)
same_truth false true f g = g refl
same_truth false false f g = refl

pub forget-gone : (a b : Diagram) (f r : ℕ) (levels all : List ℕ) → levels ≡ all → IsForgotten a b f levels r → IgnoresAll (meaning b r) all
forget-gone a b f r levels all same is = subst (IgnoresAll (meaning b r)) same (λ l there v x. same_truth (meaning b r (with_value v l x)) (meaning b r v)
    (λ e. (is.means v).1 (off_back (meaning a f) levels l v x there ((is.means (with_value v l x)).0 e)))
    (λ e. (is.means (with_value v l x)).1 (off_moves (meaning a f) levels l v x there ((is.means v).0 e))))
