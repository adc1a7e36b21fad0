-- What a memo knows, and what more it learns.
use Rattle.std.proofs.Common.{◌≡◌, ◌≢◌, ℕ, zero, suc, ◌+◌, ◌<◌, Bool, List, [], ◌∷◌, length, take, add-one, set, get_or, Option, Some, refl, sym, ap, ◌∙◌, subst, slice_get, arith, ◌⊎◌, inl, inr}
use Rattle.std.specs.List.{All}
use Rattle.rsml_syntax.specs.declared.world.World.{World}
use Rattle.and_or_tables.specs.Ground.{known}
use Rattle.rsml_ground.specs.declared.phrases.GroundPhrase.{GroundPhrase}
use Rattle.rsml_ground.specs.declared.definitions.GroundGuard.{GroundGuard}
use Rattle.rsml_ground.specs.Truths.{Grounded, phrase_truth, guard_truth, truths_in}
use Rattle.rsml_ground.specs.Grounded.{IsGrounded}
use Rattle.macros.specs.Guards.{phrases_of}
use Rattle.macros.specs.Known.{IsKnown, AreKnown, Agrees, Knows, StillKnown}
use Rattle.macros.specs.Named.{Named}
use Rattle.macros.proofs.Alike.{guard_alike, phrase_alike}
use Rattle.macros.proofs.Below.{all_each}
use Rattle.macros.proofs.Below.{some_same}
use Rattle.rsml_ground.proofs.PhraseLemmas.{truths_are_of_phrases}

-- Lists.

get_set_same : {A : Type 0} (xs : List A) (k : ℕ) (x : A) → k < length xs → slice_get (set xs k x) k ≡ Some x
get_set_same [] k x h = absurd (omega (arith, h))
get_set_same (y ∷ xs) zero x h = refl
get_set_same (y ∷ xs) (suc k) x h = get_set_same xs k x (omega (arith, h))

get_set_other : {A : Type 0} (xs : List A) (j k : ℕ) (x : A) → j ≢ k → slice_get (set xs k x) j ≡ slice_get xs j
get_set_other [] j k x h = refl
get_set_other (y ∷ xs) zero zero x h = absurd (h refl)
get_set_other (y ∷ xs) zero (suc k) x h = refl
get_set_other (y ∷ xs) (suc j) zero x h = refl
get_set_other (y ∷ xs) (suc j) (suc k) x h = get_set_other xs j k x (λ e. h (ap suc e))

same_or_not : (j k : ℕ) → (j ≡ k) ⊎ (j ≢ k)
same_or_not zero zero = inl refl
same_or_not zero (suc k) = inr (λ e. let no : ⊥ = omega (arith, e) in no)
same_or_not (suc j) zero = inr (λ e. let no : ⊥ = omega (arith, e) in no)
same_or_not (suc j) (suc k) = elim (same_or_not j k) [
  | inl e ↦ inl (ap suc e)
  | inr n ↦ inr (λ e. n (let s : j ≡ k = omega (arith, e) in s))
]

pub length_set : {A : Type 0} (xs : List A) (k : ℕ) (x : A) → length (set xs k x) ≡ length xs
length_set [] k x = refl
length_set (y ∷ xs) zero x = refl
length_set (y ∷ xs) (suc k) x = ap suc (length_set xs k x)

-- Learning.

pub learned_known : (memo : List (Option Bool)) (k : ℕ) (t : Bool) → k < length memo → IsKnown (set memo k (Some t)) k
learned_known memo k t h = (t, get_set_same memo k (Some t) h)

pub learned_right : (g : Grounded) (w : World) (memo : List (Option Bool)) (k : ℕ) (t : Bool) → k < length memo → Knows g w memo → t ≡ known (truths_in g w) k
    → Knows g w (set memo k (Some t))
learned_right g w memo k t h knows is = record {
  count = length_set memo k (Some t) ∙ knows.count;
  right = λ j u e. elim (same_or_not j k) [
    | inl same ↦ some_same (some_same (sym e ∙ ap (slice_get (set memo k (Some t))) same ∙ get_set_same memo k (Some t) h)) ∙ is ∙ ap (known (truths_in g w)) (sym same)
    | inr other ↦ knows.right j u (sym (get_set_other memo j k (Some t) other) ∙ e)
  ];
}

pub learned_kept : (g : Grounded) (w : World) (memo : List (Option Bool)) (k : ℕ) (t : Bool) → k < length memo → Knows g w memo → t ≡ known (truths_in g w) k
    → StillKnown memo (set memo k (Some t))
learned_kept g w memo k t h knows is j u e = elim (same_or_not j k) [
  | inl same ↦ ap (slice_get (set memo k (Some t))) same ∙ get_set_same memo k (Some t) h
      ∙ ap Some (ap Some (is ∙ ap (known (truths_in g w)) (sym same) ∙ sym (knows.right j u e)))
  | inr other ↦ get_set_other memo j k (Some t) other ∙ e
]

pub kept_on : (a b c : List (Option Bool)) → StillKnown a b → StillKnown b c → StillKnown a c
kept_on a b c h i k t e = i k t (h k t e)

pub known_on : (a b : List (Option Bool)) (k : ℕ) → StillKnown a b → IsKnown a k → IsKnown b k
known_on a b k h i = (i.0, h k i.0 i.1)

pub all_known_on : (a b : List (Option Bool)) (ks : List ℕ) → StillKnown a b → All (IsKnown a) ks → All (IsKnown b) ks
all_known_on a b ks h i k d within = known_on a b (get_or ks k d) h (i k d within)

-- Answers.

pub agreed : (g : Grounded) (w : World) (memo : List (Option Bool)) (ts : List Bool) → Knows g w memo → Agrees memo ts → (k : ℕ) → IsKnown memo k
    → known ts k ≡ known (truths_in g w) k
agreed g w memo ts knows agrees k i = sym (agrees k i.0 i.1) ∙ knows.right k i.0 i.1

pub phrase_asked : (g : Grounded) (w : World) (memo : List (Option Bool)) (ts : List Bool) (k : ℕ) (p : GroundPhrase) → IsGrounded g → Knows g w memo → Agrees memo ts
    → slice_get g.phrases k ≡ Some p → Named (IsKnown memo) g.definitions p
    → phrase_truth g w ts p ≡ known (truths_in g w) k
phrase_asked g w memo ts k p is knows agrees at named =
    phrase_alike (IsKnown memo) ts (truths_in g w) (agreed g w memo ts knows agrees) g w p named ∙ sym (truths_are_of_phrases g w is k p at)

pub guard_asked : (g : Grounded) (w : World) (memo : List (Option Bool)) (ts : List Bool) (x : GroundGuard) → Knows g w memo → Agrees memo ts
    → All (IsKnown memo) (phrases_of x) → guard_truth ts x ≡ guard_truth (truths_in g w) x
guard_asked g w memo ts x knows agrees named =
    guard_alike (IsKnown memo) ts (truths_in g w) (agreed g w memo ts knows agrees) x (all_each (IsKnown memo) (phrases_of x) named)

-- one more number is known
all_more : {A : Type 0} (P : A → Type 0) (xs : List A) (i : ℕ) → ((d : A) → i < length xs → P (get_or xs i d)) → All P (take i xs) → All P (take (i + 1) xs)
all_more {A = A} P xs i here before = subst (λ n. All P (take n xs)) (sym (add-one i)) (of xs i here before)
  where
    of : (xs : List A) (i : ℕ) → ((d : A) → i < length xs → P (get_or xs i d)) → All P (take i xs) → All P (take (suc i) xs)
    of [] i here before k d within = absurd (omega (arith, within))
    of (x ∷ xs) zero here before zero d within = here d (omega arith)
    of (x ∷ xs) zero here before (suc k) d within = absurd (omega (arith, within))
    of (x ∷ xs) (suc i) here before zero d within = before 0 d (omega arith)
    of (x ∷ xs) (suc i) here before (suc k) d within =
        of xs i (λ e l. here e (omega (arith, l))) (λ j e l. before (suc j) e (omega (arith, l))) k d (omega (arith, within))

same_default : {A : Type 0} (xs : List A) (i : ℕ) (d e : A) → i < length xs → get_or xs i d ≡ get_or xs i e
same_default [] i d e within = absurd (omega (arith, within))
same_default (x ∷ xs) zero d e within = refl
same_default (x ∷ xs) (suc i) d e within = same_default xs i d e (omega (arith, within))

pub numbers_more : (old new : List (Option Bool)) (ks : List ℕ) (i : ℕ) → StillKnown old new → IsKnown new (get_or ks i 0)
    → All (IsKnown old) (take i ks) → All (IsKnown new) (take (i + 1) ks)
numbers_more old new ks i kept here before = all_more (IsKnown new) ks i (λ d within. subst (IsKnown new) (same_default ks i 0 d within) here) (all_known_on old new (take i ks) kept before)

pub known_more : (old new : List (Option Bool)) (n : ℕ) → StillKnown old new → IsKnown new n → AreKnown old n → AreKnown new (n + 1)
known_more old new n kept here before k less = elim (same_or_not k n) [
  | inl same ↦ subst (IsKnown new) (sym same) here
  | inr other ↦ known_on old new k kept (before k (let l : k < n = omega (arith, less, other) in l))
]
