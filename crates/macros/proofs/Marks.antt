-- The marks of a memo.
use Rattle.std.proofs.Common.{◌≡◌, ℕ, zero, suc, ◌+◌, ◌<◌, Bool, true, false, List, [], ◌∷◌, length, set, get_or, replicate, Option, Some, None, if◌then◌else◌, ◌==◌, refl, sym, ap, ◌∙◌, slice_get, arith}
use Rattle.std.specs.List.{All}
use Rattle.std.specs.Simd.Lanes.{zip2}
use Rattle.std.proofs.lemmas.Bool.Decides.{nat_tests}
use Rattle.macros.specs.declared.memo.Memo.TheInside.{Inside}
use Rattle.macros.specs.Known.{IsKnown, Agrees, noted, noted_in, IsMarked}

pub noted_many : (epoch : ℕ) (ts : List Bool) (ms : List ℕ) → length ts ≡ length ms → length (zip2 (noted epoch) ts ms) ≡ length ts
noted_many epoch [] [] e = refl
noted_many epoch (t ∷ ts) (m ∷ ms) e = ap suc (noted_many epoch ts ms (omega (arith, e)))
noted_many epoch [] (m ∷ ms) e = refl
noted_many epoch (t ∷ ts) [] e = absurd (omega (arith, e))

pub seen_many : (m : Inside) → IsMarked m → (memo : List (Option Bool)) → noted_in m ≡ memo → length memo ≡ length m.truths
seen_many m is memo seen = ap length (sym seen) ∙ noted_many m.epoch m.truths m.marks.items is.paired

test_not : (m epoch : ℕ) (t : Bool) → m < epoch → noted epoch t m ≡ None
test_not m epoch t h = by (m == epoch) (let no : (m == epoch) ≡ false = grind (arith, nat_tests) in no)
  where
    by : (b : Bool) → b ≡ false → (if b then Some t else None) ≡ None
    by b e = ap (λ c. if c then Some t else None) e

-- nothing is noted where each mark is before the epoch
pub noted_none : (epoch : ℕ) (ts : List Bool) (ms : List ℕ) → length ts ≡ length ms → All (λ m. m < epoch) ms → zip2 (noted epoch) ts ms ≡ replicate (length ts) None
noted_none epoch [] [] e h = refl
noted_none epoch (t ∷ ts) (m ∷ ms) e h =
    λ i. test_not m epoch t (h 0 m (omega arith)) i ∷ noted_none epoch ts ms (omega (arith, e)) (λ k d within. h (suc k) d (omega (arith, within))) i
noted_none epoch [] (m ∷ ms) e h = refl
noted_none epoch (t ∷ ts) [] e h = absurd (omega (arith, e))

some_none : {A : Type 0} {x : A} → Some None ≡ Some (Some x) → ⊥
some_none h = cc

-- what is noted is the truth
pub noted_agrees : (epoch : ℕ) (ts : List Bool) (ms : List ℕ) → Agrees (zip2 (noted epoch) ts ms) ts
noted_agrees epoch [] ms k t e = absurd (let no : ⊥ = cc in no)
noted_agrees epoch (u ∷ ts) [] k t e = absurd (let no : ⊥ = cc in no)
noted_agrees epoch (u ∷ ts) (m ∷ ms) zero t e = by (m == epoch) e
  where
    by : (b : Bool) → Some (if b then Some u else None) ≡ Some (Some t) → t ≡ u
    by true e = cc
    by false e = absurd (some_none e)
noted_agrees epoch (u ∷ ts) (m ∷ ms) (suc k) t e = noted_agrees epoch ts ms k t e

noted_get : (epoch : ℕ) (ts : List Bool) (ms : List ℕ) (k d : ℕ) (c : Bool) → length ts ≡ length ms → k < length ts
    → slice_get (zip2 (noted epoch) ts ms) k ≡ Some (noted epoch (get_or ts k c) (get_or ms k d))
noted_get epoch [] ms k d c e h = absurd (omega (arith, h))
noted_get epoch (t ∷ ts) [] k d c e h = absurd (omega (arith, e))
noted_get epoch (t ∷ ts) (m ∷ ms) zero d c e h = refl
noted_get epoch (t ∷ ts) (m ∷ ms) (suc k) d c e h = noted_get epoch ts ms k d c (omega (arith, e)) (omega (arith, h))

pub noted_yes : (epoch : ℕ) (ts : List Bool) (ms : List ℕ) (k d : ℕ) → length ts ≡ length ms → k < length ts → (get_or ms k d == epoch) ≡ true
    → IsKnown (zip2 (noted epoch) ts ms) k
noted_yes epoch ts ms k d e h is = (get_or ts k false, noted_get epoch ts ms k d false e h ∙ ap (λ b. Some (if b then Some (get_or ts k false) else None)) is)

pub noted_no : (epoch : ℕ) (ts : List Bool) (ms : List ℕ) (k d : ℕ) → length ts ≡ length ms → k < length ts → (get_or ms k d == epoch) ≡ false
    → slice_get (zip2 (noted epoch) ts ms) k ≡ Some None
noted_no epoch ts ms k d e h is = noted_get epoch ts ms k d false e h ∙ ap (λ b. Some (if b then Some (get_or ts k false) else None)) is

-- what is learned
pub noted_set : (epoch : ℕ) (ts : List Bool) (ms : List ℕ) (k : ℕ) (t : Bool) → zip2 (noted epoch) (set ts k t) (set ms k epoch) ≡ set (zip2 (noted epoch) ts ms) k (noted epoch t epoch)
noted_set epoch [] ms k t = refl
noted_set epoch (u ∷ ts) [] zero t = refl
noted_set epoch (u ∷ ts) [] (suc k) t = refl
noted_set epoch (u ∷ ts) (m ∷ ms) zero t = refl
noted_set epoch (u ∷ ts) (m ∷ ms) (suc k) t = ap (λ (xs : List (Option Bool)). noted epoch u m ∷ xs) (noted_set epoch ts ms k t)

pub noted_now : (epoch : ℕ) (t : Bool) → noted epoch t epoch ≡ Some t
noted_now epoch t = by (epoch == epoch) (let same : (epoch == epoch) ≡ true = grind (arith, nat_tests) in same)
  where
    by : (b : Bool) → b ≡ true → (if b then Some t else None) ≡ Some t
    by b e = ap (λ c. if c then Some t else None) e

-- Marks that are all before the next epoch.

pub many_replicated : {A : Type 0} (n : ℕ) (x : A) → length (replicate n x) ≡ n
many_replicated zero x = refl
many_replicated (suc n) x = ap suc (many_replicated n x)

pub all_zero : (n epoch : ℕ) → All (λ m. m < epoch + 1) (replicate n 0)
all_zero zero epoch k d within = absurd (omega (arith, within))
all_zero (suc n) epoch zero d within = omega arith
all_zero (suc n) epoch (suc k) d within = all_zero n epoch k d (omega (arith, within))

pub record IsFresh (n : ℕ) (m : Inside) : Type 0 where
  pub many : length m.truths ≡ n
  pub paired : length m.truths ≡ length m.marks.items
  pub below : All (λ k. k < m.epoch + 1) m.marks.items

pub fresh_none : (m : Inside) (n : ℕ) → IsFresh n m → zip2 (noted (m.epoch + 1)) m.truths m.marks.items ≡ replicate n None
fresh_none m n fresh = noted_none (m.epoch + 1) m.truths m.marks.items fresh.paired fresh.below ∙ ap (λ k. replicate k None) fresh.many
