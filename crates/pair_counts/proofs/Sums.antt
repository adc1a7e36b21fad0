-- Sums of counts, and counts that stop at the greatest u64.
use Rattle.std.proofs.Common.{◌≡◌, ℕ, ◌+◌, Bool, true, false, cond, List, [], ◌∷◌, length, map, filter, refl, sym, ap, ◌∙◌, arith}
use Rattle.std.specs.Global.{Vec}
use Rattle.rsml_base.specs.Counting.{adds, shown}
use Rattle.pair_counts.specs.Bits.{one}

pub shown_plus : (a b : ℕ) → shown (shown a + shown b) ≡ shown (a + b)
shown_plus a b = omega arith

pub adds_map : {A B : Type 0} (f : B → ℕ) (g : A → B) (xs : List A) → adds f (map g xs) ≡ adds (λ x. f (g x)) xs
adds_map f g [] = refl
adds_map f g (x ∷ xs) = ap (λ n. f (g x) + n) (adds_map f g xs)

-- whether the first item passes, and how many of the others
pub filter_first : {A : Type 0} (test : A → Bool) (x : A) (xs : List A) → length (filter test (x ∷ xs)) ≡ one (test x) + length (filter test xs)
filter_first test x xs = by (test x)
  where
    by : (b : Bool) → length (cond b (x ∷ filter test xs) (filter test xs)) ≡ one b + length (filter test xs)
    by true = omega arith
    by false = omega arith

-- SUMS OVER GROUPS, ONE AFTER ANOTHER

abbrev pub seen : ℕ × Vec ℕ → ℕ × List ℕ
seen e = (e.0, e.1.items)

-- What is counted so far, with what is to come.
pub record Counts (count : ℕ × List ℕ → ℕ) (all : List (ℕ × List ℕ)) (rest : List (ℕ × Vec ℕ)) (sum : ℕ) : Type 0 where
  pub fits : sum ≡ shown sum
  pub total : shown (sum + adds (λ e. count (seen e)) rest) ≡ shown (adds count all)

module _ (count : ℕ × List ℕ → ℕ) (all : List (ℕ × List ℕ)) where
  pub counts_start : (rest : List (ℕ × Vec ℕ)) → map seen rest ≡ all → Counts count all rest 0
  counts_start rest h =
      let same : adds (λ e. count (seen e)) rest ≡ adds count all = sym (adds_map count seen rest) ∙ ap (adds count) h in
      record { fits = refl; total = omega (arith, same) }

  pub counts_turn : (e : ℕ × Vec ℕ) (rest : List (ℕ × Vec ℕ)) (sum more next : ℕ) → Counts count all (e ∷ rest) sum →
      more ≡ shown (count (seen e)) → next ≡ shown (sum + more) → Counts count all rest next
  counts_turn e rest sum more next before counted added = record {
    fits = omega arith;
    total = omega (arith, before.total);
  }

  pub counts_end : (sum : ℕ) → Counts count all [] sum → sum ≡ shown (adds count all)
  counts_end sum before = omega (arith, before.fits, before.total)
