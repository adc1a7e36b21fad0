-- Counters of numbers that count a round, one number after another.
use Rattle.std.proofs.Common.{◌≡◌, ℕ, zero, suc, ◌+◌, ◌<◌, ◌==◌, ◌||◌, Bool, true, false, List, [], ◌∷◌, ◌++◌, length, take, set, get_or, Option, Some, None, option_map, slice_get, ⊎_elim, refl, sym, ap, ◌∙◌, subst, arith}
use Rattle.std.specs.Prelude.{if◌then◌else◌}
use Rattle.std.specs.Cmp.{nat_eq_equiv}
use Rattle.std.proofs.lemmas.Bool.{cases_eq, ne_eqb}
use Rattle.std.proofs.lemmas.List.{take_more}
use Rattle.std.proofs.lemmas.List.Folds.{list_any-append}
use Rattle.std.proofs.lemmas.Option.{same_Some}
use Rattle.rsml_meaning.specs.Words.{Each}
use Rattle.state_tree.proofs.Lists.{get_within, get_item, within_get}
use Rattle.micro_step.specs.Rising.{AreRising, among}
use Rattle.micro_step.proofs.RisingLemmas.{no_more}
use Rattle.coverage.specs.declared.counter.Counter.{Counter}
use Rattle.coverage.specs.Counters.{counted, counted_among, IsReady}

-- the counters of these numbers have counted one round more, and the others are as they were
abbrev pub SoFar : List ℕ → (ℕ → ℕ) → List Counter → List Counter → Type 0
SoFar ks bits old cs = (q : ℕ) → slice_get cs q ≡ option_map (counted_among ks bits q) (slice_get old q)

above : (k : ℕ) (ks : List ℕ) (i : ℕ) → Each (λ n. k < n) ks → i < length ks → k < get_or ks i 0
above k [] i e l = absurd (omega (arith, l))
above k (n ∷ ks) zero e l = e.0
above k (n ∷ ks) (suc i) e l = above k ks i e.1 (omega (arith, l))

-- a number of a rising list is not among those before it
not_before : (taken : List ℕ) (i y : ℕ) → AreRising taken → i < length taken → get_or taken i 0 ≡ y → among (take i taken) y ≡ false
not_before [] i y r l e = absurd (omega (arith, l))
not_before (k ∷ ks) zero y r l e = refl
not_before (k ∷ ks) (suc i) y r l e =
    let less = above k ks i r.0 (omega (arith, l)) in
    let other : k ≡ y → ⊥ = λ h. omega (arith, h, less, e) in
    ap (λ (b : Bool). b || among (take i ks) y) (ne_eqb k y other) ∙ not_before ks i y r.1 (omega (arith, l)) e

among_last : (ks : List ℕ) (y q : ℕ) → among (ks ++ y ∷ []) q ≡ (among ks q || y == q)
among_last ks y q = list_any-append (λ n. n == q) ks (y ∷ []) ∙ ap (λ (b : Bool). among ks q || b) (no_more (y == q))

set_there : (xs : List Counter) (k : ℕ) (x y : Counter) → slice_get xs k ≡ Some y → slice_get (set xs k x) k ≡ Some x
set_there [] k x y h = absurd (let no : ⊥ = cc in no)
set_there (z ∷ xs) zero x y h = refl
set_there (z ∷ xs) (suc k) x y h = set_there xs k x y h

set_elsewhere : (xs : List Counter) (k j : ℕ) (x : Counter) → (j ≡ k → ⊥) → slice_get (set xs k x) j ≡ slice_get xs j
set_elsewhere [] k j x h = refl
set_elsewhere (z ∷ xs) zero zero x h = absurd (h refl)
set_elsewhere (z ∷ xs) zero (suc j) x h = refl
set_elsewhere (z ∷ xs) (suc k) zero x h = refl
set_elsewhere (z ∷ xs) (suc k) (suc j) x h = set_elsewhere xs k j x (λ e. h (ap suc e))

module _ (taken : List ℕ) (i y : ℕ) (bits : ℕ → ℕ) (old cs : List Counter) (rising : AreRising taken) (l : i < length taken) (at : get_or taken i 0 ≡ y)
    (before : SoFar (take i taken) bits old cs) where
  -- the counter of the next number is as it was
  pub still_there : slice_get cs y ≡ slice_get old y
  still_there = before y ∙ ap (λ (b : Bool). option_map (λ (c : Counter). if b then counted (bits y) c else c) (slice_get old y)) (not_before taken i y rising l at) ∙ by (slice_get old y)
    where
      by : (o : Option Counter) → option_map (λ (c : Counter). c) o ≡ o
      by None = refl
      by (Some c) = refl

  pub next_number : (new : List Counter) (c : Counter) → slice_get cs y ≡ Some c → new ≡ set cs y (counted (bits y) c) → SoFar (take (i + 1) taken) bits old new
  next_number new c there e q =
      let front : take (i + 1) taken ≡ take i taken ++ y ∷ [] = take_more taken i 0 l ∙ ap (λ (k : ℕ). take i taken ++ k ∷ []) at in
      ap (λ (xs : List Counter). slice_get xs q) e
      ∙ ⊎_elim (λ same. subst (λ (p : ℕ). slice_get (set cs y (counted (bits y) c)) p ≡ option_map (counted_among (take i taken ++ y ∷ []) bits p) (slice_get old p)) (sym same) here) elsewhere
      (cases_eq q y)
      ∙ ap (λ (ks : List ℕ). option_map (counted_among ks bits q) (slice_get old q)) (sym front)
    where
      is : among (take i taken ++ y ∷ []) y ≡ true
      is = among_last (take i taken) y y ∙ ap (λ (b : Bool). among (take i taken) y || b) (nat_eq_equiv.refl y) ∙ ap (λ (b : Bool). b || true) (not_before taken i y rising l at)

      here : slice_get (set cs y (counted (bits y) c)) y ≡ option_map (counted_among (take i taken ++ y ∷ []) bits y) (slice_get old y)
      here =
          set_there cs y (counted (bits y) c) c there
          ∙ ap (λ (b : Bool). Some (if b then counted (bits y) c else c)) (sym is)
          ∙ ap (λ (o : Option Counter). option_map (counted_among (take i taken ++ y ∷ []) bits y) o) (sym there ∙ still_there)

      elsewhere : (q ≡ y → ⊥) → slice_get (set cs y (counted (bits y) c)) q ≡ option_map (counted_among (take i taken ++ y ∷ []) bits q) (slice_get old q)
      elsewhere ne =
          let other : y ≡ q → ⊥ = λ h. ne (sym h) in
          let same : among (take i taken) q ≡ among (take i taken ++ y ∷ []) q =
          sym (among_last (take i taken) y q ∙ ap (λ (b : Bool). among (take i taken) q || b) (ne_eqb y q other) ∙ no_more (among (take i taken) q)) in
          set_elsewhere cs y q (counted (bits y) c) ne ∙ before q
          ∙ ap (λ (b : Bool). option_map (λ (d : Counter). if b then counted (bits q) d else d) (slice_get old q)) same

  -- and it is there
  pub within : y < length old → y < length cs
  within less = let x = within_get old y less in get_within cs y x.0 (still_there ∙ x.1)

ready : (old : List Counter) (y : ℕ) (c : Counter) → Each IsReady old → slice_get old y ≡ Some c → IsReady c
ready [] y c e at = absurd (let no : ⊥ = cc in no)
ready (x ∷ old) zero c e at = subst IsReady (same_Some x c at) e.0
ready (x ∷ old) (suc y) c e at = ready old y c e.1 at

pub below_at : (n : ℕ) (ks : List ℕ) (i y : ℕ) → Each (λ k. k < n) ks → i < length ks → get_or ks i 0 ≡ y → y < n
below_at n [] i y e l at = absurd (omega (arith, l))
below_at n (k ∷ ks) zero y e l at = subst (λ m. m < n) at e.0
below_at n (k ∷ ks) (suc i) y e l at = below_at n ks i y e.1 (omega (arith, l)) at

-- One turn: the counter of the number that is seen at a place.
module _ (taken seen : List ℕ) (i : ℕ) (bits : ℕ → ℕ) (old cs : List Counter) (x : Counter) (rising : AreRising taken) (all : Each (λ k. k < length old) taken) (e : seen ≡ taken)
    (l : i < length taken) (before : SoFar (take i taken) bits old cs) (is : x ≡ get_or cs (get_or seen i 0) x) where
  abbrev pub number : ℕ
  number = get_or seen i 0

  at : get_or taken i 0 ≡ number
  at = ap (λ (ns : List ℕ). get_or ns i 0) (sym e)

  there : slice_get cs number ≡ Some x
  there = get_item cs number x (within taken i number bits old cs rising l at before (below_at (length old) taken i number all l at)) is

  -- it is ready
  pub turn_ready : Each IsReady old → IsReady (get_or cs number x)
  turn_ready each = subst IsReady is (ready old number x each (sym (still_there taken i number bits old cs rising l at before) ∙ there))

  -- and when it has counted, all up to it have
  pub turn_done : (b : ℕ) (new : Counter) → b ≡ bits number → new ≡ counted b (get_or cs number x) → SoFar (take (i + 1) taken) bits old (set cs number new)
  turn_done b new f h =
      next_number taken i number bits old cs rising l at before (set cs number new) x there
      (ap (λ (c : Counter). set cs number c) (h ∙ ap (λ (n : ℕ). counted n (get_or cs number x)) f ∙ ap (counted (bits number)) (sym is)))
