-- The places of indices that follow each other.
use Rattle.std.proofs.Common.{◌≡◌, ℕ, zero, suc, ◌+◌, ◌-◌, ◌≤◌, ◌<◌, Bool, true, false, cond, List, [], ◌∷◌, ◌++◌, length, Option, Some, None, nat_eq, refl, sym, ap, ◌∙◌, arith, true≢false}
use Rattle.std.specs.List.{position_from, range_with_len}
use Rattle.std.proofs.lemmas.Bool.Decides.{nat_tests}
use Rattle.rsml_syntax.specs.declared.syntax.Amount.{Amount}
use Rattle.rsml_syntax.specs.rules.Globals.{Globals, many, up_to, indices}
use Rattle.rsml_meaning.proofs.Same.{nat_same, nat_itself}
use Rattle.state_arrays.specs.Ranges.{range}

different : (i low : ℕ) → nat_eq i low ≡ false → i ≡ low → ⊥
different i low h e = true≢false (sym (nat_itself low) ∙ ap (λ n. nat_eq n low) (sym e) ∙ h)

-- an index that is among them stands as far from the first as it is greater
found_in : (i p low n : ℕ) → low ≤ i → i < low + n → position_from (nat_eq i) p (range_with_len low n) ≡ Some (p + (i - low))
found_in i p low zero a b = absurd (let no : ⊥ = omega (arith, a, b) in no)
found_in i p low (suc n) a b = by (nat_eq i low) refl (λ l m. found_in i (p + 1) (low + 1) n l m)
  where
    by : (t : Bool) → nat_eq i low ≡ t → (low + 1 ≤ i → i < low + 1 + n → position_from (nat_eq i) (p + 1) (range_with_len (low + 1) n) ≡ Some (p + 1 + (i - (low + 1))))
        → cond t (Some p) (position_from (nat_eq i) (p + 1) (range_with_len (low + 1) n)) ≡ Some (p + (i - low))
    by true e next = let q = nat_same i low e in ap (λ (m : ℕ). Some m) (omega (arith, q))
    by false e next =
        let d = different i low e in
        let l : low + 1 ≤ i = grind arith in
        next l (omega (arith, b)) ∙ ap (λ (m : ℕ). Some m) (omega (arith, l))

below_all : (i p low n : ℕ) → i < low → position_from (nat_eq i) p (range_with_len low n) ≡ None
below_all i p low zero h = refl
below_all i p low (suc n) h =
    let no : nat_eq i low ≡ false = grind (arith, nat_tests) in
    ap (λ t. cond t (Some p) (position_from (nat_eq i) (p + 1) (range_with_len (low + 1) n))) no ∙ below_all i (p + 1) (low + 1) n (omega (arith, h))

above_all : (i p low n : ℕ) → low + n ≤ i → position_from (nat_eq i) p (range_with_len low n) ≡ None
above_all i p low zero h = refl
above_all i p low (suc n) h =
    let no : nat_eq i low ≡ false = grind (arith, nat_tests) in
    ap (λ t. cond t (Some p) (position_from (nat_eq i) (p + 1) (range_with_len (low + 1) n))) no ∙ above_all i (p + 1) (low + 1) n (omega (arith, h))

pub index_found : (i low high d : ℕ) → low ≤ i → i ≤ high → d ≡ i - low → Some d ≡ position_from (nat_eq i) 0 (range low high)
index_found i low high d a b e = ap (λ (m : ℕ). Some m) (omega (arith, e)) ∙ sym (found_in i 0 low (suc high - low) a (omega (arith, a, b)))

pub index_below : (i low high : ℕ) → i < low → None ≡ position_from (nat_eq i) 0 (range low high)
index_below i low high h = sym (below_all i 0 low (suc high - low) h)

pub index_above : (i low high : ℕ) → low ≤ high → high < i → None ≡ position_from (nat_eq i) 0 (range low high)
index_above i low high l h = sym (above_all i 0 low (suc high - low) (omega (arith, l, h)))

range_length : (low n : ℕ) → length (range_with_len low n) ≡ n
range_length low zero = refl
range_length low (suc n) = ap suc (range_length (low + 1) n)

pub range_count : (low high n : ℕ) → low ≤ high → n ≡ high - low → n + 1 ≡ length (range low high)
range_count low high n l e = omega (arith, l, e) ∙ sym (range_length low (suc high - low))

range_last : (low n : ℕ) → range_with_len low (suc n) ≡ range_with_len low n ++ ((low + n) ∷ [])
range_last low zero = ap (λ (m : ℕ). m ∷ []) (omega arith)
range_last low (suc n) = ap (λ (ms : List ℕ). low ∷ ms) (range_last (low + 1) n ∙ ap (λ (m : ℕ). range_with_len (low + 1) n ++ (m ∷ [])) (omega arith))

pub range_up_to : (n : ℕ) → range_with_len 1 n ≡ up_to n
range_up_to zero = refl
range_up_to (suc n) = range_last 1 n ∙ ap (λ (m : ℕ). range_with_len 1 n ++ (m ∷ [])) (omega arith) ∙ ap (λ (ms : List ℕ). ms ++ (suc n ∷ [])) (range_up_to n)

range_to : (n m : ℕ) → m ≡ n → range 1 m ≡ up_to n
range_to n m e = ap (λ (k : ℕ). range_with_len 1 k) (omega (arith, e)) ∙ range_up_to n

indices_sized : (g : Globals) (o : Option Amount) (amount : Amount) → o ≡ Some amount → up_to (many g o) ≡ indices g o
indices_sized g o amount e = ap (λ (x : Option Amount). up_to (many g x)) e ∙ sym (ap (λ (x : Option Amount). indices g x) e)

pub range_sized : (g : Globals) (o : Option Amount) (amount : Amount) (n : ℕ) → o ≡ Some amount → n ≡ many g o → range 1 n ≡ indices g o
range_sized g o amount n e m = range_to (many g o) n m ∙ indices_sized g o amount e

pub range_plain : (g : Globals) (o : Option Amount) → o ≡ None → range 0 0 ≡ indices g o
range_plain g o e = sym (ap (λ (x : Option Amount). indices g x) e)
