-- The numbers of targets.
use Rattle.std.proofs.Common.{◌≡◌, ℕ, ◌+◌, ◌*◌, ◌<◌, ◌≤◌, List, Option, inl, inr, ap, ◌∙◌, arith}
use Rattle.std.proofs.Math.Nat.{mul-le-mul_left, mul-le-mul_right, add-mul}
use Rattle.std.proofs.lemmas.Bool.{cases_lt}
use Rattle.text_writer.specs.Writes.{WriterState}
use Rattle.text_writer.specs.Buffering.{count_of, target_of, begins}

-- a square is greater than a lesser one and its root
squares : (s t : ℕ) → s < t → s * s + s < t * t
squares s t h =
    let left : s * s ≤ s * t = mul-le-mul_left {m = s} {n = t} s (omega arith) in
    let right : (s + 1) * t ≤ t * t = mul-le-mul_right {m = s + 1} {n = t} t (omega arith) in
    let both : (s + 1) * t ≡ s * t + 1 * t = add-mul s 1 t in
    omega arith

apart : (n m s t : ℕ) → n ≤ s → s < t → s * s + n ≡ t * t + m → ⊥
apart n m s t within h e = let less = squares s t h in omega arith

same_name : (n m s t : ℕ) → n ≤ s → m ≤ t → s * s + n ≡ t * t + m → (s ≡ t) × (n ≡ m)
same_name n m s t left right e = elim (cases_lt s t) [
  | inl less ↦ absurd (apart n m s t left less e)
  | inr some ↦ elim (cases_lt t s) [
    | inl more ↦ absurd (apart m n t s right more (omega arith))
    | inr none ↦
        let same : s ≡ t = omega arith in
        let square : s * s ≡ t * t = ap (λ k. k * k) same in
        (same, omega arith)
  ]
]

-- no two names and places have the same number
pub same_pair : (n p m q : ℕ) → target_of n p ≡ target_of m q → (n ≡ m) × (p ≡ q)
unfolding target_of
same_pair n p m q e =
    let same = same_name n m (n + p) (m + q) (omega arith) (omega arith) e in
    let name : n ≡ m = same.1 in
    let sum : n + p ≡ m + q = same.0 in
    (name, omega arith)

-- what keeps the target that a writer had at first is held by the same reference, since as many bytes were written
pub same_start : (name place held refusals : ℕ) (before : Option (List ℕ)) (first : WriterState) → first ≡ begins held before refusals
    → target_of name place ≡ first.target → (name ≡ held) × (place ≡ count_of before)
same_start name place held refusals before first start target =
    same_pair name place held (count_of before) (target ∙ ap (λ (s : WriterState). s.target) start)
