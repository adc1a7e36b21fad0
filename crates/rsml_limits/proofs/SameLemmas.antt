-- What is the same is equal.
use Rattle.std.proofs.Common.{◌≡◌, Bool, true, false, ◌&&◌, [], ◌∷◌, refl, sym, ap, true≢false}
use Rattle.std.specs.Prelude.{◌==◌}
use Rattle.std.specs.Cmp.{first_so, second_so, signed_Decides}
use Rattle.std.specs.Cmp.Lexicographic.{pointwise, same_text}
use Rattle.std.proofs.lemmas.Bool.{eqb-true}
use Rattle.rsml_syntax.specs.text.Names.{same}
use Rattle.rsml_syntax.specs.limits.Comparisons.{same_truth, InputCell, same_cell, Ground, OfNumber, OfCell, same_ground, same_term, GroundSum}

truth_same : (a b : Bool) → same_truth a b ≡ true → a ≡ b
truth_same true true h = refl
truth_same true false h = absurd (true≢false (sym h))
truth_same false true h = absurd (true≢false (sym h))
truth_same false false h = refl

pub cell_same : (a b : InputCell) → same_cell a b ≡ true → a ≡ b
cell_same a b h =
    let rest = second_so (same_truth a.previous b.previous) (a.at == b.at && same a.input b.input) h in
    let previous = truth_same a.previous b.previous (first_so (same_truth a.previous b.previous) (a.at == b.at && same a.input b.input) h) in
    let at = eqb-true a.at b.at (first_so (a.at == b.at) (same a.input b.input) rest) in
    let input = same_text a.input b.input (sym (second_so (a.at == b.at) (same a.input b.input) rest)) in
    λ i. record { previous = previous i; input = input i; at = at i }

ground_same : (a b : Ground) → same_ground a b ≡ true → a ≡ b
ground_same (OfNumber m) (OfNumber n) h = ap OfNumber ((signed_Decides m n).0 h)
ground_same (OfNumber m) (OfCell b) h = absurd (true≢false (sym h))
ground_same (OfCell a) (OfNumber n) h = absurd (true≢false (sym h))
ground_same (OfCell a) (OfCell b) h = ap OfCell (cell_same a b h)

term_same : (a b : Bool × Ground) → same_term a b ≡ true → a ≡ b
term_same a b h =
    let minus = truth_same a.0 b.0 (first_so (same_truth a.0 b.0) (same_ground a.1 b.1) h) in
    let operand = ground_same a.1 b.1 (second_so (same_truth a.0 b.0) (same_ground a.1 b.1) h) in
    λ i. (minus i, operand i)

pub sum_same : (a b : GroundSum) → pointwise same_term a b ≡ true → a ≡ b
sum_same [] [] h = refl
sum_same [] (y ∷ ys) h = absurd (true≢false (sym h))
sum_same (x ∷ xs) [] h = absurd (true≢false (sym h))
sum_same (x ∷ xs) (y ∷ ys) h =
    let first = term_same x y (first_so (same_term x y) (pointwise same_term xs ys) h) in
    let rest = sum_same xs ys (second_so (same_term x y) (pointwise same_term xs ys) h) in
    λ i. first i ∷ rest i
