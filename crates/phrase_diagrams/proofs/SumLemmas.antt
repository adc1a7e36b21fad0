-- A sum of cells is the sum of its levels, and what it comes to where each cell has its least number.
use Rattle.std.proofs.Common.{◌≡◌, ℕ, ◌+◌, ◌*◌, ◌<◌, ◌≤◌, Bool, true, false, not, if◌then◌else◌, List, [], ◌∷◌, ◌++◌, length, get_or, refl, sym, ◌∙◌, ap, arith, All, ℤ, pos, neg_ℤ, ◌+ℤ◌, Some, slice_get, fold, flat_map}
use Rattle.std.specs.Option.{option_map_or}
use Rattle.std.proofs.lemmas.Int.{ints}
use Rattle.std.proofs.lemmas.List.Elements.{All-append}
use Rattle.rsml_meaning.specs.Words.{Each}
use Rattle.rsml_meaning.specs.Cells.{InputCell, cells}
use Rattle.rsml_ground.specs.declared.sums.GroundOperand.{GroundOperand}
use Rattle.rsml_ground.specs.declared.sums.GroundOperand.TheVariants as operands
use Rattle.rsml_ground.specs.declared.sums.GroundTerm.{GroundTerm}
use Rattle.rsml_ground.specs.declared.sums.GroundSum.{GroundSum}
use Rattle.rsml_ground.specs.Rests.{OperandFits, SumFits}
use Rattle.rsml_ground.specs.Truths.{operand_number, term_number, sum_number}
use Rattle.spelled_numbers.specs.declared.weighted.Weighted.{Weighted}
use Rattle.spelled_numbers.specs.Sums.{signed_sum, total_weight}
use Rattle.spelled_numbers.specs.Spelling.{total, number}
use Rattle.spelled_numbers.specs.Bits.{bits_of}
use Rattle.spelled_numbers.proofs.BitLemmas.{append, signed-number, totals, levels}
use Rattle.world_levels.specs.Spelling.{WorldLevels, world_of, cell_part}
use Rattle.phrase_diagrams.specs.Terms.{operand_base, term_base, sum_base, operand_levels, term_levels, sum_levels}
use Rattle.phrase_diagrams.proofs.WorldLemmas.{item_at, cell_at}

-- the numbers of the cells where the levels have these values
abbrev pub numbers : WorldLevels → (ℕ → Bool) → List ℤ
numbers l v = (world_of l.spec l.slots v).cells

-- a number, or it taken off
abbrev pub turn : Bool → ℤ → ℤ
turn minus z = if minus then neg_ℤ z else z

turn_add : (minus : Bool) (x y : ℤ) → turn minus (x +ℤ y) ≡ turn minus x +ℤ turn minus y
turn_add true x y = omega (arith, ints)
turn_add false x y = omega (arith, ints)

-- the sign of a term of a sum that is turned
turn_sign : (minus sign : Bool) (x : ℤ) → turn minus (if sign then neg_ℤ x else x) ≡ turn (if minus then not sign else sign) x
turn_sign true true x = omega (arith, ints)
turn_sign true false x = refl
turn_sign false true x = refl
turn_sign false false x = refl

number_is : (minus : Bool) (n : ℤ) → pos 0 +ℤ turn minus n ≡ turn minus n
number_is minus n = omega (arith, ints)

above_is : (minus : Bool) (n : ℕ) (low : ℤ) → turn minus (pos n) +ℤ turn minus low ≡ turn minus (low +ℤ pos n)
above_is true n low = omega (arith, ints)
above_is false n low = omega (arith, ints)

cell_is : (l : WorldLevels) (v : ℕ → Bool) (minus : Bool) (k : ℕ) (c : InputCell) → slice_get (cells l.spec) k ≡ Some c
    → signed_sum v (bits_of (cell_part l.spec k) minus l.slots 0) +ℤ turn minus (operand_base l.spec (operands.Cell k)) ≡ turn minus (get_or (numbers l v) k (pos 0))
cell_is l v minus k c is =
    ap (λ z. z +ℤ turn minus (operand_base l.spec (operands.Cell k))) (signed-number (cell_part l.spec k) minus l.slots v 0)
    ∙ ap (λ (o : _). turn minus (pos (number (cell_part l.spec k) l.slots v 0)) +ℤ turn minus (option_map_or (λ (d : InputCell). d.numbers.low) o (pos 0))) is
    ∙ above_is minus (number (cell_part l.spec k) l.slots v 0) c.numbers.low
    ∙ ap (turn minus) (sym (cell_at l.spec l.slots v k c is))

operand_is : (l : WorldLevels) (v : ℕ → Bool) (minus : Bool) (o : GroundOperand) → OperandFits (length (cells l.spec)) o
    → signed_sum v (operand_levels l minus o) +ℤ turn minus (operand_base l.spec o) ≡ turn minus (operand_number (numbers l v) o)
operand_is l v minus (operands.Number n) fits = number_is minus n
operand_is l v minus (operands.Cell k) fits = let there = item_at (cells l.spec) k fits in cell_is l v minus k there.0 there.1

term_is : (l : WorldLevels) (v : ℕ → Bool) (minus : Bool) (t : GroundTerm) → OperandFits (length (cells l.spec)) t.operand
    → signed_sum v (term_levels l minus t) +ℤ turn minus (term_base l.spec t) ≡ turn minus (term_number (numbers l v) t)
term_is l v minus t fits =
    ap (λ z. signed_sum v (term_levels l minus t) +ℤ z) (turn_sign minus t.minus (operand_base l.spec t.operand))
    ∙ operand_is l v (if minus then not t.minus else t.minus) t.operand fits
    ∙ sym (turn_sign minus t.minus (operand_number (numbers l v) t.operand))

-- one term more: s and x are what its levels and its base come to, y its number
one_more : (minus : Bool) (sum base whole s x y : ℤ) → sum +ℤ turn minus base ≡ turn minus whole → s +ℤ turn minus x ≡ turn minus y
    → (sum +ℤ s) +ℤ turn minus (base +ℤ x) ≡ turn minus (whole +ℤ y)
one_more minus sum base whole s x y e f = omega (arith, ints, turn_add minus base x, turn_add minus whole y)

terms_are : (l : WorldLevels) (v : ℕ → Bool) (minus : Bool) (ts : List GroundTerm) (sum base whole : ℤ) → Each (λ (t : GroundTerm). OperandFits (length (cells l.spec)) t.operand) ts
    → sum +ℤ turn minus base ≡ turn minus whole
    → (sum +ℤ signed_sum v (flat_map (term_levels l minus) ts)) +ℤ turn minus (fold (λ a t. a +ℤ term_base l.spec t) base ts) ≡ turn minus (fold (λ a t. a +ℤ term_number (numbers l v) t) whole ts)
terms_are l v minus [] sum base whole each e = omega (arith, ints)
terms_are l v minus (t ∷ ts) sum base whole each e =
    ap (λ z. (sum +ℤ z) +ℤ turn minus (fold (λ a t. a +ℤ term_base l.spec t) (base +ℤ term_base l.spec t) ts)) (append v (term_levels l minus t) (flat_map (term_levels l minus) ts))
    ∙ regroup sum (signed_sum v (term_levels l minus t)) (signed_sum v (flat_map (term_levels l minus) ts)) (turn minus (fold (λ a t. a +ℤ term_base l.spec t) (base +ℤ term_base l.spec t) ts))
    ∙ terms_are l v minus ts (sum +ℤ signed_sum v (term_levels l minus t)) (base +ℤ term_base l.spec t) (whole +ℤ term_number (numbers l v) t) each.1
    (one_more minus sum base whole (signed_sum v (term_levels l minus t)) (term_base l.spec t) (term_number (numbers l v) t) e (term_is l v minus t each.0))
  where
    regroup : (a b c d : ℤ) → (a +ℤ (b +ℤ c)) +ℤ d ≡ ((a +ℤ b) +ℤ c) +ℤ d
    regroup a b c d = omega (arith, ints)

nothing : (minus : Bool) → pos 0 +ℤ turn minus (pos 0) ≡ turn minus (pos 0)
nothing true = refl
nothing false = refl

-- a sum that is added, or taken off where `minus`
pub sum_is : (l : WorldLevels) (v : ℕ → Bool) (minus : Bool) (x : GroundSum) → SumFits (length (cells l.spec)) x
    → signed_sum v (sum_levels l minus x) +ℤ turn minus (sum_base l.spec x) ≡ turn minus (sum_number (numbers l v) x)
sum_is l v minus x fits = from_none (signed_sum v (sum_levels l minus x)) _ ∙ terms_are l v minus x.terms (pos 0) (pos 0) (pos 0) fits.operands (nothing minus)
  where
    from_none : (a b : ℤ) → a +ℤ b ≡ (pos 0 +ℤ a) +ℤ b
    from_none a b = omega (arith, ints)

-- all weights of a term come to so much at most
term_total : (l : WorldLevels) (minus : Bool) (o : GroundOperand) → ((p : ℕ) → total p l.slots ≤ 2000000000) → total_weight (operand_levels l minus o) ≤ 2000000000
term_total l minus (operands.Number n) small = omega arith
term_total l minus (operands.Cell k) small = omega (arith, totals (cell_part l.spec k) minus l.slots 0, small (cell_part l.spec k))

total_append : (some more : List Weighted) → total_weight (some ++ more) ≡ total_weight some + total_weight more
total_append [] more = omega arith
total_append (t ∷ ts) more = omega (arith, total_append ts more)

pub terms_total : (l : WorldLevels) (minus : Bool) (ts : List GroundTerm) → ((p : ℕ) → total p l.slots ≤ 2000000000) → total_weight (flat_map (term_levels l minus) ts) ≤ 2000000000 * length ts
terms_total l minus [] small = omega arith
terms_total l minus (t ∷ ts) small =
    omega (arith, total_append (term_levels l minus t) (flat_map (term_levels l minus) ts), term_total l (if minus then not t.minus else t.minus) t.operand small, terms_total l minus ts small)

-- those of two sums
pub both_total : (l : WorldLevels) (x y : GroundSum) → ((p : ℕ) → total p l.slots ≤ 2000000000) → SumFits (length (cells l.spec)) x → SumFits (length (cells l.spec)) y
    → total_weight (sum_levels l false x ++ sum_levels l true y) ≤ 32000000000
both_total l x y small a b =
    omega (arith, total_append (sum_levels l false x) (sum_levels l true y), terms_total l false x.terms small, terms_total l true y.terms small, a.few, b.few)

operand_within : (l : WorldLevels) (minus : Bool) (o : GroundOperand) → All (λ (t : Weighted). t.level < length l.slots) (operand_levels l minus o)
operand_within l minus (operands.Number n) = λ i d less. absurd (omega (arith, less))
operand_within l minus (operands.Cell k) = levels (cell_part l.spec k) minus l.slots

pub terms_within : (l : WorldLevels) (minus : Bool) (ts : List GroundTerm) → All (λ (t : Weighted). t.level < length l.slots) (flat_map (term_levels l minus) ts)
terms_within l minus [] = λ i d less. absurd (omega (arith, less))
terms_within l minus (t ∷ ts) =
    All-append (λ (t : Weighted). t.level < length l.slots) (term_levels l minus t) (flat_map (term_levels l minus) ts)
    (operand_within l (if minus then not t.minus else t.minus) t.operand) (terms_within l minus ts)

-- the levels of two sums are those of the layout
pub both_within : (l : WorldLevels) (x y : GroundSum) → All (λ (t : Weighted). t.level < length l.slots) (sum_levels l false x ++ sum_levels l true y)
both_within l x y =
    All-append (λ (t : Weighted). t.level < length l.slots) (sum_levels l false x) (sum_levels l true y) (terms_within l false x.terms) (terms_within l true y.terms)
