-- Rows that the numbers of cells meet.
use Rattle.std.proofs.Common.{◌≡◌, ℕ, ◌+◌, ◌<◌, Bool, true, false, if◌then◌else◌, List, [], ◌∷◌, ◌++◌, All, length, get_or, drop, fold, flat_map, add-one, drop-cons, refl, sym, ap, subst, ◌∙◌, inl, inr, arith, Option, None, Some, slice_get, ℤ, pos, neg_ℤ, ◌+ℤ◌, ◌≤ℤ◌}
use Rattle.std.specs.Prelude.{IfSome, ◌*ℤ◌, ◌-ℤ◌}
use Rattle.std.proofs.lemmas.Bool.{cases_eq}
use Rattle.std.proofs.lemmas.Int.{ints}
use Rattle.std.proofs.lemmas.List.{get_or_append_left, length-append}
use Rattle.std.proofs.lemmas.List.Elements.{All-push}
use Rattle.std.proofs.lemmas.Option.{get_or_from_slice_get, slice_get_read, slice_get_within}
use Rattle.std.proofs.Math.IntN.{+ℤ_assoc}
use Rattle.std.proofs.Math.Seq.{get_or-append_seam}
use mathlib.Core.Bool.{beq}
use Rattle.rsml_meaning.specs.Words.{Each}
use Rattle.linear_conflicts.specs.declared.term.Term.{Term}
use Rattle.linear_conflicts.specs.declared.row.Row.{Row}
use Rattle.linear_conflicts.specs.Rows.{terms_at, Meets}
use Rattle.rsml_syntax.specs.declared.syntax.Relation.{Relation}
use Rattle.rsml_syntax.specs.rules.Relations.{compare}
use Rattle.rsml_ground.specs.declared.sums.GroundOperand.{GroundOperand}
use Rattle.rsml_ground.specs.declared.sums.GroundOperand.TheVariants as operands
use Rattle.rsml_ground.specs.declared.sums.GroundTerm.{GroundTerm}
use Rattle.rsml_ground.specs.declared.sums.GroundSum.{GroundSum}
use Rattle.rsml_ground.specs.declared.phrases.GroundPhrase.TheVariants as phrases
use Rattle.rsml_ground.specs.Rests.{IsSmall, OperandFits, SumFits}
use Rattle.rsml_ground.specs.Truths.{operand_number, term_number, sum_number}
use Rattle.keyed_levels.specs.Keyed.{KeyedWorlds, comparison, key_at, phrases_of, world_at}
use Rattle.settled_worlds.specs.declared.literal.Literal.{Literal}
use Rattle.settled_worlds.specs.declared.rows.Rows.{Rows}
use Rattle.settled_worlds.specs.Conflicts.{no_literal, literal_at, numbers_of, numbers_at, operand_terms, term_terms, sum_terms, AreRows, HasMargin, IsMargin, IsRowOf, IsSmallSum, IsSo, IsThere}

-- what is said of an option that is there
pub if_some : {A : Type 0} (o : Option A) (x : A) (P : A → Type 0) → o ≡ Some x → IfSome o P → P x
if_some o x P is h = subst (λ q. IfSome q P) is h

-- Sums.

regroup : (a b c : ℤ) → a +ℤ (b +ℤ c) ≡ (a +ℤ b) +ℤ c
regroup a b c = sym (+ℤ_assoc a b c)

nothing : (z : ℤ) → z ≡ pos 0 +ℤ z
nothing z = grind (arith, ints)

terms_append : (v : ℕ → ℤ) (xs ys : List Term) → terms_at v (xs ++ ys) ≡ terms_at v xs +ℤ terms_at v ys
terms_append v [] ys = nothing (terms_at v ys)
terms_append v (t ∷ ts) ys =
    ap (λ z. t.factor *ℤ v t.variable +ℤ z) (terms_append v ts ys) ∙ regroup (t.factor *ℤ v t.variable) (terms_at v ts) (terms_at v ys)

-- the cell of a term, and its number
one_term : (cells : List ℤ) (sign : Bool) (o : GroundOperand)
    → terms_at (numbers_of cells) (operand_terms (if beq sign false then pos 1 else neg_ℤ (pos 1)) o) +ℤ (if sign then neg_ℤ (operand_number [] o) else operand_number [] o)
    ≡ (if sign then neg_ℤ (operand_number cells o) else operand_number cells o)
one_term cells true (operands.Number n) = sym (nothing (neg_ℤ n))
one_term cells false (operands.Number n) = sym (nothing n)
one_term cells true (operands.Cell cell) = times_minus (numbers_of cells cell)
  where
    times_minus : (z : ℤ) → ((neg_ℤ (pos 1) *ℤ z) +ℤ pos 0) +ℤ neg_ℤ (pos 0) ≡ neg_ℤ z
    times_minus z = grind (arith, ints)
one_term cells false (operands.Cell cell) = times_one (numbers_of cells cell)
  where
    times_one : (z : ℤ) → ((pos 1 *ℤ z) +ℤ pos 0) +ℤ pos 0 ≡ z
    times_one z = grind (arith, ints)

-- the same taken off
one_off : (cells : List ℤ) (sign : Bool) (o : GroundOperand)
    → terms_at (numbers_of cells) (operand_terms (if beq sign true then pos 1 else neg_ℤ (pos 1)) o) +ℤ (if sign then neg_ℤ (operand_number cells o) else operand_number cells o)
    ≡ (if sign then neg_ℤ (operand_number [] o) else operand_number [] o)
one_off cells true (operands.Number n) = sym (nothing (neg_ℤ n))
one_off cells false (operands.Number n) = sym (nothing n)
one_off cells true (operands.Cell cell) = times_one (numbers_of cells cell)
  where
    times_one : (z : ℤ) → ((pos 1 *ℤ z) +ℤ pos 0) +ℤ neg_ℤ z ≡ neg_ℤ (pos 0)
    times_one z = grind (arith, ints)
one_off cells false (operands.Cell cell) = times_minus (numbers_of cells cell)
  where
    times_minus : (z : ℤ) → ((neg_ℤ (pos 1) *ℤ z) +ℤ pos 0) +ℤ z ≡ pos 0
    times_minus z = grind (arith, ints)

-- the sum of terms from a number on
abbrev from : List ℤ → ℤ → List GroundTerm → ℤ
from cells z ts = fold (λ a t. a +ℤ term_number cells t) z ts

added : (one rest a b n m x y : ℤ) → (rest +ℤ y) +ℤ (a +ℤ n) ≡ x +ℤ (b +ℤ m) → one +ℤ m ≡ n → ((one +ℤ rest) +ℤ y) +ℤ a ≡ x +ℤ b
added one rest a b n m x y h e = omega (arith, ints, h, e)

both_start : (a b : ℤ) → (pos 0 +ℤ b) +ℤ a ≡ a +ℤ b
both_start a b = grind (arith, ints)

sums : (cells : List ℤ) (ts : List GroundTerm) (a b : ℤ)
    → (terms_at (numbers_of cells) (flat_map (term_terms false) ts) +ℤ from [] b ts) +ℤ a ≡ from cells a ts +ℤ b
sums cells [] a b = both_start a b
sums cells (t ∷ ts) a b =
    let one = terms_at (numbers_of cells) (term_terms false t) in
    let rest = terms_at (numbers_of cells) (flat_map (term_terms false) ts) in
    ap (λ z. (z +ℤ from [] (b +ℤ term_number [] t) ts) +ℤ a) (terms_append (numbers_of cells) (term_terms false t) (flat_map (term_terms false) ts))
    ∙ added one rest a b (term_number cells t) (term_number [] t) (from cells (a +ℤ term_number cells t) ts) (from [] (b +ℤ term_number [] t) ts)
    (sums cells ts (a +ℤ term_number cells t) (b +ℤ term_number [] t)) (one_term cells t.minus t.operand)

sums_off : (cells : List ℤ) (ts : List GroundTerm) (a b : ℤ)
    → (terms_at (numbers_of cells) (flat_map (term_terms true) ts) +ℤ from cells b ts) +ℤ a ≡ from [] a ts +ℤ b
sums_off cells [] a b = both_start a b
sums_off cells (t ∷ ts) a b =
    let one = terms_at (numbers_of cells) (term_terms true t) in
    let rest = terms_at (numbers_of cells) (flat_map (term_terms true) ts) in
    ap (λ z. (z +ℤ from cells (b +ℤ term_number cells t) ts) +ℤ a) (terms_append (numbers_of cells) (term_terms true t) (flat_map (term_terms true) ts))
    ∙ added one rest a b (term_number [] t) (term_number cells t) (from [] (a +ℤ term_number [] t) ts) (from cells (b +ℤ term_number cells t) ts)
    (sums_off cells ts (a +ℤ term_number [] t) (b +ℤ term_number cells t)) (one_off cells t.minus t.operand)

meets : (one two all most x y p q m : ℤ) → all ≡ one +ℤ two → (one +ℤ p) +ℤ pos 0 ≡ x +ℤ pos 0 → (two +ℤ y) +ℤ pos 0 ≡ q +ℤ pos 0
    → most ≡ (m +ℤ q) -ℤ p → x ≤ℤ (y +ℤ m) → all ≤ℤ most
meets one two all most x y p q m a b c d e = omega (arith, ints, a, b, c, d, e)

-- the row of two sums
pub is_row : (first second : GroundSum) (margin : ℤ) (row : Row) → row.terms.items ≡ sum_terms false first ++ sum_terms true second
    → row.most ≡ (margin +ℤ sum_number [] second) -ℤ sum_number [] first → IsRowOf first second margin row
is_row first second margin row terms most cells h =
    let v = numbers_of cells in
    meets (terms_at v (sum_terms false first)) (terms_at v (sum_terms true second)) (terms_at v row.terms.items) row.most (sum_number cells first) (sum_number cells second) (sum_number [] first) (sum_number [] second) margin
    (ap (terms_at v) terms ∙ terms_append v (sum_terms false first) (sum_terms true second))
    (sums cells first.terms (pos 0) (pos 0)) (sums_off cells second.terms (pos 0) (pos 0)) most h

-- one more term of the numbers alone
pub constant_more : (ts : List GroundTerm) (i : ℕ) (d : GroundTerm) (a b whole : ℤ) → i < length ts
    → b ≡ a +ℤ term_number [] (get_or ts i d) → from [] a (drop i ts) ≡ whole → from [] b (drop (i + 1) ts) ≡ whole
constant_more ts i d a b whole h added before =
    ap (λ z. from [] z (drop (i + 1) ts)) added ∙ ap (λ k. from [] (a +ℤ term_number [] (get_or ts i d)) (drop k ts)) (add-one i)
    ∙ ap (from [] a) (sym (drop-cons ts i d h)) ∙ before

-- the numbers of a sum that fits some cells are small
numbers_small : (n : ℕ) (ts : List GroundTerm) → Each (λ t. OperandFits n t.operand) ts → Each (λ t. IsSmall (operand_number [] t.operand)) ts
numbers_small n [] e = tt
numbers_small n (t ∷ ts) e = (by t.operand e.0, numbers_small n ts e.1)
  where
    by : (o : GroundOperand) → OperandFits n o → IsSmall (operand_number [] o)
    by (operands.Number z) fits = fits
    by (operands.Cell cell) fits = refl

pub small_sum : (n : ℕ) (x : GroundSum) → SumFits n x → IsSmallSum x
small_sum n x fits = record { few = fits.few; numbers = numbers_small n x.terms fits.operands }

-- Rows.

-- one more
pub rows_more : (k : KeyedWorlds) (old new : Rows) (literal : Literal) (row : Row) → AreRows k old → IsThere k literal
    → new.rows.items ≡ old.rows.items ++ row ∷ [] → new.literals.items ≡ old.literals.items ++ literal ∷ []
    → ((values : ℕ → Bool) → IsSo k values literal → Meets (numbers_at k values) row) → AreRows k new
rows_more k old new literal row are there rows literals meets =
    let rs = old.rows.items in
    let ls = old.literals.items in
    record {
      many = ap length literals ∙ length-append ls (literal ∷ []) ∙ ap (λ n. n + 1) are.many ∙ sym (length-append rs (row ∷ [])) ∙ ap length (sym rows);
      there = subst (λ xs. All (IsThere k) xs) (sym literals) (All-push (IsThere k) ls literal are.there there);
      met = λ i found at values so.
          let is : slice_get (rs ++ row ∷ []) i ≡ Some found = ap (λ xs. slice_get xs i) (sym rows) ∙ at in
          let its : IsSo k values (literal_at (ls ++ literal ∷ []) i) = subst (λ xs. IsSo k values (literal_at xs i)) literals so in
          let read : get_or (rs ++ row ∷ []) i found ≡ found = get_or_from_slice_get (rs ++ row ∷ []) i found found is in
          elim (cases_eq i (length rs)) [
            | inl same ↦ (
                let one : row ≡ found = sym (get_or-append_seam rs row [] found) ∙ ap (λ j. get_or (rs ++ row ∷ []) j found) (sym same) ∙ read in
                let here : literal_at (ls ++ literal ∷ []) i ≡ literal = ap (literal_at (ls ++ literal ∷ [])) (same ∙ sym are.many) ∙ get_or-append_seam ls literal [] no_literal in
                subst (Meets (numbers_at k values)) one (meets values (subst (IsSo k values) here its)))
            | inr ne ↦ (
                let less : i < length rs = omega (arith, slice_get_within (rs ++ row ∷ []) i found is, length-append rs (row ∷ []), ne) in
                let before : slice_get rs i ≡ Some found = slice_get_read rs (length rs) i found refl less (sym (sym (get_or_append_left rs (row ∷ []) found i less) ∙ read)) in
                are.met i found before values (subst (IsSo k values) (get_or_append_left ls (literal ∷ []) no_literal i (omega (arith, less, are.many))) its))
          ];
    }

-- none
pub no_rows : (k : KeyedWorlds) (r : Rows) → r.rows.items ≡ [] → r.literals.items ≡ [] → AreRows k r
no_rows k r rows literals = record {
  many = ap length literals ∙ ap length (sym rows);
  there = λ i d less. absurd (omega (arith, less, ap length literals));
  met = λ i row at values so. absurd (omega (arith, slice_get_within r.rows.items i row at, ap length rows));
}

-- a literal and a margin of its relation
pub has_margin : (k : KeyedWorlds) (literal : Literal) (left right : GroundSum) (relation : Relation) (margin : Option ℤ)
    → slice_get (phrases_of k) (key_at k.keyed literal.place).phrase ≡ Some (phrases.Compare left relation right)
    → IfSome margin (IsMargin relation literal.truth) → HasMargin k literal left margin right
has_margin k literal left right relation None at h values so = tt
has_margin k literal left right relation (Some m) at h values so =
    let w = world_at k values in
    h (sum_number w.cells left) (sum_number w.cells right) (ap (comparison w) (sym at) ∙ so)

-- and of the relation that is turned
pub has_margin_turned : (k : KeyedWorlds) (literal : Literal) (left right : GroundSum) (relation turned : Relation) (margin : Option ℤ)
    → slice_get (phrases_of k) (key_at k.keyed literal.place).phrase ≡ Some (phrases.Compare left relation right)
    → ((x y : ℤ) → compare turned y x ≡ compare relation x y) → IfSome margin (IsMargin turned literal.truth) → HasMargin k literal right margin left
has_margin_turned k literal left right relation turned None at turns h values so = tt
has_margin_turned k literal left right relation turned (Some m) at turns h values so =
    let w = world_at k values in
    h (sum_number w.cells right) (sum_number w.cells left) (turns (sum_number w.cells left) (sum_number w.cells right) ∙ ap (comparison w) (sym at) ∙ so)
