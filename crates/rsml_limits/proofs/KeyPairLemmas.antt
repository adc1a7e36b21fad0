-- Pairs of numbers that stand for keys: there are as many of them without repeats.
use Rattle.std.proofs.Common.{◌≡◌, ℕ, zero, suc, ◌<◌, ◌==◌, Bool, true, false, ◌&&◌, ◌||◌, if◌then◌else◌, List, [], ◌∷◌, map, length, Some, slice_get, refl, sym, ap, subst, ◌∙◌, true≢false, arith, inl, inr}
use Rattle.std.specs.Cmp.{IsEquivalence, on_equiv}
use Rattle.std.specs.Cmp.Lexicographic.{pointwise}
use Rattle.std.specs.List.{list_any, AllByRecursion, AllZip, IsDistinct}
use Rattle.std.proofs.lemmas.Bool.{cases_lt}
use Rattle.std.proofs.lemmas.Bool.Decides.{eqb_tells}
use Rattle.std.proofs.lemmas.Option.{same_Some}
use Rattle.std.proofs.lemmas.Map.Keys.{IsDistinct-head, IsDistinct-tail}
use denote.Enum.Bare.{sameb}
use Rattle.rsml_syntax.specs.contracts.syntax.Relation as relation_type
use Rattle.rsml_syntax.specs.declared.syntax.Relation.{Relation}
use Rattle.rsml_syntax.specs.limits.Comparisons.{GroundSum, same_term, Comparison, comparison_of}
use Rattle.rsml_syntax.specs.limits.Thresholds.{same_key}
use Rattle.rsml_syntax.specs.limits.Limits.{distinct}
use Rattle.rsml_limits.proofs.EquivalenceLemmas.{key_equiv}
use Rattle.pair_counts.specs.Blocks.{same_pair}
use Rattle.rsml_limits.specs.keys.Numbered.{Ordered, ordered, same_ordered, AreNumbers}

-- PLACES OF DIFFERENT ITEMS

module _ {A : Type 0} (eq : A → A → Bool) (laws : IsEquivalence eq) where
  of_all : (P : A → Type 0) (xs : List A) (i : ℕ) (x : A) → AllByRecursion P xs → slice_get xs i ≡ Some x → P x
  of_all P [] i x h at = cc
  of_all P (y ∷ ys) zero x h at = let same : y ≡ x = cc in subst P same h.0
  of_all P (y ∷ ys) (suc i) x h at = of_all P ys i x h.1 at

  apart : (xs : List A) (i j : ℕ) (x y : A) → IsDistinct eq xs → i < j → slice_get xs i ≡ Some x → slice_get xs j ≡ Some y → eq x y ≡ false
  apart [] i j x y differ h at there = cc
  apart (z ∷ zs) zero zero x y differ h at there = absurd (omega arith)
  apart (z ∷ zs) zero (suc j) x y differ h at there =
      let same : z ≡ x = cc in
      subst (λ x. eq x y ≡ false) same (of_all (λ y. eq z y ≡ false) zs j y (IsDistinct-head eq z zs differ) there)
  apart (z ∷ zs) (suc i) zero x y differ h at there = absurd (omega arith)
  apart (z ∷ zs) (suc i) (suc j) x y differ h at there = apart zs i j x y (IsDistinct-tail eq z zs differ) (omega arith) at there

  -- places are equal as their items are
  pub places_alike : (xs : List A) (i j : ℕ) (x y : A) → IsDistinct eq xs → slice_get xs i ≡ Some x → slice_get xs j ≡ Some y → (i == j) ≡ eq x y
  places_alike xs i j x y differ at there =
      elim (eqb_tells i j) [
        | inl same ↦
            let one : x ≡ y = same_Some x y (sym at ∙ ap (slice_get xs) same.1 ∙ there) in
            same.0 ∙ sym (ap (λ z. eq z y) one ∙ laws.refl y)
        | inr other ↦
            other.0 ∙ elim (cases_lt i j) [
              | inl before ↦ sym (apart xs i j x y differ before at there)
              | inr after ↦ let later : j < i = omega (arith, other.1) in sym (laws.symm x y ∙ apart xs j i y x differ later there at)
            ]
      ]

-- PAIRS AND KEYS

-- The numbers of the sides of a key.
pub record IsPair (sums : List Ordered) (k : Comparison) (p : ℕ × ℕ) : Type 0 where
  pub left : slice_get sums p.0 ≡ Some (ordered k.relation k.left)
  pub right : slice_get sums p.1 ≡ Some (ordered k.relation k.right)

ordered_equiv : IsEquivalence same_ordered
ordered_equiv =
    subst IsEquivalence (λ i (a b : Ordered). sameb relation_type.the_type a.relation b.relation && and_true (pointwise same_term a.terms b.terms) i)
    (on_equiv (λ (o : Ordered). comparison_of o.terms o.relation []) key_equiv)
  where
    and_true : (b : Bool) → (b && true) ≡ b
    and_true true = refl
    and_true false = refl

module _ (sums : List Ordered) (differ : IsDistinct same_ordered sums) where
  pair_alike : (k l : Comparison) (p q : ℕ × ℕ) → IsPair sums k p → IsPair sums l q → same_pair p q ≡ same_key k l
  pair_alike k l p q a b =
      (λ i.
      places_alike same_ordered ordered_equiv sums p.0 q.0 (ordered k.relation k.left) (ordered l.relation l.left) differ a.left b.left i
      && places_alike same_ordered ordered_equiv sums p.1 q.1 (ordered k.relation k.right) (ordered l.relation l.right) differ a.right b.right i)
      ∙ once (sameb relation_type.the_type k.relation l.relation) (pointwise same_term k.left l.left) (pointwise same_term k.right l.right)
    where
      once : (r x y : Bool) → ((r && x) && (r && y)) ≡ (r && (x && y))
      once true x y = refl
      once false x y = refl

  any_alike : (k : Comparison) (p : ℕ × ℕ) → IsPair sums k p → (ks : List Comparison) (ps : List (ℕ × ℕ)) → AllZip (IsPair sums) ks ps → list_any (same_pair p) ps ≡ list_any (same_key k) ks
  any_alike k p a [] [] h = refl
  any_alike k p a [] (q ∷ qs) h = absurd h
  any_alike k p a (l ∷ ls) [] h = absurd h
  any_alike k p a (l ∷ ls) (q ∷ qs) h = λ i. pair_alike k l p q a h.0 i || any_alike k p a ls qs h.1 i

  -- as many pairs as keys
  pub many_alike_pairs : (ks : List Comparison) (ps : List (ℕ × ℕ)) → AllZip (IsPair sums) ks ps → length (distinct same_pair ps) ≡ length (distinct same_key ks)
  many_alike_pairs [] [] h = refl
  many_alike_pairs [] (q ∷ qs) h = absurd h
  many_alike_pairs (l ∷ ls) [] h = absurd h
  many_alike_pairs (l ∷ ls) (q ∷ qs) h = by (list_any (same_pair q) qs) (list_any (same_key l) ls) (any_alike l q h.0 ls qs h.1) (many_alike_pairs ls qs h.1)
    where
      by : (s t : Bool) → s ≡ t → length (distinct same_pair qs) ≡ length (distinct same_key ls) →
          length (if s then distinct same_pair qs else q ∷ distinct same_pair qs) ≡ length (if t then distinct same_key ls else l ∷ distinct same_key ls)
      by true true e rest = rest
      by true false e rest = absurd (true≢false e)
      by false true e rest = absurd (true≢false (sym e))
      by false false e rest = ap suc rest

-- PAIRS OF LINES

pub column_stands : (sums : List Ordered) (numbers : List ℕ) (fixed : ℕ) (relation : Relation) (these : List GroundSum) (right : GroundSum) →
    AreNumbers sums numbers relation these → slice_get sums fixed ≡ Some (ordered relation right) →
    AllZip (IsPair sums) (map (λ left. comparison_of left relation right) these) (map (λ n. (n, fixed)) numbers)
column_stands sums [] fixed relation [] right are at = tt
column_stands sums [] fixed relation (x ∷ xs) right are at = cc
column_stands sums (n ∷ ns) fixed relation [] right are at = cc
column_stands sums (n ∷ ns) fixed relation (x ∷ xs) right are at =
    let first : slice_get sums n ≡ Some (ordered relation x) = cc in
    let rest : AreNumbers sums ns relation xs = cc in
    (record { left = first; right = at }, column_stands sums ns fixed relation xs right rest at)

pub row_stands : (sums : List Ordered) (numbers : List ℕ) (fixed : ℕ) (relation : Relation) (these : List GroundSum) (left : GroundSum) →
    AreNumbers sums numbers relation these → slice_get sums fixed ≡ Some (ordered relation left) →
    AllZip (IsPair sums) (map (λ right. comparison_of left relation right) these) (map (λ n. (fixed, n)) numbers)
row_stands sums [] fixed relation [] left are at = tt
row_stands sums [] fixed relation (x ∷ xs) left are at = cc
row_stands sums (n ∷ ns) fixed relation [] left are at = cc
row_stands sums (n ∷ ns) fixed relation (x ∷ xs) left are at =
    let first : slice_get sums n ≡ Some (ordered relation x) = cc in
    let rest : AreNumbers sums ns relation xs = cc in
    (record { left = at; right = first }, row_stands sums ns fixed relation xs left rest at)
