-- Levels with which no part lacks anything are those of the specification.
use Rattle.std.proofs.Common.{◌≡◌, ℕ, zero, suc, ◌+◌, ◌-◌, ◌<◌, ◌≤◌, ◌^◌, List, [], ◌∷◌, ◌++◌, length, slice_index_or, Some, slice_get, pos, ◌+ℤ◌, inl, inr, refl, sym, ◌∙◌, ap, subst, arith}
use Rattle.std.proofs.lemmas.Bool.{cases_lt}
use Rattle.std.proofs.lemmas.List.{get_or_past, get_or_append_left, get_or_push, length-append}
use Rattle.rsml_syntax.specs.declared.syntax.Spec.{Spec}
use Rattle.rsml_meaning.specs.Instances.{components}
use Rattle.rsml_meaning.specs.Cells.{cells}
use Rattle.spelled_numbers.specs.declared.slot.Slot.{Slot}
use Rattle.spelled_numbers.specs.Spelling.{total, weights_of}
use Rattle.spelled_numbers.proofs.WeightLemmas.{all_weights, all_cover}
use Rattle.spelled_numbers.proofs.CoverLemmas.{covers, total_sum}
use Rattle.world_levels.specs.Spelling.{IsLayout, cell_part}
use Rattle.world_levels.specs.Growing.{Growing}
use Rattle.world_levels.specs.Spans.{AreSpans, IsSpan, IsComponentSpan, IsCellSpan}

-- what stands at a place
stands : {A : Type 0} (xs : List A) (k : ℕ) (x : A) → slice_get xs k ≡ Some x → k < length xs
stands [] k x e = cc
stands (y ∷ ys) zero x e = omega arith
stands (y ∷ ys) (suc k) x e = omega (arith, stands ys k x e)

-- Spans of parts.

pub component_is : (s : Spec) (part span : ℕ) → part < length (components s) → IsComponentSpan s part span → IsSpan s part span
component_is s part span below is = record {
  last = is.last;
  leads = λ cell c e at. absurd (omega (arith, below, e));
  low = λ cell c e at. absurd (omega (arith, below, e));
  small = is.small;
}

pub cell_is : (s : Spec) (part span : ℕ) → length (components s) ≤ part → IsCellSpan s (part - length (components s)) span → IsSpan s part span
cell_is s part span past is = record {
  last = λ c at. absurd (omega (arith, past, stands (components s) part c at));
  leads = λ cell c e at. let z : cell ≡ part - length (components s) = omega (arith, e) in is.leads c (ap (slice_get (cells s)) (sym z) ∙ at);
  low = λ cell c e at. let z : cell ≡ part - length (components s) = omega (arith, e) in is.low c (ap (slice_get (cells s)) (sym z) ∙ at);
  small = is.small;
}

pub no_spans : (s : Spec) (spans : List ℕ) → spans ≡ [] → AreSpans s 0 spans
no_spans s spans e = record {
  many = ap length e;
  each = λ p below. absurd (omega (arith, below));
}

pub one_span : (s : Spec) (parts span : ℕ) (spans more : List ℕ) → more ≡ spans ++ span ∷ [] → IsSpan s parts span → AreSpans s parts spans → AreSpans s (parts + 1) more
one_span s parts span spans more e is are = record {
  many = omega (arith, ap length e, length-append spans (span ∷ []), are.many);
  each = λ p below. subst (λ ns. IsSpan s p (slice_index_or ns p 0)) (sym e) (elim (cases_lt p parts) [
    | inl h ↦ subst (IsSpan s p) (sym (get_or_append_left spans (span ∷ []) 0 p (omega (arith, h, are.many)))) (are.each p h)
    | inr h ↦ let z : parts ≡ p = omega (arith, h, below) in subst (IsSpan s p) (sym (get_or_push spans span 0 p (omega (arith, are.many, z)))) (subst (λ q. IsSpan s q span) z is)
  ]);
}

-- Levels.

pub none_grown : (spans : List ℕ) (slots : List Slot) → slots ≡ [] → Growing (λ p. slice_index_or spans p 0) slots spans
none_grown spans slots e = subst (λ ss. Growing (λ p. slice_index_or spans p 0) ss spans) (sym e) (record {
  each = λ p. record { whole = omega arith; covers = tt };
  few = omega arith;
})

small_span : (s : Spec) (parts : ℕ) (spans : List ℕ) → AreSpans s parts spans → (p : ℕ) → slice_index_or spans p 0 ≤ 2000000000
small_span s parts spans are p = elim (cases_lt p parts) [
  | inl h ↦ (are.each p h).small
  | inr h ↦ omega (arith, get_or_past spans p 0 (omega (arith, are.many, h)))
]

pub laid : (s : Spec) (parts : ℕ) (spans left : List ℕ) (slots : List Slot) → parts ≡ length (components s) + length (cells s) → parts < 2 ^ 32 → AreSpans s parts spans
    → Growing (λ p. slice_index_or spans p 0) slots left → ((p : ℕ) → slice_index_or left p 0 ≡ 0) → IsLayout s slots
laid s parts spans left slots all fit are grown none =
    let totals : (p : ℕ) → total p slots ≡ slice_index_or spans p 0 = λ p. total_sum p slots
    ∙ all_weights (slice_index_or spans p 0) (slice_index_or left p 0) (weights_of p slots) (grown.each p) (omega (arith, none p)) in
    record {
      covers = covers slots (λ p. all_cover (slice_index_or spans p 0) (slice_index_or left p 0) (weights_of p slots) (grown.each p) (none p));
      components_fit = λ k c at. ap suc (totals k) ∙ (are.each k (omega (arith, all, stands (components s) k c at))).last c at;
      cells_fit = λ k c at. ap (λ n. c.numbers.low +ℤ pos n) (totals (cell_part s k))
          ∙ (are.each (cell_part s k) (omega (arith, all, stands (cells s) k c at))).leads k c refl at;
      small = λ p. omega (arith, totals p, small_span s parts spans are p);
      few = grown.few;
      lows = λ k c at. (are.each (cell_part s k) (omega (arith, all, stands (cells s) k c at))).low k c refl at;
      parts = omega (arith, all, fit);
    }
