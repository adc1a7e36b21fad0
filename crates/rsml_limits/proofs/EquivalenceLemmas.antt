-- To be one threshold, and to be one key, are equivalences.
use Rattle.std.proofs.Common.{◌≡◌, Bool, true, false, refl, sym, subst, true≢false}
use Rattle.std.specs.Cmp.{IsEquivalence, and_equiv, on_equiv, nat_eq_equiv, int_eq_equiv, bool_eq_equiv}
use Rattle.std.specs.Cmp.Lexicographic.{lists_equiv, nat_list_eq_equiv}
use mathlib.Core.Bool.{beq}
use denote.Enum.Declared.{tag_of}
use Rattle.rsml_syntax.specs.contracts.syntax.Relation as relation_type
use Rattle.rsml_syntax.specs.limits.Comparisons.{same_truth, InputCell, same_cell, Ground, OfNumber, OfCell, same_ground, same_term, Comparison}
use Rattle.rsml_syntax.specs.limits.Thresholds.{Threshold, same_threshold, same_key}

pub truth_alike : (a b : Bool) → beq a b ≡ same_truth a b
truth_alike true true = refl
truth_alike true false = refl
truth_alike false true = refl
truth_alike false false = refl

truth_equiv : IsEquivalence same_truth
truth_equiv = subst IsEquivalence (λ i a b. truth_alike a b i) bool_eq_equiv

cell_equiv : IsEquivalence same_cell
cell_equiv = and_equiv (on_equiv (λ (c : InputCell). c.previous) truth_equiv) (and_equiv (on_equiv (λ (c : InputCell). c.at) nat_eq_equiv) (on_equiv (λ (c : InputCell). c.input) nat_list_eq_equiv))

ground_equiv : IsEquivalence same_ground
ground_equiv = record { refl = itself; symm = either; congr = alike }
  where
    itself : (a : Ground) → same_ground a a ≡ true
    itself (OfNumber n) = int_eq_equiv.refl n
    itself (OfCell c) = cell_equiv.refl c

    either : (a b : Ground) → same_ground a b ≡ same_ground b a
    either (OfNumber m) (OfNumber n) = int_eq_equiv.symm m n
    either (OfNumber m) (OfCell d) = refl
    either (OfCell c) (OfNumber n) = refl
    either (OfCell c) (OfCell d) = cell_equiv.symm c d

    alike : (a b x : Ground) → same_ground a b ≡ true → same_ground a x ≡ same_ground b x
    alike (OfNumber m) (OfNumber n) (OfNumber o) e = int_eq_equiv.congr m n o e
    alike (OfNumber m) (OfNumber n) (OfCell d) e = refl
    alike (OfNumber m) (OfCell d) x e = absurd (true≢false (sym e))
    alike (OfCell c) (OfNumber n) x e = absurd (true≢false (sym e))
    alike (OfCell c) (OfCell d) (OfNumber o) e = refl
    alike (OfCell c) (OfCell d) (OfCell b) e = cell_equiv.congr c d b e

term_equiv : IsEquivalence same_term
term_equiv = and_equiv (on_equiv (λ (t : Bool × Ground). t.0) truth_equiv) (on_equiv (λ (t : Bool × Ground). t.1) ground_equiv)

pub threshold_equiv : IsEquivalence same_threshold
threshold_equiv = and_equiv (on_equiv (λ (t : Threshold). t.1) int_eq_equiv) (on_equiv (λ (t : Threshold). t.0) cell_equiv)

pub key_equiv : IsEquivalence same_key
key_equiv =
    and_equiv (on_equiv (λ (k : Comparison). tag_of relation_type.the_type k.relation) nat_eq_equiv)
    (and_equiv (on_equiv (λ (k : Comparison). k.left) (lists_equiv term_equiv)) (on_equiv (λ (k : Comparison). k.right) (lists_equiv term_equiv)))
