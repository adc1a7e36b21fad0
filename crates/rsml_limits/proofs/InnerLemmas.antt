-- Thresholds are the pairs that are inner.
use Rattle.std.proofs.Common.{◌≡◌, true, ◌&&◌, List, ◌++◌, filter, length, Option, None, Some, refl, sym, ap, ◌∙◌, ℤ}
use Rattle.std.specs.Prelude.{flat_map}
use Rattle.std.specs.List.{list_any}
use Rattle.std.specs.Cmp.{first_so, second_so, signed_Decides}
use Rattle.std.specs.Ordering.{int_eq}
use Rattle.std.proofs.lemmas.List.Elements.{filter-append}
use Rattle.std.proofs.lemmas.Map.Made.{is_member-filter}
use Rattle.pair_counts.proofs.Grouping.{filter_flat_map, many_alike}
use Rattle.rsml_syntax.specs.declared.syntax.Relation.{Relation}
use Rattle.rsml_syntax.specs.rules.Globals.{Globals}
use Rattle.rsml_syntax.specs.limits.Limits.{distinct}
use Rattle.rsml_syntax.specs.limits.Comparisons.{InputCell, same_cell, Comparison}
use Rattle.rsml_syntax.specs.limits.Thresholds.{single_cell, constant_number, mirrored, asked, Threshold, same_threshold, cell_thresholds, thresholds}
use Rattle.rsml_limits.proofs.EquivalenceLemmas.{threshold_equiv}
use Rattle.rsml_limits.proofs.SameLemmas.{cell_same}
use Rattle.rsml_limits.specs.thresholds.Pairs.{SamePairs, cell_pairs, pairs, has_inner}
use Rattle.rsml_limits.proofs.ThresholdCountLemmas.{filter_pairs}

cell_inner : (g : Globals) (cell : Option InputCell) (relation : Relation) (c : Option ℤ) → filter (has_inner g) (cell_pairs cell relation c) ≡ cell_thresholds g cell relation c
cell_inner g None relation None = refl
cell_inner g None relation (Some c) = refl
cell_inner g (Some cell) relation None = refl
cell_inner g (Some cell) relation (Some c) = filter_pairs g cell (asked relation c)

comparison_inner : (g : Globals) (x : Comparison) → filter (has_inner g) (pairs x) ≡ thresholds g x
comparison_inner g x =
    filter-append (has_inner g) (cell_pairs (single_cell x.left) x.relation (constant_number x.right)) (cell_pairs (single_cell x.right) (mirrored x.relation) (constant_number x.left))
    ∙ (λ i. cell_inner g (single_cell x.left) x.relation (constant_number x.right) i ++ cell_inner g (single_cell x.right) (mirrored x.relation) (constant_number x.left) i)

all_inner : (g : Globals) (xs : List Comparison) → filter (has_inner g) (flat_map pairs xs) ≡ flat_map (thresholds g) xs
all_inner g xs = filter_flat_map (has_inner g) pairs xs ∙ (λ i. flat_map (λ x. comparison_inner g x i) xs)

threshold_same : (a b : Threshold) → same_threshold a b ≡ true → a ≡ b
threshold_same a b h =
    let number = (signed_Decides a.1 b.1).0 (first_so (int_eq a.1 b.1) (same_cell a.0 b.0) h) in
    let cell = cell_same a.0 b.0 (second_so (int_eq a.1 b.1) (same_cell a.0 b.0) h) in
    λ i. (cell i, number i)

any_inner : (g : Globals) (q : Threshold) (ts : List Threshold) → list_any (same_threshold q) (filter (has_inner g) ts) ≡ (list_any (same_threshold q) ts && has_inner g q)
any_inner g q ts = is_member-filter threshold_equiv (has_inner g) q (λ x e. ap (has_inner g) (threshold_same q x e)) ts

-- the same pairs count as the thresholds of comparisons
pub many_thresholds : (g : Globals) (xs : List Comparison) (ts : List Threshold) → SamePairs ts (flat_map pairs xs) →
    length (distinct same_threshold (filter (has_inner g) ts)) ≡ length (distinct same_threshold (flat_map (thresholds g) xs))
many_thresholds g xs ts h =
    many_alike same_threshold threshold_equiv (filter (has_inner g) ts) (filter (has_inner g) (flat_map pairs xs))
    (λ q. any_inner g q ts ∙ ap (λ t. t && has_inner g q) (h.same q) ∙ sym (any_inner g q (flat_map pairs xs)))
    ∙ ap (λ us. length (distinct same_threshold us)) (all_inner g xs)
