-- All limits: L1 to L6, and then L7.
use Rattle.std.proofs.Common.{◌≡◌, ℕ, ◌+◌, ◌<◌, ◌≤◌, Bool, true, false, List, [], ◌∷◌, ◌++◌, Option, Some, None, nat_lt, refl, sym, ap, ◌∙◌, arith}
use Rattle.std.specs.Option.{option_or}
use Rattle.std.specs.Prelude.{flat_map, length}
use Rattle.std.proofs.lemmas.Bool.{lt-ltb, le-ltb}
use Rattle.rsml_syntax.specs.declared.syntax.Spec.{Spec}
use Rattle.rsml_syntax.specs.grammar.Parts.{parts}
use Rattle.rsml_syntax.specs.rules.Globals.{Globals, globals}
use Rattle.rsml_syntax.specs.limits.Comparisons.{Comparison, comparisons}
use Rattle.rsml_syntax.specs.limits.Limits.{Limit, distinct, thresholds_and_keys, first_over, over, shown}
use Rattle.rsml_syntax.specs.limits.Thresholds.{thresholds, same_threshold, keys, same_key}
use Rattle.rsml_limits.specs.counts.CountLimits.{count_limits, threshold_limit}
use Rattle.rsml_limits.proofs.Adding.{shown_plus}

chosen : (b : Bool) (found : ℕ × ℕ) (o p : Option (ℕ × ℕ)) →
    elim b [ true ↦ Some found | false ↦ option_or o p ] ≡ option_or (elim b [ true ↦ Some found | false ↦ o ]) p
chosen true found o p = refl
chosen false found o p = refl

-- of two lists of limits the second counts where none of the first is broken
first_over_append : (s : Spec) (ls ms : List Limit) → first_over s (ls ++ ms) ≡ option_or (first_over s ls) (first_over s ms)
first_over_append s [] ms = refl
first_over_append s (l ∷ ls) ms =
    ap (λ (o : Option (ℕ × ℕ)). elim (nat_lt l.greatest (l.count s)) [ true ↦ Some (l.number, shown (l.count s)) | false ↦ o ]) (first_over_append s ls ms)
    ∙ chosen (nat_lt l.greatest (l.count s)) (l.number, shown (l.count s)) (first_over s ls) (first_over s ms)

-- the lowest limit that is broken is one of L1 to L6, or else L7
over_is : (s : Spec) → over s ≡ option_or (first_over s count_limits) (first_over s (threshold_limit ∷ []))
over_is s = first_over_append s count_limits (threshold_limit ∷ [])

pub over_counts : (s : Spec) (found : ℕ × ℕ) → Some found ≡ first_over s count_limits → Some found ≡ over s
over_counts s found h = sym (over_is s ∙ ap (λ o. option_or o (first_over s (threshold_limit ∷ []))) (sym h))

pub over_thresholds : (s : Spec) (found : Option (ℕ × ℕ)) → None ≡ first_over s count_limits → found ≡ first_over s (threshold_limit ∷ []) → found ≡ over s
over_thresholds s found h k = k ∙ sym (over_is s ∙ ap (λ o. option_or o (first_over s (threshold_limit ∷ []))) (sym h))

-- L7 by its count
abbrev if_broken : Spec → Bool → Option (ℕ × ℕ)
if_broken s b = elim b [ true ↦ Some (7, shown (thresholds_and_keys s)) | false ↦ None ]

pub thresholds_kept : (s : Spec) (n : ℕ) → n ≡ shown (thresholds_and_keys s) → n ≤ 2048 → None ≡ first_over s (threshold_limit ∷ [])
thresholds_kept s n e h =
    let less : thresholds_and_keys s ≤ 2048 = omega arith in
    sym (ap (if_broken s) (le-ltb _ _ less))

pub thresholds_broken : (s : Spec) (n : ℕ) → n ≡ shown (thresholds_and_keys s) → 2048 < n → Some (7, n) ≡ first_over s (threshold_limit ∷ [])
thresholds_broken s n e h =
    let more : 2048 < thresholds_and_keys s = omega arith in
    ap (λ (c : ℕ). Some (7, c)) e ∙ sym (ap (if_broken s) (lt-ltb _ _ more))

-- L7's count, by the thresholds and the keys of what was found
pub both_counted : (s : Spec) (g : Globals) (found : List Comparison) (t k n : ℕ) → g ≡ globals s.decls → found ≡ flat_map (comparisons g) (parts s) →
    t ≡ shown (length (distinct same_threshold (flat_map (thresholds g) found))) → k ≡ shown (length (distinct same_key (flat_map keys found))) → n ≡ shown (t + k) →
    n ≡ shown (thresholds_and_keys s)
both_counted s g found t k n of_globals of_found of_t of_k is =
    is
    ∙ (λ i. shown (of_t i + of_k i))
    ∙ shown_plus (length (distinct same_threshold (flat_map (thresholds g) found))) (length (distinct same_key (flat_map keys found)))
    ∙ ap (λ (xs : List Comparison). shown (length (distinct same_threshold (flat_map (thresholds g) xs)) + length (distinct same_key (flat_map keys xs)))) of_found
    ∙ ap (λ (h : Globals). shown (length (distinct same_threshold (flat_map (thresholds h) (flat_map (comparisons h) (parts s)))) + length (distinct same_key (flat_map keys (flat_map (comparisons h) (parts s)))))) of_globals
