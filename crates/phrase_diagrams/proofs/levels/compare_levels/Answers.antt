use Rattle.std.proofs.Common.{◌≡◌, sym, ap, ◌∙◌, subst, arith, ℕ, ◌<◌, Bool, w64, to_z, of_z, rules, FitsSigned}
use Rattle.std.proofs.lemmas.Int.{to_z-of_z}
use Rattle.std.proofs.lemmas.List.Sorted.{All-permutation}
use Rattle.std.proofs.lemmas.Result.{IfOk-weaker}
use Rattle.bdd_core.specs.Calls.{Represents}
use Rattle.spelled_numbers.specs.declared.weighted.Weighted.{Weighted}
use Rattle.spelled_numbers.specs.Sums.{signed_sum, total_weight, AreLevels, holds}
use Rattle.phrase_diagrams.proofs.OrderLemmas.{signed_permuted, total_permuted}
use Rattle.phrase_diagrams.proofs.levels.compare_levels.Goals as goal

pub compare-requires-clause-levels : goal.compare-requires-clause-levels
compare-requires-clause-levels c =
    let d = c.args.arena.now in
    subst (AreLevels d) (sym c.as_slice.ensures.value)
    (All-permutation (λ (t : Weighted). t.level < d.levels) c.args.levels.items c.sort_unstable_by_key.new.self.items c.sort_unstable_by_key.ensures.permutation c.requires.levels)

pub compare-requires-clause-small : goal.compare-requires-clause-small
compare-requires-clause-small c =
    let same : total_weight c.as_slice.result.now ≡ total_weight c.args.levels.items =
    ap total_weight c.as_slice.ensures.value ∙ total_permuted c.args.levels.items c.sort_unstable_by_key.new.self.items c.sort_unstable_by_key.ensures.permutation in
    omega (arith, same, c.requires.small)

pub returns-clause-answer : goal.returns-clause-answer
returns-clause-answer c =
    let same : (v : ℕ → Bool) → signed_sum v c.as_slice.result.now ≡ signed_sum v c.args.levels.items =
    λ v. ap (signed_sum v) c.as_slice.ensures.value ∙ signed_permuted v c.args.levels.items c.sort_unstable_by_key.new.self.items c.sort_unstable_by_key.ensures.permutation in
    let fits : FitsSigned w64 c.args.constant = search rules in
    let number : to_z w64 (of_z w64 c.args.constant) ≡ c.args.constant = to_z-of_z w64 c.args.constant fits in
    IfOk-weaker c.compare.result (Represents c.compare.new.arena (λ v. holds c.args.comparison (signed_sum v c.as_slice.result.now) (to_z w64 (of_z w64 c.args.constant)))) _
    (λ r h. record { is_ref = h.is_ref; means = λ v. h.means v ∙ (λ i. holds c.args.comparison (same v i) (number i)) })
    c.compare.ensures.answer
