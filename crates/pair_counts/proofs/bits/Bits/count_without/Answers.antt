use Rattle.std.proofs.Common.{◌≡◌, ◌+◌, ◌<◌, ◌^◌, ℕ, List, get_or, ap, subst, ◌∙◌, arith}
use Rattle.std.proofs.lemmas.Grind.{common_steps}
use Rattle.std.specs.Int.{bit_not}
use Rattle.std.specs.Int.RustNames.{bit_and, count_ones}
use mir.Syntax.{w64}
use Rattle.rsml_base.specs.Counting.{shown}
use Rattle.pair_counts.proofs.BitLemmas.{count_turn}
use Rattle.pair_counts.proofs.bits.Bits.count_without.Goals as goal

pub loop-place-preserved : goal.loop-place-preserved
loop-place-preserved c =
    let place = c.loop-place.place in
    let words : c.deref-word-items.result.now ≡ c.args.self.now = c.deref-word-items.ensures.value ∙ c.self.view_is in
    let word : get_or c.deref-word-items.result.now place 0 ≡ get_or c.args.self.now place 0 = ap (λ (ws : List ℕ). get_or ws place 0) words in
    let fits : get_or c.deref-word-items.result.now place 0 < 2 ^ 64 = omega (arith, c.type_inv.word-items place) in
    let read : c.unwrap_or-others.result ≡ get_or c.other.inside.words.items place 0 = grind (arith, common_steps) in
    let others : c.unwrap_or-others.result ≡ get_or c.args.other.now place 0 = read ∙ ap (λ (ws : List ℕ). get_or ws place 0) c.other.view_is in
    count_turn c.args.self.now c.args.other.now place c.loop-place.sum c.saturating_add-sum.result
    (subst (λ n. n < 2 ^ 64) word fits)
    (subst (λ n. n < 2 ^ 64) others c.unwrap_or-others.type_inv)
    c.loop-place.invariant
    (c.saturating_add-sum.ensures ∙ ap (λ n. shown (c.loop-place.sum + n)) (c.from.ensures ∙ (λ i. count_ones (bit_and (word i) (bit_not w64 (others i))))))
