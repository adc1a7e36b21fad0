use Rattle.std.proofs.Common.{◌||◌, ◌&&◌, ◌==◌, pos, get_or, ap, sym, ◌∙◌}
use Rattle.pair_counts.specs.Outside.{is_outside}
use Rattle.pair_counts.proofs.OutsideLemmas.{passes_turn}
use Rattle.pair_counts.proofs.outside.places_outside.Goals as goal

pub loop-place-preserved : goal.loop-place-preserved
loop-place-preserved c = λ q.
    let i = c.loop-place.place in
    let numbers = c.args.numbers.now in
    let test = is_outside c.args.range in
    c.in_ok-put.ensures q
    ∙ ap (λ b. b || (test (get_or numbers i (pos 0)) && i == q)) (c.loop-place.invariant q)
    ∙ sym (passes_turn test numbers i (pos 0) c.loop-place-test.true q)
