use Rattle.std.proofs.Common.{ℤ, List, ◌*◌, ◌&&◌, not, length, ap, sym, subst, ◌∙◌}
use Rattle.std.specs.List.{All}
use Rattle.std.proofs.lemmas.List.Elements.{All-push}
use Rattle.rsml_base.specs.Counting.{shown}
use Rattle.pair_counts.specs.Bits.{bit, one}
use Rattle.pair_counts.specs.Outside.{is_outside, HasOutside}
use Rattle.pair_counts.specs.Sets.{passes_at}
use Rattle.pair_counts.proofs.BitLemmas.{below_same}
use Rattle.pair_counts.proofs.OutsideLemmas.{found_with}
use Rattle.pair_counts.proofs.outside.Outside.count_within.Goals as goal

pub returns-in-Some-clause-count : goal.returns-in-Some-clause-count
returns-in-Some-clause-count c =
    let own = c.args.own.now in
    let others = c.in-Some.others.now in
    let numbers = c.self.inside.numbers.now.keys in
    let found = found_with (HasOutside numbers) c.args.range c.self.inside.known.entries others c.self.invariant (sym c.in-Some.ensures.value) in
    c.count_without.ensures
    ∙ ap shown
    (below_same (λ q. one (bit own q && not (bit others q))) (λ q. one (bit own q && not (passes_at (is_outside c.args.range) c.args.self.now q))) (64 * length own)
    (λ q l. ap (λ b. one (bit own q && not b)) (found q ∙ ap (λ (ns : List ℤ). passes_at (is_outside c.args.range) ns q) c.self.view_is)))

pub invariant_of-self-2 : goal.invariant_of-self-2
invariant_of-self-2 c =
    let numbers = c.self.inside.numbers.now.keys in
    let others = c.in_ok-others.others in
    let known = c.self.inside.known.entries in
    subst (All (λ e. HasOutside numbers e.0 e.1)) (sym c.in_ok-keep.ensures.ok)
    (All-push (λ e. HasOutside numbers e.0 e.1) known (c.args.range, others) c.self.invariant
    (λ q. c.in_ok-others.ensures q ∙ ap (λ (ns : List ℤ). passes_at (is_outside c.args.range) ns q) c.as_slice.ensures.keys))
