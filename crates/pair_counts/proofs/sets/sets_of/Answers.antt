use Rattle.std.proofs.Common.{◌≡◌, ◌+◌, ℕ, List, length, ap, ◌∙◌, arith}
use Rattle.pair_counts.specs.Sets.{is_in}
use Rattle.pair_counts.proofs.SetLemmas.{sets_turn}
use Rattle.pair_counts.proofs.sets.sets_of.Goals as goal

pub loop-list-preserved : goal.loop-list-preserved
loop-list-preserved g c =
    let i = c.loop-list.list-index in
    let set = c.in_ok-new.field-0 in
    let same = λ (q : ℕ). c.in_ok-new.ensures q ∙ ap (λ (ns : List g.row.T.Denot). is_in g.T.PartialEq.eq c.args.numbers.now.keys ns q) c.deref.ensures.value in
    let many : length c.push.new.self.items ≡ i + 1 = omega (arith, c.in_ok-push.ensures.len) in (
      many,
      sets_turn g.T.PartialEq.eq g.met.T.Eq.laws c.args.numbers.now.keys c.args.lists.now i c.list-item.result c.loop-list.sets.items set c.loop-list-test.true c.list-item.is
          c.loop-list.invariant.0 c.loop-list.invariant.1 same c.push.new.self.items c.in_ok-push.ensures.items,
    )
