use Rattle.std.proofs.Common.{◌≡◌, ◌+◌, length, ap, ◌∙◌, arith}
use Rattle.pair_counts.specs.Grouped.{places_at}
use Rattle.pair_counts.proofs.InverseLemmas.{lists_turn}
use Rattle.pair_counts.proofs.inverse.lists_of.Goals as goal

pub loop-place-preserved : goal.loop-place-preserved
loop-place-preserved c =
    let many : length c.push.new.self.items ≡ c.loop-place.place + 1 = omega (arith, c.in_ok-push.ensures.len, c.loop-place.invariant.0) in (
      many,
      lists_turn (places_at c.args.groups.now) c.loop-place.lists.items c.push.new.self.items c.in_ok-from_slice.field-0 c.loop-place.place c.loop-place.invariant.0 c.loop-place.invariant.1
          c.in_ok-push.ensures.items (c.in_ok-from_slice.ensures.items ∙ c.places.ensures ∙ ap (places_at c.args.groups.now) c.in_ok-number_of.ensures),
    )
