use Rattle.std.proofs.Common.{◌≡◌, ap, ◌∙◌, arith, ◌+◌, get_or, slice_index_or, length}
use Rattle.ground_groups.specs.Stored.{members_before}
use Rattle.ground_groups.proofs.LineLemmas.{item_there, key_there, places_long, lines_long, own_long, outer_before, line_made, lines_turn}
use Rattle.ground_groups.proofs.Rising.{blank}
use Rattle.ground_groups.proofs.lines.lines.Goals as goal

pub around-outer-requires-clause-state : goal.around-outer-requires-clause-state
around-outer-requires-clause-state c =
    let t = c.loop-place-test.true in
    let a = c.loop-place.auto.place-end in
    (key_there c.args.tree.now c.args.lots.now.heads.keys _ c.loop-place.place _ c.requires.lots (item_there c.as_slice-key-items.result.now c.args.lots.now.heads.keys c.loop-place.place _ c.as_slice-key-items.ensures.keys (omega (arith, t, a)))).0

pub around-outer-requires-clause-event : goal.around-outer-requires-clause-event
around-outer-requires-clause-event c =
    let t = c.loop-place-test.true in
    let a = c.loop-place.auto.place-end in
    (key_there c.args.tree.now c.args.lots.now.heads.keys _ c.loop-place.place _ c.requires.lots (item_there c.as_slice-key-items.result.now c.args.lots.now.heads.keys c.loop-place.place _ c.as_slice-key-items.ensures.keys (omega (arith, t, a)))).1

pub index-requires : goal.index-requires
index-requires c =
    let t = c.loop-place-test.true in
    let a = c.loop-place.auto.place-end in
    let k = ap length c.as_slice-key-items.ensures.keys in
    let l = places_long c.args.tree.now c.args.lots.now.heads.keys (λ l. l.items) c.args.lots.now.places.items c.requires.lots in
    omega (arith, t, a, k, l)

pub members-requires : goal.members-requires
members-requires c =
    let s = c.args.tree.now in
    let heads = c.args.lots.now.heads.keys in
    let t = c.loop-place-test.true in
    let a = c.loop-place.auto.place-end in
    let k = ap length c.as_slice-key-items.ensures.keys in
    outer_before s heads c.loop-place.place (length c.as_slice.result.now) _ c.around-outer.result c.requires.lots.rising
    (item_there c.as_slice-key-items.result.now heads c.loop-place.place _ c.as_slice-key-items.ensures.keys (omega (arith, t, a)))
    c.around-outer.ensures
    (ap length c.as_slice.ensures.value ∙ lines_long s heads c.loop-place.lines.items c.loop-place.place c.loop-place.invariant (omega (arith, t, a, k)))

pub loop-place-preserved : goal.loop-place-preserved
loop-place-preserved c =
    let s = c.args.tree.now in
    let heads = c.args.lots.now.heads.keys in
    let place = c.loop-place.place in
    let t = c.loop-place-test.true in
    let a = c.loop-place.auto.place-end in
    let k = ap length c.as_slice-key-items.ensures.keys in
    let l = places_long s heads (λ l. l.items) c.args.lots.now.places.items c.requires.lots in
    let xs = c.as_slice-key-items.result.now in
    let q = slice_index_or xs place blank in
    let there = item_there xs heads place blank c.as_slice-key-items.ensures.keys (omega (arith, t, a)) in
    let e = c.len.ensures in
    let o = c.index.result.now.ok.0 in
    let n : c.len.result ≡ length c.index.result.now.items = omega (arith, e, o) in
    let own = n ∙ own_long s heads (λ l. l.items) c.args.lots.now.places.items place q c.index.result.now c.requires.lots.own there (omega (arith, t, a, k, l)) c.index.ensures in
    lines_turn s heads c.loop-place.lines.items c.push.new.self.items place q blank (record { outer = c.around-outer.result; members = c.in_ok-members.members }) (omega (arith, t, a, k)) (ap (λ z. get_or z place blank) c.as_slice-key-items.ensures.keys) c.loop-place.invariant
    (line_made s heads c.loop-place.lines.items place c.in_ok-members.members c.len.result q c.around-outer.result c.requires.lots.rising there c.loop-place.invariant c.around-outer.ensures own
    (c.in_ok-members.ensures ∙ ap (λ z. members_before z c.around-outer.result + c.len.result) c.as_slice.ensures.value))
    c.in_ok-push.ensures.items
