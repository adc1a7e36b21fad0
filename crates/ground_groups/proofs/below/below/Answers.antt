use Rattle.std.proofs.Common.{◌∷◌, [], ◌++◌, map, take, sym, ap, ◌∙◌, slice_index_or, arith}
use Rattle.std.proofs.lemmas.List.{map_push, take_more}
use Rattle.ground_groups.specs.Below.{below_of}
use Rattle.ground_groups.proofs.Rising.{blank}
use Rattle.ground_groups.proofs.Events.{there_on, rising_on, below_on, has_list, list_on}
use Rattle.ground_groups.proofs.below.below.Goals as goal

pub index-requires : goal.index-requires
index-requires c =
    let events = c.in_ok-events.events in
    let has = has_list (λ l. l.items) c.args.keys.now events.items c.loop-key.key-index blank c.in_ok-events.ensures c.loop-key-test.true in
    let long = events.ok.0 in
    omega (arith, has, long)

pub inside_among-requires-clause-there : goal.inside_among-requires-clause-there
inside_among-requires-clause-there c =
    let keys = c.args.keys.now in
    let i = c.loop-key.key-index in
    let list = c.as_slice-on_event.result.now in
    there_on c.args.tree.now keys (slice_index_or keys i blank).event list
    (list_on (λ l. l.items) keys c.in_ok-events.events.items i blank c.index.result.now list c.in_ok-events.ensures c.loop-key-test.true
    c.index.ensures c.as_slice-on_event.ensures.value)
    c.requires.there

pub inside_among-requires-clause-rising : goal.inside_among-requires-clause-rising
inside_among-requires-clause-rising c =
    let keys = c.args.keys.now in
    let i = c.loop-key.key-index in
    let list = c.as_slice-on_event.result.now in
    rising_on keys (slice_index_or keys i blank).event list
    (list_on (λ l. l.items) keys c.in_ok-events.events.items i blank c.index.result.now list c.in_ok-events.ensures c.loop-key-test.true
    c.index.ensures c.as_slice-on_event.ensures.value)
    c.requires.rising

pub loop-key-preserved : goal.loop-key-preserved
loop-key-preserved c =
    let s = c.args.tree.now in
    let keys = c.args.keys.now in
    let i = c.loop-key.key-index in
    let l = c.loop-key-test.true in
    let key = slice_index_or keys i blank in
    let list = c.as_slice-on_event.result.now in
    let on = list_on (λ l. l.items) keys c.in_ok-events.events.items i blank c.index.result.now list c.in_ok-events.ensures l
    c.index.ensures c.as_slice-on_event.ensures.value in
    let is = c.in_ok-inside_among.ensures ∙ below_on s keys key list on in
    ap (map (λ x. x.items)) c.in_ok-push.ensures.items
    ∙ map_push (λ x. x.items) c.loop-key.lists.items c.in_ok-inside_among.field-0
    ∙ (λ j. c.loop-key.invariant j ++ is j ∷ [])
    ∙ sym (ap (map (below_of s keys)) (take_more keys i blank l) ∙ map_push (below_of s keys) (take i keys) key)
