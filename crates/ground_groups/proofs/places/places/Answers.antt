use Rattle.std.proofs.Common.{sym, ap, ◌∙◌, replicate, map, [], length, arith, refl}
use Rattle.std.proofs.lemmas.List.{length-map}
use Rattle.ground_groups.specs.Heads.{with_item}
use Rattle.ground_groups.proofs.Rising.{empties, item_one, one_more}
use Rattle.ground_groups.proofs.places.places.Goals as goal

pub loop-place-init : goal.loop-place-init
loop-place-init c =
    let heads = c.args.heads.now.keys in
    let all = c.in_ok-lists.ensures ∙ ap (λ n. replicate n []) c.len.ensures.len ∙ empties heads in
    record {
      long = sym (length-map c.in_ok-lists.lists.items (λ x. x.items)) ∙ ap length all ∙ length-map heads (λ k. []);
      lists_are = all;
    }

pub put-requires-clause-there : goal.put-requires-clause-there
put-requires-clause-there c =
    let t = c.loop-place-test.true in
    let a = c.loop-place.auto.place-end in
    c.requires.all _ (item_one c.args.keys.now c.loop-place.place _ (omega (arith, t, a)))

pub loop-place-preserved : goal.loop-place-preserved
loop-place-preserved c =
    let t = c.loop-place-test.true in
    let a = c.loop-place.auto.place-end in
    let keys = c.args.keys.now in
    let heads = c.args.heads.now.keys in
    let place = c.loop-place.place in
    let p = c.in_ok-head.ensures in
    let all = p.2 ∙ ap (λ n. with_item p.0 n (map (λ x. x.items) c.loop-place.lists.items)) c.in_ok-number_of.ensures ∙ ap (with_item p.0 place) c.loop-place.invariant.lists_are
    ∙ sym (one_more keys heads place p.0 _ _ c.requires.rising (omega (arith, t, a)) refl p.1) in
    record {
      long = sym (length-map c.put.new.lists.items (λ x. x.items)) ∙ ap length all ∙ length-map heads _;
      lists_are = all;
    }
