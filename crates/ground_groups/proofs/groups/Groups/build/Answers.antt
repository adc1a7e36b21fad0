use Rattle.std.proofs.Common.{◌≡◌, ◌+◌, length, map, arith, sym, ◌∙◌, subst}
use Rattle.ground_groups.specs.Below.{below_of}
use Rattle.ground_groups.specs.Heads.{AreRising}
use Rattle.ground_groups.proofs.GroupLemmas.{all_stored, keys_there}
use Rattle.ground_groups.proofs.groups.Groups.build.Goals as goal

pub invariant_of-result : goal.invariant_of-result
invariant_of-result c =
    let s = c.args.checked.now in
    let states = c.in_ok-states.states in
    let sends = c.in_ok-sends.sends in
    let fs = c.in_ok-functions.functions in
    let e = c.in_ok-count.ensures in
    let l = c.len.ensures.len in
    let m = c.len-2.ensures.len in
    let n = c.len-3.ensures in
    let o = fs.ok.0 in
    let count : c.in_ok-count.count ≡ length states.heads.keys + (length sends.heads.keys + length fs.items) = omega (arith, e, l, m, n, o) in
    all_stored s c.spec-spec.result.now c.args.tree.now states.heads.keys (map (λ l. l.items) states.places.items) c.in_ok-lines.lines.items (map (λ l. l.items) c.in_ok-below.below.items) sends.heads.keys (map (λ l. l.items) sends.places.items) fs.items c.in_ok-count.count
    c.spec-spec.ensures.same c.requires.tree c.spec-spec.ensures.checked
    (c.in_ok-states.ensures c.requires.transitions.0 s c.spec-spec.ensures.checked c.requires.transitions.1)
    c.in_ok-lines.ensures
    (c.in_ok-below.ensures ∙ (λ i. map (below_of c.args.tree.now (c.as_slice.ensures.keys i)) (c.as_slice.ensures.keys i)))
    (c.in_ok-sends.ensures c.requires.send_cases.0 s c.spec-spec.ensures.checked c.requires.send_cases.1)
    (c.in_ok-functions.ensures c.requires.definitions.0 s c.requires.definitions.1)
    count

pub below-requires-clause-there : goal.below-requires-clause-there
below-requires-clause-there c =
    let states = c.in_ok-states.states in
    keys_there c.args.checked.now c.args.tree.now states.heads.keys c.as_slice.result.now (map (λ l. l.items) states.places.items) c.requires.tree c.as_slice.ensures.keys
    (c.in_ok-states.ensures c.requires.transitions.0 c.args.checked.now c.spec-spec.ensures.checked c.requires.transitions.1)

pub below-requires-clause-rising : goal.below-requires-clause-rising
below-requires-clause-rising c =
    subst AreRising (sym c.as_slice.ensures.keys)
    (c.in_ok-states.ensures c.requires.transitions.0 c.args.checked.now c.spec-spec.ensures.checked c.requires.transitions.1).rising
