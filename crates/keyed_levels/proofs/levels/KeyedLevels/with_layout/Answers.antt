use Rattle.std.proofs.Common.{◌≡◌, ◌<◌, length, List, ℕ, ap, subst, sym, slice_get, Some, All, arith}
use Rattle.rsml_syntax.specs.declared.syntax.Spec.{Spec}
use Rattle.world_levels.specs.Spelling.{IsLayout, free_from}
use Rattle.keyed_levels.specs.declared.keyed.Keyed.{Keyed}
use Rattle.keyed_levels.specs.Keyed.{IsKeyOf}
use Rattle.keyed_levels.specs.Stored.{IsPaired}
use Rattle.keyed_levels.proofs.Bounds.{keys_below, new_stored, no_bounds}
use Rattle.keyed_levels.proofs.Pairs.{few_free}
use Rattle.keyed_levels.proofs.levels.KeyedLevels.with_layout.Goals as goal

pub places_of-requires-clause-phrases : goal.places_of-requires-clause-phrases
places_of-requires-clause-phrases c =
    subst (λ (ks : List Keyed). All (λ (k : Keyed). k.phrase < c.args.count) ks) (sym c.as_slice.ensures.value)
    (keys_below c.args.count c.free_levels.result.now c.args.phrases.now c.in_ok-keyed.keyed.items c.requires.phrases c.in_ok-keyed.ensures)

pub places_of-requires-clause-few : goal.places_of-requires-clause-few
places_of-requires-clause-few c =
    let pairs : IsPaired (free_from c.args.layout.slots 0) c.args.phrases.now c.in_ok-keyed.keyed.items =
    subst (λ (ls : List ℕ). IsPaired ls c.args.phrases.now c.in_ok-keyed.keyed.items) c.free_levels.ensures c.in_ok-keyed.ensures in
    let long : length c.as_slice.result.now ≡ length c.in_ok-keyed.keyed.items = ap length c.as_slice.ensures.value in
    omega (arith, long, pairs.few, few_free c.args.layout.slots 0, c.law.ensures.few)

pub invariant_of-result : goal.invariant_of-result
invariant_of-result c =
    let pairs : IsPaired (free_from c.args.layout.slots 0) c.args.phrases.now c.in_ok-keyed.keyed.items =
    subst (λ (ls : List ℕ). IsPaired ls c.args.phrases.now c.in_ok-keyed.keyed.items) c.free_levels.ensures c.in_ok-keyed.ensures in
    let layout : IsLayout c.args.macros.now.spec c.args.layout.slots = subst (λ (s : Spec). IsLayout s c.args.layout.slots) c.requires.same c.law.ensures in
    let many_phrases : c.len-first_phrases.result ≡ length c.args.beside.items = omega (arith, c.len-first_phrases.ensures) in
    let many_keys : c.len-first_keys.result ≡ length c.in_ok-keyed.keyed.items = omega (arith, c.len-first_keys.ensures) in
    new_stored c.args.macros.now c.args.beside.items c.args.layout c.args.count c.args.phrases.now c.in_ok-keyed.keyed.items c.in_ok-places.places.items c.len-first_phrases.result c.len-first_keys.result
    c.requires.same layout c.requires.beside c.requires.count c.requires.phrases pairs many_phrases many_keys
    (subst (λ (ks : List Keyed). (phrase place : ℕ) → slice_get c.in_ok-places.places.items phrase ≡ Some (Some place) → IsKeyOf ks phrase place) c.as_slice.ensures.value c.in_ok-places.ensures)

pub returns-clause-bounds : goal.returns-clause-bounds
returns-clause-bounds c =
    let many_phrases : c.len-first_phrases.result ≡ length c.args.beside.items = omega (arith, c.len-first_phrases.ensures) in
    let many_keys : c.len-first_keys.result ≡ length c.in_ok-keyed.keyed.items = omega (arith, c.len-first_keys.ensures) in
    no_bounds c.args.macros.now c.args.beside.items c.args.layout c.in_ok-keyed.keyed.items c.len-first_phrases.result c.len-first_keys.result many_phrases many_keys
