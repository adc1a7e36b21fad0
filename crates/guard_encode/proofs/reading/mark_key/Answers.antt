use Rattle.std.proofs.Common.{◌≡◌, Some, true, false, sym, ◌∙◌, subst, slice_get, slice_index_or}
use Rattle.keyed_levels.specs.declared.keyed.Keyed.{Keyed}
use Rattle.keyed_levels.specs.Keyed.{key_at, phrases_of}
use Rattle.guard_encode.proofs.MarkLemmas.{used_marked}
use Rattle.guard_encode.proofs.reading.mark_key.Goals as goal

pub returns : goal.returns
returns c =
    let k = c.args.levels.now in
    let used = c.args.used.now in
    let p = c.phrase.result.now in
    used_marked k used (key_at k.keyed c.args.place) p c.args.cells.now c.mark_phrase.new.cells
    (subst (λ (x : Keyed). slice_index_or used x.level false ≡ true) c.key-key.ensures.is (sym c.is_used.ensures ∙ c.if-not-is_used.false))
    (subst (λ (x : Keyed). slice_get (phrases_of k) x.phrase ≡ Some p) c.key-key.ensures.is c.phrase.ensures.is)
    c.mark_phrase.ensures
