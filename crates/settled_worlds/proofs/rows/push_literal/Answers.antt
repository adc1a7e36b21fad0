use Rattle.std.proofs.Common.{◌≡◌, Some, slice_get, sym, ap, ◌∙◌}
use Rattle.rsml_ground.specs.declared.phrases.GroundPhrase.TheVariants as phrases
use Rattle.keyed_levels.specs.declared.keyed.Keyed.{Keyed}
use Rattle.keyed_levels.specs.Keyed.{key_at, phrases_of}
use Rattle.settled_worlds.proofs.RowLemmas.{has_margin, has_margin_turned}
use Rattle.settled_worlds.proofs.rows.push_literal.Goals as goal

pub returns-in_ok-push_side-2 : goal.returns-in_ok-push_side-2
returns-in_ok-push_side-2 c =
    let p = c.in-Compare in
    let k = c.args.levels.now in
    let at : slice_get (phrases_of k) (key_at k.keyed c.args.literal.place).phrase ≡ Some (phrases.Compare p.left p.relation p.right) =
    ap (λ (t : Keyed). slice_get (phrases_of k) t.phrase) (sym c.key.ensures.is) ∙ c.phrase.ensures.is ∙ ap Some p.is in
    c.in_ok-push_side-2.ensures k
    (c.in_ok-push_side.ensures k c.requires.rows c.requires.there (has_margin k c.args.literal p.left p.right p.relation c.margin-above.result at c.margin-above.ensures.margin))
    c.requires.there
    (has_margin_turned k c.args.literal p.left p.right p.relation c.turned.result c.margin-below.result at c.turned.ensures c.margin-below.ensures.margin)
