use Rattle.std.proofs.Common.{refl, sym, ◌∙◌}
use Rattle.rsml_ground.proofs.Equal.{phrase_same}
use Rattle.keyed_levels.specs.Keyed.{key_at}
use Rattle.keyed_levels.proofs.Bounds.{key_stands}
use Rattle.keyed_levels.proofs.levels.KeyedLevels.level_for.Goals as goal

pub returns-then-eq : goal.returns-then-eq
returns-then-eq c =
    let keys = c.keys-key-items.result.now in
    key_stands c.args.self.now keys c.loop-key.key-index (key_at keys c.loop-key.key-index) c.phrase.result.now c.args.bound.now c.keys-key-items.ensures.keyed c.loop-key-test.true refl c.phrase.ensures.is
    (phrase_same c.phrase.result.now c.args.bound.now (sym c.eq.ensures ∙ c.if-eq.true))
