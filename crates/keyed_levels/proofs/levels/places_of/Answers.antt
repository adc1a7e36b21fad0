use Rattle.std.proofs.Common.{Some, refl}
use Rattle.keyed_levels.specs.Keyed.{key_at}
use Rattle.keyed_levels.proofs.Places.{as_many, placed_more}
use Rattle.keyed_levels.proofs.levels.places_of.Goals as goal

pub loop-place-preserved : goal.loop-place-preserved
loop-place-preserved c = record {
  many = as_many c.loop-place.places.items (key_at c.args.keyed.now c.loop-place.place).phrase (Some c.loop-place.place) c.args.phrases c.loop-place.invariant.many;
  right = placed_more c.args.keyed.now c.loop-place.places.items (key_at c.args.keyed.now c.loop-place.place).phrase c.loop-place.place
      (record { there = c.loop-place-test.true; of_phrase = refl }) c.loop-place.invariant.right;
}
