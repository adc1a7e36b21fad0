use Rattle.std.proofs.Common.{◌≡◌, ℕ, Some, length, slice_get}
use Rattle.keyed_levels.specs.Keyed.{IsKeyOf}
use Rattle.keyed_levels.proofs.levels.places_of.Given as goal

-- as many as phrases, and each place so far is that of a key of its phrase
abbrev pub invariant-loop-place : goal.invariant-loop-place
invariant-loop-place l = record {
  many : length l.places.items ≡ l.phrases;
  right : (phrase place : ℕ) → slice_get l.places.items phrase ≡ Some (Some place) → IsKeyOf l.keyed phrase place;
}
