use Rattle.std.proofs.Common.{◌≡◌, map, take, length}
use Rattle.ground_groups.specs.Heads.{places_of, send_key}
use Rattle.ground_groups.proofs.places.case_places.Given as goal

abbrev pub invariant-loop-place : goal.invariant-loop-place
invariant-loop-place l = record {
  long : length l.lists.items ≡ length l.heads.keys;
  lists_are : map (λ x. x.items) l.lists.items ≡ map (λ k. places_of k 0 (take l.place (map send_key l.cases))) l.heads.keys;
}
