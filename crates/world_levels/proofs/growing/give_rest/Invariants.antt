use Rattle.std.proofs.Common.{◌≡◌, ◌<◌, ℕ, slice_index_or}
use Rattle.world_levels.specs.Growing.{Grows}
use Rattle.world_levels.proofs.growing.give_rest.Given as goal

abbrev pub invariant-loop-part : goal.invariant-loop-part
invariant-loop-part l = record {
  grows : Grows 0 l.fn.slots.items l.slots.items l.fn.left.items l.left.items;
  none : (p : ℕ) → p < l.part → slice_index_or l.left.items p 0 ≡ 0;
}
