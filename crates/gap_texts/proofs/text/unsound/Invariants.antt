use Rattle.std.proofs.Common.{◌≡◌, ◌≤◌, ◌+◌, drop, length, filter}
use Rattle.gap_texts.specs.GapText.{is_unsound}
use Rattle.gap_texts.proofs.text.unsound.Given as goal

abbrev pub invariant-loop-one : goal.invariant-loop-one
invariant-loop-one l = (l.count ≤ l.one-index) × (l.count + length (filter is_unsound (drop l.one-index l.told)) ≡ length (filter is_unsound l.told))
