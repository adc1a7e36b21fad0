use Rattle.std.proofs.Common.{◌≡◌, drop, length}
use Rattle.std.specs.Cmp.Lexicographic.{pointwise}
use Rattle.worlds.specs.Ends.{is_between, written}
use Rattle.worlds.proofs.worlds.are_between.Given as goal

abbrev pub invariant-loop-place : goal.invariant-loop-place
invariant-loop-place l =
    (length l.numbers ≡ length l.ends)
    × (pointwise (λ e n. is_between (written e) n) (drop l.place l.ends) (drop l.place l.numbers) ≡ pointwise (λ e n. is_between (written e) n) l.ends l.numbers)
