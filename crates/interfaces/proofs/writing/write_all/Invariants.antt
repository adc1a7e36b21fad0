use Rattle.std.proofs.Common.{◌≡◌, drop, length}
use Rattle.interfaces.specs.Writes.{put_all}
use Rattle.interfaces.proofs.writing.write_all.Given as goal

abbrev pub invariant-loop-place : goal.invariant-loop-place
invariant-loop-place l = (put_all (drop l.place l.fields) (drop l.place l.numbers) l.cells ≡ put_all l.fields l.numbers l.fn.cells) × (length l.cells ≡ length l.fn.cells)
